-- Each way out by one field more: what was read so far, and then the field that was not there, or the whole.
use Rattle.std.proofs.Common.{Some, w64, SFits, rules}
use Rattle.std.proofs.lemmas.Int.{to_z-of_z}
use Rattle.text.proofs.Reading.{first_then}
use Rattle.lines.proofs.line_reading.read_grade.Goals as goal

pub returns : goal.returns
returns c =
    let f0 : SFits w64 c.in_ok-number.number = search rules in
    let f1 : SFits w64 c.in_ok-first_row.first_row = search rules in
    simp to_z-of_z
    (first_then c.in_ok-number.number c.in_ok-number.rest.now c.in_ok-number.ensures (Some ((c.in_ok-first_row.first_row, c.in_ok-label.label.now), c.in_ok-label.rest.now))
    (first_then c.in_ok-first_row.first_row c.in_ok-first_row.rest.now c.in_ok-first_row.ensures (Some (c.in_ok-label.label.now, c.in_ok-label.rest.now))
    c.in_ok-label.ensures))
