-- Each way out by one field more: what was read so far, and then the field that was not there, or the whole.
use Rattle.std.proofs.Common.{w64, SFits, rules}
use Rattle.std.proofs.lemmas.Int.{to_z-of_z}
use Rattle.lines.proofs.line_reading.read_arc.Goals as goal

pub returns : goal.returns
returns c =
    let f0 : SFits w64 c.in_ok-number.number = search rules in
    let f1 : SFits w64 c.in_ok-number.next = search rules in
    let f2 : SFits w64 c.in_ok-number.destination = search rules in
    let f3 : SFits w64 c.in_ok-number.weight = search rules in
    simp to_z-of_z
    c.in_ok-number.ensures
