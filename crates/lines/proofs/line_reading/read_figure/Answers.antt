-- Each way out by one field more: what was read so far, and then the field that was not there, or the whole.
use Rattle.std.proofs.Common.{Some, None, w64, SFits, rules}
use Rattle.std.proofs.lemmas.Int.{to_z-of_z}
use Rattle.text.proofs.Reading.{first_none, first_then}
use Rattle.lines.specs.Lines.{four_text, GoodFour}
use Rattle.lines.proofs.line_reading.read_figure.Goals as goal

pub returns-in_err-row : goal.returns-in_err-row
returns-in_err-row c =
    rw c.from_residual-in_err-row.ensures
    (first_then c.in_ok-grade.grade c.in_ok-grade.rest.now c.in_ok-grade.ensures None
    (first_none GoodFour (four_text 10) c.in_err-row.ensures))

pub returns-in_err-floor_first : goal.returns-in_err-floor_first
returns-in_err-floor_first c =
    rw c.from_residual-in_err-floor_first.ensures
    (first_then c.in_ok-grade.grade c.in_ok-grade.rest.now c.in_ok-grade.ensures None
    (first_then c.in_ok-row.row c.in_ok-row.rest.now c.in_ok-row.ensures None
    c.in_err-floor_first.ensures))

pub returns : goal.returns
returns c =
    let f0 : SFits w64 c.in_ok-grade.grade = search rules in
    let f1 : SFits w64 c.in_ok-row.row = search rules in
    let f2 : SFits w64 c.in_ok-floor_first.floor_first = search rules in
    let f3 : SFits w64 c.in_ok-floor_first.floor_second = search rules in
    let f4 : SFits w64 c.in_ok-floor_first.ceiling_first = search rules in
    let f5 : SFits w64 c.in_ok-floor_first.ceiling_second = search rules in
    simp to_z-of_z
    (first_then c.in_ok-grade.grade c.in_ok-grade.rest.now c.in_ok-grade.ensures (Some ((c.in_ok-row.row, (c.in_ok-floor_first.floor_first, (c.in_ok-floor_first.floor_second, (c.in_ok-floor_first.ceiling_first, c.in_ok-floor_first.ceiling_second)))), c.in_ok-floor_first.rest.now))
    (first_then c.in_ok-row.row c.in_ok-row.rest.now c.in_ok-row.ensures (Some ((c.in_ok-floor_first.floor_first, (c.in_ok-floor_first.floor_second, (c.in_ok-floor_first.ceiling_first, c.in_ok-floor_first.ceiling_second))), c.in_ok-floor_first.rest.now))
    c.in_ok-floor_first.ensures))
