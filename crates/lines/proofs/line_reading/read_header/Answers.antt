-- Each way out by one field more: what was read so far, and then the field that was not there, or the whole.
use Rattle.std.proofs.Common.{Some, None, w64, SFits, rules}
use Rattle.std.proofs.lemmas.Int.{to_z-of_z}
use Rattle.text.proofs.Reading.{first_none, first_then}
use Rattle.lines.specs.Lines.{four_text, GoodFour}
use Rattle.lines.proofs.line_reading.read_header.Goals as goal

pub returns-in_err-grades : goal.returns-in_err-grades
returns-in_err-grades c =
    rw c.from_residual.ensures
    (first_none GoodFour (four_text 10) c.in_err-grades.ensures)

pub returns-in_err-numerator : goal.returns-in_err-numerator
returns-in_err-numerator c =
    rw c.from_residual-in_err-numerator.ensures
    (first_then (c.in_ok-grades.grades, (c.in_ok-grades.rows, (c.in_ok-grades.arcs, c.in_ok-grades.total))) c.in_ok-grades.rest.now c.in_ok-grades.ensures None
    c.in_err-numerator.ensures)

pub returns : goal.returns
returns c =
    let f0 : SFits w64 c.in_ok-grades.grades = search rules in
    let f1 : SFits w64 c.in_ok-grades.rows = search rules in
    let f2 : SFits w64 c.in_ok-grades.arcs = search rules in
    let f3 : SFits w64 c.in_ok-grades.total = search rules in
    let f4 : SFits w64 c.in_ok-numerator.numerator = search rules in
    let f5 : SFits w64 c.in_ok-numerator.denominator = search rules in
    let f6 : SFits w64 c.in_ok-numerator.fineness = search rules in
    let f7 : SFits w64 c.in_ok-numerator.figures = search rules in
    simp to_z-of_z
    (first_then (c.in_ok-grades.grades, (c.in_ok-grades.rows, (c.in_ok-grades.arcs, c.in_ok-grades.total))) c.in_ok-grades.rest.now c.in_ok-grades.ensures (Some ((c.in_ok-numerator.numerator, (c.in_ok-numerator.denominator, (c.in_ok-numerator.fineness, c.in_ok-numerator.figures))), c.in_ok-numerator.rest.now))
    c.in_ok-numerator.ensures)
