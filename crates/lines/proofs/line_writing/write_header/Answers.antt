-- Each way out by one field more: what was written so far, and then the field that had no room, or the whole.
use Rattle.std.proofs.Common.{w64, SFits, rules}
use Rattle.std.proofs.lemmas.Int.{to_z-of_z}
use Rattle.text.proofs.Writing.{writes_then, writes_none}
use Rattle.lines.specs.Lines.{four_text}
use Rattle.lines.proofs.line_writing.write_header.Goals as goal

pub returns-in_err-at : goal.returns-in_err-at
returns-in_err-at c =
    let f0 : SFits w64 c.args.line.now.grades = search rules in
    let f1 : SFits w64 c.args.line.now.rows = search rules in
    let f2 : SFits w64 c.args.line.now.arcs = search rules in
    let f3 : SFits w64 c.args.line.now.total = search rules in
    rw c.from_residual.ensures
    (writes_none c.args.out.now c.args.at (four_text 32 (c.args.line.now.grades, (c.args.line.now.rows, (c.args.line.now.arcs, c.args.line.now.total)))) c.write_four.new.out (four_text 10 (c.args.line.now.numerator, (c.args.line.now.denominator, (c.args.line.now.fineness, c.args.line.now.figures)))) (simp to_z-of_z at c.in_err-at.ensures))

pub returns : goal.returns
returns c =
    let f0 : SFits w64 c.args.line.now.grades = search rules in
    let f1 : SFits w64 c.args.line.now.rows = search rules in
    let f2 : SFits w64 c.args.line.now.arcs = search rules in
    let f3 : SFits w64 c.args.line.now.total = search rules in
    let f4 : SFits w64 c.args.line.now.numerator = search rules in
    let f5 : SFits w64 c.args.line.now.denominator = search rules in
    let f6 : SFits w64 c.args.line.now.fineness = search rules in
    let f7 : SFits w64 c.args.line.now.figures = search rules in
    (writes_then c.args.out.now c.args.at (four_text 32 (c.args.line.now.grades, (c.args.line.now.rows, (c.args.line.now.arcs, c.args.line.now.total)))) c.write_four.new.out c.in_ok-at.at (simp to_z-of_z at c.in_ok-at.ensures) (four_text 10 (c.args.line.now.numerator, (c.args.line.now.denominator, (c.args.line.now.fineness, c.args.line.now.figures)))) c.write_four-2.result c.write_four-2.new.out
    (simp to_z-of_z at c.write_four-2.ensures))
