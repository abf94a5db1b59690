-- Each way out by one field more: what was written so far, and then the field that had no room, or the whole.
use Rattle.std.proofs.Common.{◌++◌, None, w64, SFits, rules}
use Rattle.std.proofs.lemmas.Int.{to_z-of_z}
use Rattle.text.proofs.Writing.{writes_then, writes_none}
use Rattle.lines.specs.Lines.{blank, four_text}
use Rattle.lines.proofs.line_writing.write_figure.Goals as goal

pub returns-in_err-at-2 : goal.returns-in_err-at-2
returns-in_err-at-2 c =
    let f0 : SFits w64 c.args.line.now.grade = search rules in
    let f1 : SFits w64 c.args.line.now.row = search rules in
    rw c.from_residual-in_err-at-2.ensures
    (writes_then c.args.out.now c.args.at (blank c.args.line.now.grade) c.write_field.new.out c.in_ok-at.at (simp to_z-of_z at c.in_ok-at.ensures.text) ((blank c.args.line.now.row) ++ (four_text 10 (c.args.line.now.floor_first, (c.args.line.now.floor_second, (c.args.line.now.ceiling_first, c.args.line.now.ceiling_second))))) None c.write_field-2.new.out
    (writes_none c.write_field.new.out c.in_ok-at.at (blank c.args.line.now.row) c.write_field-2.new.out (four_text 10 (c.args.line.now.floor_first, (c.args.line.now.floor_second, (c.args.line.now.ceiling_first, c.args.line.now.ceiling_second)))) (simp to_z-of_z at c.in_err-at-2.ensures.text)))

pub returns : goal.returns
returns c =
    let f0 : SFits w64 c.args.line.now.grade = search rules in
    let f1 : SFits w64 c.args.line.now.row = search rules in
    let f2 : SFits w64 c.args.line.now.floor_first = search rules in
    let f3 : SFits w64 c.args.line.now.floor_second = search rules in
    let f4 : SFits w64 c.args.line.now.ceiling_first = search rules in
    let f5 : SFits w64 c.args.line.now.ceiling_second = search rules in
    (writes_then c.args.out.now c.args.at (blank c.args.line.now.grade) c.write_field.new.out c.in_ok-at.at (simp to_z-of_z at c.in_ok-at.ensures.text) ((blank c.args.line.now.row) ++ (four_text 10 (c.args.line.now.floor_first, (c.args.line.now.floor_second, (c.args.line.now.ceiling_first, c.args.line.now.ceiling_second))))) c.write_four.result c.write_four.new.out
    (writes_then c.write_field.new.out c.in_ok-at.at (blank c.args.line.now.row) c.write_field-2.new.out c.in_ok-at-2.at (simp to_z-of_z at c.in_ok-at-2.ensures.text) (four_text 10 (c.args.line.now.floor_first, (c.args.line.now.floor_second, (c.args.line.now.ceiling_first, c.args.line.now.ceiling_second)))) c.write_four.result c.write_four.new.out
    (simp to_z-of_z at c.write_four.ensures)))
