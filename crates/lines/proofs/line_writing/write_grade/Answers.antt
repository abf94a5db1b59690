-- Each way out by one field more: what was written so far, and then the field that had no room, or the whole.
use Rattle.std.proofs.Common.{◌++◌, None, w64, SFits, rules}
use Rattle.std.proofs.lemmas.Int.{to_z-of_z}
use Rattle.text.specs.Fields.{label_text}
use Rattle.text.proofs.Writing.{writes_then, writes_none}
use Rattle.lines.specs.Lines.{blank}
use Rattle.lines.proofs.line_writing.write_grade.Goals as goal

pub returns-in_err-at-2 : goal.returns-in_err-at-2
returns-in_err-at-2 c =
    let f0 : SFits w64 c.args.line.now.number = search rules in
    let f1 : SFits w64 c.args.line.now.first_row = search rules in
    rw c.from_residual-in_err-at-2.ensures
    (writes_then c.args.out.now c.args.at (blank c.args.line.now.number) c.write_field.new.out c.in_ok-at.at (simp to_z-of_z at c.in_ok-at.ensures.text) ((blank c.args.line.now.first_row) ++ (label_text c.args.line.now.label.now)) None c.write_field-2.new.out
    (writes_none c.write_field.new.out c.in_ok-at.at (blank c.args.line.now.first_row) c.write_field-2.new.out (label_text c.args.line.now.label.now) (simp to_z-of_z at c.in_err-at-2.ensures.text)))

pub returns : goal.returns
returns c =
    let f0 : SFits w64 c.args.line.now.number = search rules in
    let f1 : SFits w64 c.args.line.now.first_row = search rules in
    (writes_then c.args.out.now c.args.at (blank c.args.line.now.number) c.write_field.new.out c.in_ok-at.at (simp to_z-of_z at c.in_ok-at.ensures.text) ((blank c.args.line.now.first_row) ++ (label_text c.args.line.now.label.now)) c.write_label.result c.write_label.new.out
    (writes_then c.write_field.new.out c.in_ok-at.at (blank c.args.line.now.first_row) c.write_field-2.new.out c.in_ok-at-2.at (simp to_z-of_z at c.in_ok-at-2.ensures.text) (label_text c.args.line.now.label.now) c.write_label.result c.write_label.new.out
    c.write_label.ensures))
