-- Each way out by one field more: what was written so far, and then the field that had no room, or the whole.
use Rattle.std.proofs.Common.{◌++◌, None, w64, SFits, rules}
use Rattle.std.proofs.lemmas.Int.{to_z-of_z}
use Rattle.text.specs.Fields.{label_text}
use Rattle.text.proofs.Writing.{writes_then, writes_none}
use Rattle.lines.specs.Lines.{blank, four_text}
use Rattle.lines.proofs.line_writing.write_row.Goals as goal

pub returns-in_err-at : goal.returns-in_err-at
returns-in_err-at c =
    let f0 : SFits w64 c.args.line.now.number = search rules in
    let f1 : SFits w64 c.args.line.now.next = search rules in
    let f2 : SFits w64 c.args.line.now.first_part = search rules in
    let f3 : SFits w64 c.args.line.now.second_part = search rules in
    rw c.from_residual.ensures
    (writes_none c.args.out.now c.args.at (four_text 32 (c.args.line.now.number, (c.args.line.now.next, (c.args.line.now.first_part, c.args.line.now.second_part)))) c.write_four.new.out ((blank c.args.line.now.first_arc) ++ (label_text c.args.line.now.label.now)) (simp to_z-of_z at c.in_err-at.ensures))

pub returns-in_err-at-2 : goal.returns-in_err-at-2
returns-in_err-at-2 c =
    let f0 : SFits w64 c.args.line.now.number = search rules in
    let f1 : SFits w64 c.args.line.now.next = search rules in
    let f2 : SFits w64 c.args.line.now.first_part = search rules in
    let f3 : SFits w64 c.args.line.now.second_part = search rules in
    let f4 : SFits w64 c.args.line.now.first_arc = search rules in
    rw c.from_residual-in_err-at-2.ensures
    (writes_then c.args.out.now c.args.at (four_text 32 (c.args.line.now.number, (c.args.line.now.next, (c.args.line.now.first_part, c.args.line.now.second_part)))) c.write_four.new.out c.in_ok-at.at (simp to_z-of_z at c.in_ok-at.ensures) ((blank c.args.line.now.first_arc) ++ (label_text c.args.line.now.label.now)) None c.write_field.new.out
    (writes_none c.write_four.new.out c.in_ok-at.at (blank c.args.line.now.first_arc) c.write_field.new.out (label_text c.args.line.now.label.now) (simp to_z-of_z at c.in_err-at-2.ensures.text)))

pub returns : goal.returns
returns c =
    let f0 : SFits w64 c.args.line.now.number = search rules in
    let f1 : SFits w64 c.args.line.now.next = search rules in
    let f2 : SFits w64 c.args.line.now.first_part = search rules in
    let f3 : SFits w64 c.args.line.now.second_part = search rules in
    let f4 : SFits w64 c.args.line.now.first_arc = search rules in
    (writes_then c.args.out.now c.args.at (four_text 32 (c.args.line.now.number, (c.args.line.now.next, (c.args.line.now.first_part, c.args.line.now.second_part)))) c.write_four.new.out c.in_ok-at.at (simp to_z-of_z at c.in_ok-at.ensures) ((blank c.args.line.now.first_arc) ++ (label_text c.args.line.now.label.now)) c.write_label.result c.write_label.new.out
    (writes_then c.write_four.new.out c.in_ok-at.at (blank c.args.line.now.first_arc) c.write_field.new.out c.in_ok-at-2.at (simp to_z-of_z at c.in_ok-at-2.ensures.text) (label_text c.args.line.now.label.now) c.write_label.result c.write_label.new.out
    c.write_label.ensures))
