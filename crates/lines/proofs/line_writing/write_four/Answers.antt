-- Each way out by one field more: what was written so far, and then the field that had no room, or the whole.
use Rattle.std.proofs.Common.{◌++◌, None, w64, SFits, rules}
use Rattle.std.proofs.lemmas.Int.{to_z-of_z}
use Rattle.text.specs.Fields.{byte_of, number_text}
use Rattle.text.proofs.Writing.{writes_then, writes_none}
use Rattle.lines.specs.Lines.{blank}
use Rattle.lines.proofs.line_writing.write_four.Goals as goal

pub returns-in_err-at-2 : goal.returns-in_err-at-2
returns-in_err-at-2 c =
    let f0 : SFits w64 c.args.numbers.0 = search rules in
    let f1 : SFits w64 c.args.numbers.1 = search rules in
    rw c.from_residual-in_err-at-2.ensures
    (writes_then c.args.out.now c.args.at (blank c.args.numbers.0) c.write_field.new.out c.in_ok-at.at (simp to_z-of_z at c.in_ok-at.ensures.text) ((blank c.args.numbers.1) ++ ((blank c.args.numbers.2) ++ (number_text (byte_of c.args.end) c.args.numbers.3))) None c.write_field-2.new.out
    (writes_none c.write_field.new.out c.in_ok-at.at (blank c.args.numbers.1) c.write_field-2.new.out ((blank c.args.numbers.2) ++ (number_text (byte_of c.args.end) c.args.numbers.3)) (simp to_z-of_z at c.in_err-at-2.ensures.text)))

pub returns-in_err-at-3 : goal.returns-in_err-at-3
returns-in_err-at-3 c =
    let f0 : SFits w64 c.args.numbers.0 = search rules in
    let f1 : SFits w64 c.args.numbers.1 = search rules in
    let f2 : SFits w64 c.args.numbers.2 = search rules in
    rw c.from_residual-in_err-at-3.ensures
    (writes_then c.args.out.now c.args.at (blank c.args.numbers.0) c.write_field.new.out c.in_ok-at.at (simp to_z-of_z at c.in_ok-at.ensures.text) ((blank c.args.numbers.1) ++ ((blank c.args.numbers.2) ++ (number_text (byte_of c.args.end) c.args.numbers.3))) None c.write_field-3.new.out
    (writes_then c.write_field.new.out c.in_ok-at.at (blank c.args.numbers.1) c.write_field-2.new.out c.in_ok-at-2.at (simp to_z-of_z at c.in_ok-at-2.ensures.text) ((blank c.args.numbers.2) ++ (number_text (byte_of c.args.end) c.args.numbers.3)) None c.write_field-3.new.out
    (writes_none c.write_field-2.new.out c.in_ok-at-2.at (blank c.args.numbers.2) c.write_field-3.new.out (number_text (byte_of c.args.end) c.args.numbers.3) (simp to_z-of_z at c.in_err-at-3.ensures.text))))

pub returns : goal.returns
returns c =
    let f0 : SFits w64 c.args.numbers.0 = search rules in
    let f1 : SFits w64 c.args.numbers.1 = search rules in
    let f2 : SFits w64 c.args.numbers.2 = search rules in
    let f3 : SFits w64 c.args.numbers.3 = search rules in
    (writes_then c.args.out.now c.args.at (blank c.args.numbers.0) c.write_field.new.out c.in_ok-at.at (simp to_z-of_z at c.in_ok-at.ensures.text) ((blank c.args.numbers.1) ++ ((blank c.args.numbers.2) ++ (number_text (byte_of c.args.end) c.args.numbers.3))) c.write_field-4.result c.write_field-4.new.out
    (writes_then c.write_field.new.out c.in_ok-at.at (blank c.args.numbers.1) c.write_field-2.new.out c.in_ok-at-2.at (simp to_z-of_z at c.in_ok-at-2.ensures.text) ((blank c.args.numbers.2) ++ (number_text (byte_of c.args.end) c.args.numbers.3)) c.write_field-4.result c.write_field-4.new.out
    (writes_then c.write_field-2.new.out c.in_ok-at-2.at (blank c.args.numbers.2) c.write_field-3.new.out c.in_ok-at-3.at (simp to_z-of_z at c.in_ok-at-3.ensures.text) (number_text (byte_of c.args.end) c.args.numbers.3) c.write_field-4.result c.write_field-4.new.out
    (simp to_z-of_z at c.write_field-4.ensures.text))))
