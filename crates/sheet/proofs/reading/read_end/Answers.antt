use Rattle.std.proofs.Common.{◌++◌, drop, refl, ap, ◌∙◌, inl, inr, arith, rules}
use Rattle.std.proofs.lemmas.List.{drop_all, length-drop}
use Rattle.text.proofs.Reading.{not_some, same_pair}
use Rattle.lines.specs.Lines.{line_text, end}
use Rattle.sheet.proofs.OneLine.{not_end}
use Rattle.sheet.proofs.reading.read_end.Goals as goal

pub returns-in_default : goal.returns-in_default
returns-in_default c =
    let reads = rw c.in_default.is at c.line_at.ensures.reads in
    λ k. inl ((λ y rest good e. not_end c.in_default.field-0.0 (search rules) (same_pair _ end _ rest (reads.must end rest good e)).0), refl)

pub returns-in_default-2 : goal.returns-in_default-2
returns-in_default-2 c =
    let reads = rw c.in_default.is at c.line_at.ensures.reads in
    λ k. inl ((λ y rest good e. not_some (reads.must end rest good e)), refl)

pub returns-then-next-sheet : goal.returns-then-next-sheet
returns-then-next-sheet c =
    let sheet = c.args.sheet.now in
    let next = c.in-Ok-End-default.next in
    let reads = rw c.in-Ok-End-default.field-0-0-is at c.in-Ok-End-default.ensures.reads in
    λ k. inr (inr (drop next sheet, record { said = tt; good = tt; text = (reads.was end (drop next sheet) refl).1; ranged = tt }, (omega (arith, length-drop next sheet), refl)))

pub returns : goal.returns
returns c =
    let sheet = c.args.sheet.now in
    let next = c.in-Ok-End-default.next in
    let reads = rw c.in-Ok-End-default.field-0-0-is at c.in-Ok-End-default.ensures.reads in
    (reads.was end (drop next sheet) refl).1 ∙ ap (λ l. line_text end ++ l) (drop_all next sheet (omega arith))
