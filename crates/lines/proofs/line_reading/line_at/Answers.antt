use Rattle.std.proofs.Common.{rules, ◌≡◌, ◌+◌, ◌-◌, ◌<◌, ◌≤◌, ℕ, ◌++◌, List, length, take, drop, Some, None, Option, Bor, sym, ap, refl, ◌∙◌, subst, append_assoc, Ok, Err, Result, IsErr, arith}
use Rattle.std.specs.Option.{MatchOption}
use Rattle.std.proofs.lemmas.List.{take_rest, drop_all, take-append-drop, length-append, length-drop}
use Rattle.std.proofs.lemmas.List.Prefix.{end_rest}
use Rattle.text.specs.Reading.{Reads, seen}
use Rattle.text.proofs.Reading.{not_some, refused}
use Rattle.lines.specs.declared.records.Line.{Line}
use Rattle.lines.specs.Lines.{Good, line_text, entry_of}
use Rattle.lines.proofs.LineKinds.{labelled, no_line}
use Rattle.lines.specs.Places.{label_of, seen_at}
use Rattle.lines.specs.declared.fault.TextFault.{TextFault}
use Rattle.lines.proofs.line_reading.line_at.Goals as goal
use Rattle.lines.proofs.line_reading.line_at.Goals.{In_ok-line}

-- the line that was read from the bytes from the place on
read_there : (sheet : List ℕ) (at : ℕ) (B : Type 0) (o : Option (Bor (List ℕ))) (r : Option (Line × Bor (List ℕ))) (l : Line) (rest : Bor (List ℕ)) → ((x : Bor (List ℕ)) → o ≡ Some x → (at ≤ length sheet) × (x.now ≡ drop at sheet)) → MatchOption o (r ≡ None) (λ x. Reads Good line_text x.now (seen entry_of r) × B) → r ≡ Some (l, rest) → (at ≤ length sheet) × Reads Good line_text (drop at sheet) (Some (entry_of l, rest.now))
read_there sheet at B None r l rest got read is = absurd (not_some (sym read ∙ is))
read_there sheet at B (Some x) r l rest got read is =
    ((got x refl).0, subst (λ p. Reads Good line_text (drop at sheet) (seen entry_of p)) is (subst (λ bs. Reads Good line_text bs (seen entry_of r)) (got x refl).1 read.0))

-- where it ends
record Ends (sheet : List ℕ) (at : ℕ) (l : Line) (rest : List ℕ) : Type 0 where
  inside : length rest ≤ length sheet
  reads : Reads Good line_text (drop at sheet) (Some (entry_of l, drop (length sheet - length rest) sheet))
  place : (at < length sheet - length rest) × (length sheet - length rest ≤ length sheet) × (length (label_of l) + 1 + at ≤ length sheet - length rest)

ends_there : (sheet : List ℕ) (at : ℕ) (l : Line) (rest : List ℕ) → (at ≤ length sheet) × Reads Good line_text (drop at sheet) (Some (entry_of l, rest)) → Ends sheet at l rest
ends_there sheet at l rest (within, told) =
    let says = entry_of l in
    let is = (told.was says rest refl).1 in
    let cut = sym (take-append-drop at sheet) ∙ ap (λ bs. take at sheet ++ bs) is ∙ sym (append_assoc (take at sheet) (line_text says) rest) in
    let long = ap length is ∙ length-append (line_text says) rest in
    let left = length-drop at sheet in
    let room = labelled l in
    record {
      inside = omega arith;
      reads = subst (λ bs. Reads Good line_text (drop at sheet) (Some (says, bs))) (sym (end_rest sheet rest (take at sheet ++ line_text says) cut)) told;
      place = (omega arith, omega arith, omega arith);
    }

ended : (c : In_ok-line) → Ends c.args.sheet.now c.args.at c.in_ok-line.line c.in_ok-line.rest.now
ended c =
    ends_there c.args.sheet.now c.args.at c.in_ok-line.line c.in_ok-line.rest.now
    (read_there c.args.sheet.now c.args.at _ _ c.and_then.result c.in_ok-line.line c.in_ok-line.rest (λ x e. search (rules, take_rest)) c.and_then.ensures c.in_ok-line.ensures.ok_part)

pub overflow_sub-result : goal.overflow_sub-result
overflow_sub-result c = (ended (goal.at.overflow_sub-result c).In_ok-line).inside

pub returns-clause-reads : goal.returns-clause-reads
returns-clause-reads c = (ended (goal.at.returns-clause-reads c).In_ok-line).reads

pub returns-clause-place : goal.returns-clause-place
returns-clause-place c = (ended (goal.at.returns-clause-place c).In_ok-line).place

-- a place past the end, or bytes at it that begin with no line
none_there : (sheet : List ℕ) (at : ℕ) (B : Type 0) (o : Option (Bor (List ℕ))) (r : Option (Line × Bor (List ℕ))) → (o ≡ None → length sheet < at) → ((x : Bor (List ℕ)) → o ≡ Some x → x.now ≡ drop at sheet) → MatchOption o (r ≡ None) (λ x. Reads Good line_text x.now (seen entry_of r) × B) → r ≡ None → Reads Good line_text (drop at sheet) None
none_there sheet at B None r past got read is =
    let end : length sheet < at = past refl in
    refused (λ a rest g e. no_line a rest (sym (drop_all at sheet (omega arith)) ∙ e))
none_there sheet at B (Some x) r past got read is =
    subst (λ p. Reads Good line_text (drop at sheet) (seen entry_of p)) is (subst (λ bs. Reads Good line_text bs (seen entry_of r)) (got x refl) read.0)

no_line_seen : (sheet : List ℕ) (at : ℕ) (r : Result (Line × ℕ) TextFault) → IsErr r → Reads Good line_text (drop at sheet) None → Reads Good line_text (drop at sheet) (seen_at sheet r)
no_line_seen sheet at (Ok p) err none = cc
no_line_seen sheet at (Err e) err none = none

pub returns-in_err-line-clause-reads : goal.returns-in_err-line-clause-reads
returns-in_err-line-clause-reads c =
    no_line_seen c.args.sheet.now c.args.at _ c.from_residual.ensures.0
    (none_there c.args.sheet.now c.args.at _ _ c.and_then.result (λ e. search rules) (λ x e. search (rules, take_rest)) c.and_then.ensures c.in_err-line.ensures.ok_part)
