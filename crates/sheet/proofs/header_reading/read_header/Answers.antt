use Rattle.std.proofs.Common.{◌≡◌, ◌++◌, drop, refl, ap, ◌∙◌, inl, inr, sym, Some, None, Err, Option, rules}
use Rattle.std.specs.Option.{ok_or}
use Rattle.text.proofs.Reading.{not_some, same_pair}
use Rattle.lines.specs.declared.fault.TextFault.TheVariants as fault
use Rattle.lines.specs.Lines.{header, header_of, line_text}
use Rattle.sheet.proofs.Halting.{err_is, counted}
use Rattle.sheet.proofs.OneLine.{not_header}
use Rattle.sheet.proofs.header_reading.read_header.Goals as goal

fault_is : {T E : Type 0} (o : Option T) (e f : E) → o ≡ None → Err e ≡ ok_or o f → e ≡ f
fault_is (Some x) e f none is = absurd (not_some (sym none))
fault_is None e f none is = cc

pub returns-in_default : goal.returns-in_default
returns-in_default c =
    let reads = rw c.in_default.is at c.line_at.ensures.reads in
    inl ((λ h rest good e. not_header c.in_default.field-0.0 (search rules) h (same_pair _ (header h) _ rest (reads.must (header h) rest good e)).0), refl)

pub returns-in_default-2 : goal.returns-in_default-2
returns-in_default-2 c =
    let reads = rw c.in_default.is at c.line_at.ensures.reads in
    inl ((λ h rest good e. not_some (reads.must (header h) rest good e)), refl)

pub returns-in_err-header : goal.returns-in_err-header
returns-in_err-header c =
    let line = c.in-Ok-Header-default.line in
    let next = c.in-Ok-Header-default.next in
    let sheet = c.args.sheet.now in
    let reads = rw c.in-Ok-Header-default.field-0-0-is at c.in-Ok-Header-default.ensures.reads in
    let told = reads.was (header (header_of line)) (drop next sheet) refl in
    let none = c.in_err-header.ensures.ok_part in
    let is = fault_is c.header_of.result c.in_err-header.field-0.0 (fault.Range 1) none c.in_err-header.ensures.value in
    rw (err_is _ _ c.from_residual.ensures.1, is) (inr (record { said = header_of line; rest = drop next sheet; good = told.0; text = told.1; out = rw none at c.header_of.ensures }, refl))

pub returns : goal.returns
returns c =
    let line = c.in-Ok-Header-default.line in
    let next = c.in-Ok-Header-default.next in
    let sheet = c.args.sheet.now in
    let reads = rw c.in-Ok-Header-default.field-0-0-is at c.in-Ok-Header-default.ensures.reads in
    let told = reads.was (header (header_of line)) (drop next sheet) refl in
    let some = c.in_ok-header.ensures.ok_part in
    let said = rw some at c.header_of.ensures in
    (record { text = told.1 ∙ ap (λ h. line_text (header h) ++ drop next sheet) said; ranged = counted c.in_ok-header.header }, c.in-Ok-Header-default.ensures.place.1)
