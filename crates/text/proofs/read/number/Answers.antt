use Rattle.std.proofs.Common.{◌≡◌, ℕ, suc, ◌-◌, ◌≤◌, ◌<◌, length, take, drop, pos, negsuc, Some, ◌-ℤ◌, sym, refl, ⊎_elim, ◌∙◌, subst, arith, w64, SFits, to_z, rules}
use Rattle.std.proofs.lemmas.Int.{ints, to_z-of_z}
use Rattle.std.proofs.lemmas.Bool.{cases_lt, ltb-true, ltb-false}
use Rattle.std.proofs.lemmas.List.{get_or_past}
use Rattle.text.specs.Reading.{Reads}
use Rattle.text.specs.Fields.{byte_of, Short, Small, natural_text, number_text}
use Rattle.text.proofs.Numbers.{front1, minus_none, minus_zero, minus_some, plain_some}
use Rattle.text.proofs.read.number.Goals as goal
use Rattle.text.proofs.read.number.Goals.{in_default-via-then-bytes-lt1, in_default-via-else-bytes-lt1+in_default-1}

-- a number of few digits, and the one below zero
plain_is : (n : ℕ) → Short n → to_z w64 n ≡ pos n
plain_is n h = omega (arith, ints)

minus_is : (n : ℕ) → Short n → 0 < n → pos 0 -ℤ to_z w64 n ≡ negsuc (n - 1)
minus_is n h some = rw (plain_is n h) (omega (arith, ints))

minus_fits : (n : ℕ) → Short n → SFits w64 (pos 0 -ℤ to_z w64 n)
minus_fits n h =
    ⊎_elim
    (λ lt. rw (minus_is n h lt) (record { sfits = omega arith }))
    (λ (le : n ≤ 0). let none : n ≡ 0 = omega arith in rw none (search rules))
    (cases_lt 0 n)

pub returns-in_err-natural-in-45 : goal.returns-in_err-natural-in-45
returns-in_err-natural-in-45 c =
    rw c.from_residual.ensures
    (minus_none _ c.args.bytes.now _ (front1 c.args.bytes.now 45 (omega (arith, ltb-false)) (omega arith)) c.in_err-natural-in-45.ensures)

pub returns-in-0-default : goal.returns-in-0-default
returns-in-0-default c =
    let p = c.in_ok-natural-in-45.field-0 in
    let us = p.1.now in
    let bs = c.args.bytes.now in
    let none : p.0 ≡ 0 = search rules in
    minus_zero _ bs _ (front1 bs 45 (omega (arith, ltb-false)) (omega arith)) us
    (subst (λ k. Reads Short (natural_text (byte_of c.args.end)) (take (length bs - 1) (drop 1 bs)) (Some (k, us))) none c.in_ok-natural-in-45.ensures)

pub overflow_cast-result : goal.overflow_cast-result
overflow_cast-result c = let p = c.in_ok-natural-in-45.field-0 in let h = c.in_ok-natural-in-45.ensures.was p.0 p.1.now refl in record { sfits = omega (arith, h.0) }

pub overflow_sub-result : goal.overflow_sub-result
overflow_sub-result c = let p = c.in_ok-natural-in-45.field-0 in minus_fits p.0 (c.in_ok-natural-in-45.ensures.was p.0 p.1.now refl).0

pub overflow_cast-result-in_default : goal.overflow_cast-result-in_default
overflow_cast-result-in_default c = let h = c.in_ok-n-in_default.ensures.was c.in_ok-n-in_default.n c.in_ok-n-in_default.rest.now refl in record { sfits = omega (arith, h.0) }

pub returns-in_default-2 : goal.returns-in_default-2
returns-in_default-2 c =
    let p = c.in_ok-natural-in-45.field-0 in
    let n = p.0 in
    let us = p.1.now in
    let bs = c.args.bytes.now in
    let h = (c.in_ok-natural-in-45.ensures.was n us refl).0 in
    let fits = minus_fits n h in
    let positive : 0 < n = search rules in
    let some : n ≡ suc (n - 1) = omega arith in
    let is = minus_is n h positive in
    subst (λ z. Reads Small (number_text (byte_of c.args.end)) bs (Some (z, us))) (sym (to_z-of_z w64 (pos 0 -ℤ to_z w64 n) fits ∙ is))
    (minus_some _ bs _ (front1 bs 45 (omega (arith, ltb-false)) (omega arith)) (n - 1) us (subst (λ k. Reads Short (natural_text (byte_of c.args.end)) (take (length bs - 1) (drop 1 bs)) (Some (k, us))) some c.in_ok-natural-in-45.ensures))

pub returns-in_ok-n-in_default : goal.returns-in_ok-n-in_default
returns-in_ok-n-in_default c =
    let n = c.in_ok-n-in_default.n in
    let us = c.in_ok-n-in_default.rest.now in
    let bs = c.args.bytes.now in
    let h = (c.in_ok-n-in_default.ensures.was n us refl).0 in
    let is = plain_is n h in
    subst (λ z. Reads Small (number_text (byte_of c.args.end)) bs (Some (z, us))) (sym is)
    (plain_some _ bs (λ e. elim c.in_default.branch [ in_default-via-then-bytes-lt1 w ↦ (let short : length bs ≤ 0 = omega (arith, ltb-true) in omega (arith, get_or_past bs 0 0 short)) | in_default-via-else-bytes-lt1+in_default-1 w ↦ omega arith ]) n us c.in_ok-n-in_default.ensures)
