use Rattle.std.proofs.Common.{ℕ, ◌+◌, ◌<◌, ◌≤◌, List, length, drop, Some, None, Option, MatchOption, IfSome, IfNone, sym, ap, ◌∙◌, arith, rules}
use Rattle.std.proofs.lemmas.Iterator.{first_from_Range}
use Rattle.std.proofs.lemmas.List.{length-drop, length-take}
use Rattle.cases.specs.Shows.{StandsAt}
use Rattle.cases.proofs.edit.first_place.Goals as goal

module _ (text old : List ℕ) where
  room : (k : ℕ) → k < length text → StandsAt text old k → k + length old ≤ length text
  room k within stands = omega (arith, sym (ap length stands) ∙ length-take (length old) (drop k text), length-drop k text, within)

  -- what the library says of a `find` over these places
  abbrev Found : Option ℕ → Type 0
  Found r = MatchOption r ((k : ℕ) → 0 ≤ k → k < length text → StandsAt text old k → ⊥) (λ i. (0 ≤ i) × (i < length text) × StandsAt text old i × ((k : ℕ) → 0 ≤ k → k < i → StandsAt text old k → ⊥))

  some : (r : Option ℕ) → Found r → IfSome r (λ k. (k + length old ≤ length text) × StandsAt text old k × ((j : ℕ) → j < k → StandsAt text old j → ⊥))
  some None h = tt
  some (Some i) h = (room i h.1 h.2, h.2, λ j before. h.3 j (omega arith) before)

  none : (r : Option ℕ) → Found r → IfNone r ((k : ℕ) → k < length text → StandsAt text old k → ⊥)
  none None h = λ k within. h k (omega arith) within
  none (Some i) h = tt

pub returns : goal.returns
returns c =
    let text = c.args.text.now in
    let old = c.args.old.now in
    let found : Found text old c.find.result = first_from_Range _ _ _ _ _ _ c.find.ensures.ran (λ x q k. search rules) (λ x q k. search rules) in
    record { some = some text old _ found; none = none text old _ found }
