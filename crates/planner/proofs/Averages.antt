-- The laws of the weighted sum over arcs. Assumes nothing.
use Rattle.std.proofs.Common.{◌≡◌, ℕ, Bool, true, List, [], ◌∷◌, sym, ap, ◌∙◌}
use Rattle.rankings.specs.Costs.{Cost, plus, times, zero}
use Rattle.rankings.specs.Laws.{Ordered, Linear}
use Rattle.rankings.specs.Algebra.{plus_comm, plus_assoc, zero_plus, times_plus, sum_times, times_swap, zero_times, times_zero}
use Rattle.rankings.proofs.Derived.{reflexive, adds_both, scales_any}
use Rattle.table.specs.declared.table.Table.{Table}
use Rattle.table.specs.Ranges.{Within}
use Rattle.table.specs.Chains.{arc_at, weights}
use Rattle.table.specs.Lookahead.{mean}

-- the middle two of four change places
pub middle : (x y u v : Cost) → plus (plus x y) (plus u v) ≡ plus (plus x u) (plus y v)
middle x y u v =
    plus_assoc x y (plus u v) ∙ ap (plus x) (sym (plus_assoc y u v) ∙ ap (λ z. plus z v) (plus_comm y u) ∙ plus_assoc u y v) ∙ sym (plus_assoc x u (plus y v))

module _ (t : Table) where
  pub mean_times : (k : ℕ) (xs : List ℕ) (w : ℕ → Cost) → mean t (λ d. times k (w d)) xs ≡ times k (mean t w xs)
  mean_times k [] w = sym (times_zero k)
  mean_times k (x ∷ xs) w =
      let a = (arc_at t x).weight in
      let v = w (arc_at t x).destination in
      (λ i. plus (times_swap a k v i) (mean_times k xs w i)) ∙ sym (times_plus k (times a v) (mean t w xs))

  -- the same cost more at each destination
  pub mean_plus : (c : Cost) (xs : List ℕ) (w : ℕ → Cost) → mean t (λ d. plus (w d) c) xs ≡ plus (mean t w xs) (times (weights t xs) c)
  mean_plus c [] w = sym (zero_plus (times 0 c) ∙ zero_times c)
  mean_plus c (x ∷ xs) w =
      let a = (arc_at t x).weight in
      let v = w (arc_at t x).destination in
      (λ i. plus (times_plus a v c i) (mean_plus c xs w i)) ∙ middle (times a v) (times a c) (mean t w xs) (times (weights t xs) c)
      ∙ ap (plus (plus (times a v) (mean t w xs))) (sym (sum_times a (weights t xs) c))

  pub mean_same : (c : Cost) (xs : List ℕ) → mean t (λ d. c) xs ≡ times (weights t xs) c
  mean_same c [] = sym (zero_times c)
  mean_same c (x ∷ xs) = ap (plus (times (arc_at t x).weight c)) (mean_same c xs) ∙ sym (sum_times (arc_at t x).weight (weights t xs) c)

-- each arc of a list leads to a grade
abbrev pub Leads : Table → List ℕ → Type 0
Leads t [] = Unit {0}
Leads t (x ∷ xs) = Within 1 t.grades (arc_at t x).destination × Leads t xs

pub le_mean : (le : Cost → Cost → Bool) → Ordered le → Linear le → (t : Table) (u v : ℕ → Cost) → ((d : ℕ) → Within 1 t.grades d → le (u d) (v d) ≡ true) → (xs : List ℕ) → Leads t xs → le (mean t u xs) (mean t v xs) ≡ true
le_mean le o l t u v h [] e = reflexive o zero
le_mean le o l t u v h (x ∷ xs) e =
    let a = (arc_at t x).weight in
    let d = (arc_at t x).destination in
    adds_both o l (times a (u d)) (times a (v d)) (mean t u xs) (mean t v xs) (scales_any o l a (u d) (v d) (h d e.0)) (le_mean le o l t u v h xs e.1)
