-- Figures that are replaced grade by grade keep their rules. Assumes nothing.
use Rattle.std.proofs.Common.{◌≡◌, ℕ, Bool, true, false, cond, ◌⊎◌, Some, None, sym, ap, ◌∙◌, subst, inl, inr, ⊎_elim}
use Rattle.std.proofs.lemmas.Bool.{cases_Bool, cond-true, cond-false}
use Rattle.rankings.specs.Costs.{Cost, times}
use Rattle.rankings.specs.Laws.{Ordered, Linear}
use Rattle.rankings.proofs.Derived.{reflexive, opposite}
use Rattle.table.specs.declared.table.Table.{Table}
use Rattle.table.specs.Ranges.{Within}
use Rattle.table.specs.Lookahead.{scaling, X}
use Rattle.table.specs.Kept.{RowOf, PlanRule, FloorRule, PlanCeilingRule}
use Rattle.table.proofs.Keeping.{row_in}
use Rattle.planner.proofs.Ahead.{X-le}
use Rattle.planner.proofs.Replacing.{or_old}

-- a value that is taken unless a test holds
pub unless : {A : Type 0} (b : Bool) (new old : A) → ((b ≡ true) × (or_old (cond b None (Some new)) old ≡ old)) ⊎ ((b ≡ false) × (or_old (cond b None (Some new)) old ≡ new))
unless b new old = ⊎_elim
    (λ e. inl (e, ap (λ o. or_old o old) (cond-true b None (Some new) e)))
    (λ e. inr (e, ap (λ o. or_old o old) (cond-false b None (Some new) e)))
    (cases_Bool b)

module _ (le : Cost → Cost → Bool) (o : Ordered le) (l : Linear le) (t : Table) where
  -- a figure that is replaced by z where z is dearer: it gets no cheaper
  pub taken_dearer : (z old new : Cost) → new ≡ or_old (cond (le z old) None (Some z)) old → (le old new ≡ true) × ((new ≡ old) ⊎ (new ≡ z))
  taken_dearer z old new e = ⊎_elim
      (λ c. (subst (λ x. le old x ≡ true) (sym (e ∙ c.1)) (reflexive o old), inl (e ∙ c.1)))
      (λ c. (subst (λ x. le old x ≡ true) (sym (e ∙ c.1)) (opposite o z old c.0), inr (e ∙ c.1)))
      (unless (le z old) z old)

  -- where z is cheaper: it gets no dearer
  pub taken_cheaper : (z old new : Cost) → new ≡ or_old (cond (le old z) None (Some z)) old → (le new old ≡ true) × ((new ≡ old) ⊎ (new ≡ z))
  taken_cheaper z old new e = ⊎_elim
      (λ c. (subst (λ x. le x old ≡ true) (sym (e ∙ c.1)) (reflexive o old), inl (e ∙ c.1)))
      (λ c. (subst (λ x. le x old ≡ true) (sym (e ∙ c.1)) (opposite o old z c.0), inr (e ∙ c.1)))
      (unless (le old z) z old)

  -- floors that rise, each no higher than every row of its grade allows by the old ones
  pub floors_rise : (w v : ℕ → Cost) → ((g : ℕ) → Within 1 t.grades g → le (w g) (v g) ≡ true) → ((g k : ℕ) → RowOf t g k → le (times (scaling t) (v g)) (X t k w) ≡ true) → FloorRule le t v
  floors_rise w v up room g k r = o.trans (times (scaling t) (v g)) (X t k w) (X t k v) (room g k r) (X-le le o l t w v up k (row_in t g k r))

  -- ceilings that sink, each no lower than its plan row needs by the old ones
  pub ceilings_sink : (plan : ℕ → ℕ) (w v : ℕ → Cost) → PlanRule t plan → ((g : ℕ) → Within 1 t.grades g → le (v g) (w g) ≡ true) → ((g : ℕ) → Within 1 t.grades g → le (X t (plan g) w) (times (scaling t) (v g)) ≡ true) → PlanCeilingRule le t plan v
  ceilings_sink plan w v p down room g h = o.trans (X t (plan g) v) (X t (plan g) w) (times (scaling t) (v g)) (X-le le o l t v w down (plan g) (row_in t g (plan g) (p g h))) (room g h)
