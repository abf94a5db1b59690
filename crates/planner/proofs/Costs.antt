-- The costs of the rows, one after another. Assumes nothing.
use Rattle.std.proofs.Common.{◌≡◌, ℕ, zero, suc, ◌+◌, ◌-◌, Bool, true, false, List, ◌∷◌, get_or, arith}
use Rattle.rankings.specs.Costs.{Cost}
use Rattle.table.specs.declared.table.Table.{Table}
use Rattle.table.specs.Ranges.{row0}
use Rattle.planner.specs.Start.{costs_from, cheapest_among}

pub costs_next : (t : Table) (i n h : ℕ) → n ≡ h + 1 → costs_from t n (i + 1) ≡ (get_or t.row i row0).cost ∷ costs_from t h (i + 1 + 1)
costs_next t i zero h e = absurd (omega arith)
costs_next t i (suc n) h e =
    let less : n ≡ h = omega arith in
    let same : i + 1 - 1 ≡ i = omega arith in
    (λ j. (get_or t.row (same j) row0).cost ∷ costs_from t (less j) (i + 1 + 1))

module _ (le : Cost → Cost → Bool) (best c : Cost) (cs : List Cost) where
  pub cheapest_moves : le best c ≡ false → cheapest_among le best (c ∷ cs) ≡ cheapest_among le c cs
  cheapest_moves e = simp e

  pub cheapest_stays : le best c ≡ true → cheapest_among le best (c ∷ cs) ≡ cheapest_among le best cs
  cheapest_stays e = simp e
