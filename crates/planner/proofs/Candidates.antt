-- The cheapest and the dearest of zero and all row costs. Assumes nothing.
use Rattle.std.proofs.Common.{◌≡◌, ℕ, zero as none, suc, ◌+◌, ◌≤◌, Bool, cond, List, [], ◌∷◌, sym, refl, ap, ◌∙◌, subst, ⊎_elim, arith}
use Rattle.std.proofs.lemmas.Bool.{cases_Bool, cond-true, cond-false}
use Rattle.rankings.specs.Choice.{FirstCheapest}
use Rattle.rankings.specs.Costs.{Cost, zero}
use Rattle.rankings.specs.Laws.{Ordered}
use Rattle.rankings.proofs.Firsts.{alone, stays, moves}
use Rattle.table.specs.declared.table.Table.{Table}
use Rattle.table.specs.Chains.{row_at}
use Rattle.planner.specs.Start.{costs_from, row_costs, cheapest_among, dearest_among, candidate, Extremes}

-- the other way round
flipped : {le : Cost → Cost → Bool} → Ordered le → Ordered (λ a b. le b a)
flipped o = record { total = λ a b e. o.total b a e; trans = λ a b c p q. o.trans c b a q p }

pub dearest_flipped : (le : Cost → Cost → Bool) (w : Cost) (cs : List Cost) → dearest_among le w cs ≡ cheapest_among (λ a b. le b a) w cs
dearest_flipped le w [] = refl
dearest_flipped le w (c ∷ cs) = dearest_flipped le (cond (le c w) w c) cs

row_candidate : (t : Table) (k : ℕ) → 1 ≤ k → (row_at t k).cost ≡ candidate t k
row_candidate t none h = absurd (omega arith)
row_candidate t (suc k) h = refl

module _ {le : Cost → Cost → Bool} (o : Ordered le) (t : Table) where
  -- the first cheapest of k candidates, and n rows from there on
  go : (n k r : ℕ) → 1 ≤ k → FirstCheapest le (candidate t) k r → (s : ℕ) × (FirstCheapest le (candidate t) (k + n) s × (cheapest_among le (candidate t r) (costs_from t n k) ≡ candidate t s))
  go none k r h f = let same : k ≡ k + 0 = omega arith in (r, (subst (λ j. FirstCheapest le (candidate t) j r) same f, refl))
  go (suc n) k r h f =
      let best = candidate t r in
      let c = (row_at t k).cost in
      let is = row_candidate t k h in
      let same : k + 1 + n ≡ k + suc n = omega arith in
      ⊎_elim
      (λ e.
      let g = go n (k + 1) r (omega arith) (stays o (candidate t) k r f (ap (le best) (sym is) ∙ e)) in
      (g.0, (subst (λ j. FirstCheapest le (candidate t) j g.0) same g.1.0, ap (λ b. cheapest_among le b (costs_from t n (k + 1))) (cond-true (le best c) best c e) ∙ g.1.1)))
      (λ e.
      let g = go n (k + 1) k (omega arith) (moves o (candidate t) k r f (ap (le best) (sym is) ∙ e)) in
      (g.0, (subst (λ j. FirstCheapest le (candidate t) j g.0) same g.1.0, ap (λ b. cheapest_among le b (costs_from t n (k + 1))) (cond-false (le best c) best c e ∙ is) ∙ g.1.1)))
      (cases_Bool (le best c))

  all : (s : ℕ) × (FirstCheapest le (candidate t) (t.rows + 1) s × (cheapest_among le zero (row_costs t) ≡ candidate t s))
  all =
      let same : 1 + t.rows ≡ t.rows + 1 = omega arith in
      let g = go t.rows 1 0 (omega arith) (alone o (candidate t)) in
      (g.0, (subst (λ j. FirstCheapest le (candidate t) j g.0) same g.1.0, g.1.1))

pub extremes : (le : Cost → Cost → Bool) → Ordered le → (t : Table) → Extremes le t
extremes le o t =
    let most = all (flipped o) t in
    record { cheapest = all o t; dearest = (most.0, (most.1.0, dearest_flipped le zero (row_costs t) ∙ most.1.1)) }
