-- The figures that a plan starts from. Assumes nothing.
use Rattle.std.specs.Prelude.{◌≡◌, ℕ, zero as none, suc, ◌+◌, ◌*◌, Bool, cond, List, [], ◌∷◌, replicate}
use Rattle.rankings.specs.Choice.{FirstCheapest}
use Rattle.rankings.specs.Costs.{Cost, times, zero}
use Rattle.table.specs.declared.page.Page.{Page}
use Rattle.table.specs.declared.table.Table.{Table}
use Rattle.table.specs.Chains.{row_at}
use Rattle.planner.specs.Sweeps.{Shown}

-- the costs of n rows from the row k on
abbrev pub costs_from : Table → ℕ → ℕ → List Cost
costs_from t none k = []
costs_from t (suc n) k = (row_at t k).cost ∷ costs_from t n (k + 1)

-- the costs of all rows, in their order
abbrev pub row_costs : Table → List Cost
row_costs t = costs_from t t.rows 1

-- the cheapest, and the dearest, of a cost and of others; the first among equals
abbrev pub cheapest_among : (Cost → Cost → Bool) → Cost → List Cost → Cost
cheapest_among le best [] = best
cheapest_among le best (c ∷ cs) = cheapest_among le (cond (le best c) best c) cs

abbrev pub dearest_among : (Cost → Cost → Bool) → Cost → List Cost → Cost
dearest_among le worst [] = worst
dearest_among le worst (c ∷ cs) = dearest_among le (cond (le c worst) worst c) cs

-- of zero and all row costs
abbrev pub cheapest_cost : (Cost → Cost → Bool) → Table → Cost
cheapest_cost le t = cheapest_among le zero (row_costs t)

abbrev pub dearest_cost : (Cost → Cost → Bool) → Table → Cost
dearest_cost le t = dearest_among le zero (row_costs t)

-- zero, and then the cost of each row
abbrev pub candidate : Table → ℕ → Cost
candidate t none = zero
candidate t (suc k) = (row_at t (suc k)).cost

-- what the two are: the first cheapest of zero and all row costs, and the first that no other is dearer than
pub record Extremes (le : Cost → Cost → Bool) (t : Table) : Type 0 where
  pub cheapest : (r : ℕ) × (FirstCheapest le (candidate t) (t.rows + 1) r × (cheapest_cost le t ≡ candidate t r))
  pub dearest : (r : ℕ) × (FirstCheapest (λ a b. le b a) (candidate t) (t.rows + 1) r × (dearest_cost le t ≡ candidate t r))

-- q · b · c
abbrev pub start_figure : Table → Cost → Cost
start_figure t c = times (t.fineness * t.denominator) c

-- the first row of each grade, and the same floor and the same ceiling for all
abbrev pub start_of : (Cost → Cost → Bool) → Table → Shown
start_of le t = record { rows = t.first_row; floors = replicate 32 (start_figure t (cheapest_cost le t)); ceilings = replicate 32 (start_figure t (dearest_cost le t)) }

-- a page with start figures
pub record Start (le : Cost → Cost → Bool) (p : Page) : Type 0 where
  pub rows : p.figures.row ≡ p.sound.table.first_row
  pub floors : p.figures.floor.at ≡ replicate 32 (start_figure p.sound.table (cheapest_cost le p.sound.table))
  pub ceilings : p.figures.ceiling.at ≡ replicate 32 (start_figure p.sound.table (dearest_cost le p.sound.table))
