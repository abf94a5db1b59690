-- The cheapest row so far, along a grade's chain. Assumes nothing.
use Rattle.std.proofs.Common.{◌≡◌, ℕ, Bool, true, leb, List, Some, None, Option}
use Rattle.std.proofs.lemmas.Bool.{and_from, le-leb, cond-true}
use Rattle.rankings.specs.Costs.{Cost}
use Rattle.table.specs.declared.table.Table.{Table}
use Rattle.table.specs.Ranges.{Within}
use Rattle.table.specs.Chains.{rows_of}
use Rattle.planner.specs.declared.choice.Choice.{Choice}
use Rattle.planner.specs.Choices.{cheapest_from, cheapest_of, is_grade, cheapest_row}

module _ (le : Cost → Cost → Bool) (t : Table) (w : ℕ → Cost) (g : ℕ) (here : Within 1 t.grades g) where
  pub grade : is_grade t g ≡ true
  grade = and_from (leb 1 g) (leb g t.grades) (le-leb 1 g here.0) (le-leb g t.grades here.1)

  pub row_is : cheapest_row le t w g ≡ cheapest_of le t w (rows_of t g)
  row_is = cond-true (is_grade t g) (cheapest_of le t w (rows_of t g)) None grade

-- the cheapest of what is chosen so far, if anything is, and of more rows
abbrev pub cheapest_on : (Cost → Cost → Bool) → Table → (ℕ → Cost) → Option Choice → List ℕ → Option Choice
cheapest_on le t w None ks = cheapest_of le t w ks
cheapest_on le t w (Some b) ks = Some (cheapest_from le t w b ks)
