-- The cheapest row of a grade. Assumes nothing.
use Rattle.std.specs.Prelude.{◌≡◌, ℕ, Bool, true, false, cond, ◌&&◌, List, [], ◌∷◌, ◌++◌, Some, None, Option, nat_le}
use Rattle.rankings.specs.Costs.{Cost}
use Rattle.table.specs.declared.table.Table.{Table}
use Rattle.table.specs.Ranges.{Within}
use Rattle.table.specs.Chains.{rows_of}
use Rattle.table.specs.Lookahead.{X}
use Rattle.table.specs.Rules.{has}
use Rattle.planner.specs.declared.choice.Choice.{Choice}

-- a row with what it costs one step ahead of the figures w
abbrev pub choice_of : Table → (ℕ → Cost) → ℕ → Choice
choice_of t w k = record { row = k; cost = X t k w }

-- the first of two choices, unless the second is cheaper
abbrev pub cheaper_of : (Cost → Cost → Bool) → Choice → Choice → Choice
cheaper_of le best next = cond (le best.cost next.cost) best next

-- the cheapest of a choice and of rows, the first among equals
abbrev pub cheapest_from : (Cost → Cost → Bool) → Table → (ℕ → Cost) → Choice → List ℕ → Choice
cheapest_from le t w best [] = best
cheapest_from le t w best (k ∷ ks) = cheapest_from le t w (cheaper_of le best (choice_of t w k)) ks

-- the cheapest of rows, if there are any
abbrev pub cheapest_of : (Cost → Cost → Bool) → Table → (ℕ → Cost) → List ℕ → Option Choice
cheapest_of le t w [] = None
cheapest_of le t w (k ∷ ks) = Some (cheapest_from le t w (choice_of t w k) ks)

abbrev pub is_grade : Table → ℕ → Bool
is_grade t g = nat_le 1 g && nat_le g t.grades

-- the cheapest row of the grade g
abbrev pub cheapest_row : (Cost → Cost → Bool) → Table → (ℕ → Cost) → ℕ → Option Choice
cheapest_row le t w g = cond (is_grade t g) (cheapest_of le t w (rows_of t g)) None

-- what it is to be the cheapest of rows: no row is cheaper, and each row before it is dearer
pub record Cheapest (le : Cost → Cost → Bool) (t : Table) (w : ℕ → Cost) (ks : List ℕ) (c : Choice) : Type 0 where
  pub is : c.cost ≡ X t c.row w
  pub before : List ℕ
  pub after : List ℕ
  pub split : ks ≡ before ++ c.row ∷ after
  pub least : (k : ℕ) → has k ks ≡ true → le c.cost (X t k w) ≡ true
  pub first : (k : ℕ) → has k before ≡ true → le (X t k w) c.cost ≡ false

-- of a grade's rows; none only where there is no such grade
abbrev pub CheapestOf : (Cost → Cost → Bool) → Table → (ℕ → Cost) → ℕ → Option Choice → Type 0
CheapestOf le t w g (Some c) = Within 1 t.grades g × Cheapest le t w (rows_of t g) c
CheapestOf le t w g None = Within 1 t.grades g → ⊥
