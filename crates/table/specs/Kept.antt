-- The rules that figures keep, as relations: plan rows, floors and ceilings. Assumes nothing.
use Rattle.std.specs.Prelude.{◌≡◌, ℕ, Bool, true, Some, None, Option}
use Rattle.table.specs.declared.fault.FiguresFault.{FiguresFault}
use Rattle.rankings.specs.Costs.{Cost, times}
use Rattle.table.specs.declared.table.Table.{Table}
use Rattle.table.specs.declared.figures.Figures.{Figures}
use Rattle.table.specs.Ranges.{Within}
use Rattle.table.specs.Chains.{next_row, first_row}
use Rattle.table.specs.Sound.{InChain, Sound}
use Rattle.table.specs.Lookahead.{figure_at, scaling, X}
use Rattle.table.specs.Rules.{plan_row, figures_fault}

-- a row k of the grade g
pub record RowOf (t : Table) (g k : ℕ) : Type 0 where
  pub grade : Within 1 t.grades g
  pub chained : InChain (next_row t) (first_row t g) k

-- each grade's plan row lies in its chain
abbrev pub PlanRule : Table → (ℕ → ℕ) → Type 0
PlanRule t plan = (g : ℕ) → Within 1 t.grades g → RowOf t g (plan g)

module _ (le : Cost → Cost → Bool) (t : Table) where
  -- for every row k of a grade, b · D · its floor is no dearer than X(k, floors)
  abbrev pub FloorRule : (ℕ → Cost) → Type 0
  FloorRule w = (g k : ℕ) → RowOf t g k → le (times (scaling t) (w g)) (X t k w) ≡ true

  -- X(plan row, ceilings) is no dearer than b · D · the ceiling
  abbrev pub PlanCeilingRule : (ℕ → ℕ) → (ℕ → Cost) → Type 0
  PlanCeilingRule plan w = (g : ℕ) → Within 1 t.grades g → le (X t (plan g) w) (times (scaling t) (w g)) ≡ true

  pub record Kept (plan : ℕ → ℕ) (floors ceilings : ℕ → Cost) : Type 0 where
    pub planned : PlanRule t plan
    pub low : FloorRule floors
    pub high : PlanCeilingRule plan ceilings

-- of figures for a table
abbrev pub Keeps : (Cost → Cost → Bool) → Table → Figures → Type 0
Keeps le t f = Kept le t (plan_row f.row) (figure_at f.floor.at) (figure_at f.ceiling.at)

-- no fault where figures keep the rules, and a fault only where they do not
abbrev pub Tells : (Cost → Cost → Bool) → Table → Figures → Option FiguresFault → Type 0
Tells le t f None = Keeps le t f
Tells le t f (Some x) = Keeps le t f → ⊥

-- the check of figures finds nothing exactly where they keep the rules
abbrev pub KeptExactly : Type 0
KeptExactly = (le : Cost → Cost → Bool) (t : Table) → Sound t → (f : Figures) → (figures_fault le t f ≡ None → Keeps le t f) × (Keeps le t f → figures_fault le t f ≡ None)
