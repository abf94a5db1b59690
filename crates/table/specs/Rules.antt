-- The rules that figures keep, and the first one that they break. Assumes nothing.
use Rattle.std.specs.Prelude.{ℕ, zero, suc, ◌+◌, ◌-◌, Bool, true, false, cond, not, List, [], ◌∷◌, Some, None, Option, ◌==◌, slice_index}
use Rattle.rankings.specs.Costs.{Cost, times}
use Rattle.table.specs.declared.table.Table.{Table}
use Rattle.table.specs.declared.figures.Figures.{Figures}
use Rattle.table.specs.declared.fault.FiguresFault.{FiguresFault}
use Rattle.table.specs.declared.fault.FiguresFault.TheVariants.{PlanRow, Floor, Ceiling}
use Rattle.table.specs.Chains.{rows_of}
use Rattle.table.specs.Lookahead.{figure_at, scaling, lookahead_of}

-- whether k stands in a list
abbrev pub has : ℕ → List ℕ → Bool
has k [] = false
has k (x ∷ xs) = cond (x == k) true (has k xs)

-- the first number of a grade's list of which the test holds, with the grade; else what later grades give
abbrev pub first_in : (ℕ → ℕ → Bool) → ℕ → List ℕ → Option (ℕ × ℕ) → Option (ℕ × ℕ)
first_in bad g [] later = later
first_in bad g (k ∷ ks) later = cond (bad g k) (Some (g, k)) (first_in bad g ks later)

-- the same over n grades from g on, each with its list
abbrev pub first_pair : (ℕ → ℕ → Bool) → (ℕ → List ℕ) → ℕ → ℕ → Option (ℕ × ℕ)
first_pair bad list zero g = None
first_pair bad list (suc n) g = first_in bad g (list g) (first_pair bad list n (g + 1))

-- the plan row of the grade g
abbrev pub plan_row : List ℕ → ℕ → ℕ
plan_row rows g = slice_index rows (g - 1)

abbrev pub plan_only : List ℕ → ℕ → List ℕ
plan_only rows g = plan_row rows g ∷ []

-- the plan row is none of the grade's rows
abbrev pub strays : Table → ℕ → ℕ → Bool
strays t g k = not (has k (rows_of t g))

module _ (le : Cost → Cost → Bool) (t : Table) (w : ℕ → Cost) where
  -- what X(k, w), where there is a row k, is to be compared with
  abbrev pub keeps_floor : ℕ → Option Cost → Bool
  keeps_floor g None = false
  keeps_floor g (Some x) = le (times (scaling t) (w g)) x

  abbrev pub keeps_ceiling : ℕ → Option Cost → Bool
  keeps_ceiling g None = false
  keeps_ceiling g (Some x) = le x (times (scaling t) (w g))

  -- b · D · the floor of g is dearer than X(k, floors)
  abbrev pub breaks_floor : ℕ → ℕ → Bool
  breaks_floor g k = not (keeps_floor g (lookahead_of t k w))

  -- X(k, ceilings) is dearer than b · D · the ceiling of g
  abbrev pub breaks_ceiling : ℕ → ℕ → Bool
  breaks_ceiling g k = not (keeps_ceiling g (lookahead_of t k w))

-- the first place of each kind
abbrev pub first_stray : Table → List ℕ → Option (ℕ × ℕ)
first_stray t rows = first_pair (strays t) (plan_only rows) t.grades 1

abbrev pub first_floor : (Cost → Cost → Bool) → Table → List Cost → Option (ℕ × ℕ)
first_floor le t floors = first_pair (breaks_floor le t (figure_at floors)) (rows_of t) t.grades 1

abbrev pub first_ceiling : (Cost → Cost → Bool) → Table → List ℕ → List Cost → Option (ℕ × ℕ)
first_ceiling le t rows ceilings = first_pair (breaks_ceiling le t (figure_at ceilings)) (plan_only rows) t.grades 1

-- a fault at a place, if there is one, and else what comes later
abbrev pub or_later : Option (ℕ × ℕ) → (ℕ → ℕ → FiguresFault) → Option FiguresFault → Option FiguresFault
or_later (Some p) at later = Some (at p.0 p.1)
or_later None at later = later

abbrev pub figures_fault : (Cost → Cost → Bool) → Table → Figures → Option FiguresFault
figures_fault le t f =
    or_later (first_stray t f.row) PlanRow
    (or_later (first_floor le t f.floor.at) Floor
    (or_later (first_ceiling le t f.row f.ceiling.at) Ceiling None))
