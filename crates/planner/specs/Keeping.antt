-- What start figures, sweeps, improvement rounds and the nearer of two figures keep. Assumes nothing.
use Rattle.std.specs.Prelude.{◌≡◌, ℕ, Bool, true, cond, length, Some, None, Option}
use Rattle.std.specs.Option.{option_map}
use Rattle.rankings.specs.Costs.{Cost}
use Rattle.rankings.specs.Laws.{Ordered, Linear, Rounds}
use Rattle.table.specs.declared.table.Table.{Table}
use Rattle.table.specs.Ranges.{Within, FiguresIn}
use Rattle.table.specs.Lookahead.{figure_at}
use Rattle.table.specs.Rules.{plan_row}
use Rattle.table.specs.Sound.{Sound}
use Rattle.table.specs.Kept.{Kept}
use Rattle.planner.specs.declared.choice.Choice.{Choice}
use Rattle.planner.specs.Start.{start_of}
use Rattle.planner.specs.Sweeps.{Shown, applied, sweeps}
use Rattle.planner.specs.Improvements.{rounds}

-- what is shown keeps the rules
abbrev pub ShownKept : (Cost → Cost → Bool) → Table → Shown → Type 0
ShownKept le t s = Kept le t (plan_row s.rows) (figure_at s.floors) (figure_at s.ceilings)

-- what is shown has a place for each grade, and its figures are in range
pub record InRange (s : Shown) : Type 0 where
  pub rows_long : length s.rows ≡ 32
  pub floors_long : length s.floors ≡ 32
  pub ceilings_long : length s.ceilings ≡ 32
  pub floors_in : FiguresIn s.floors
  pub ceilings_in : FiguresIn s.ceilings

-- no floor is cheaper than it was, and no ceiling dearer
pub record Nearer (le : Cost → Cost → Bool) (t : Table) (before after : Shown) : Type 0 where
  pub floors : (g : ℕ) → Within 1 t.grades g → le (figure_at before.floors g) (figure_at after.floors g) ≡ true
  pub ceilings : (g : ℕ) → Within 1 t.grades g → le (figure_at after.ceilings g) (figure_at before.ceilings g) ≡ true

-- figures that come after others: in range, by the rules, and nearer to each other
pub record Follows (le : Cost → Cost → Bool) (t : Table) (before after : Shown) : Type 0 where
  pub ranged : InRange after
  pub kept : ShownKept le t after
  pub nearer : Nearer le t before after

-- where the rules were kept, they still are, and floors and ceilings are no further from each other
abbrev pub Keeping : (Cost → Cost → Bool) → Table → Shown → Shown → Type 0
Keeping le t before after = ShownKept le t before → Follows le t before after

-- grade by grade the dearer of two floors, and the cheaper of two ceilings with its row; of equal ones the first
module _ (le : Cost → Cost → Bool) (s r : Shown) where
  abbrev pub dearer_floor : ℕ → Option Cost
  dearer_floor g = cond (le (figure_at r.floors g) (figure_at s.floors g)) None (Some (figure_at r.floors g))

  -- a ceiling with its row
  abbrev pub cheaper_choice : ℕ → Option Choice
  cheaper_choice g = cond (le (figure_at s.ceilings g) (figure_at r.ceilings g)) None (Some (record { row = plan_row r.rows g; cost = figure_at r.ceilings g }))

  abbrev pub cheaper_ceiling : ℕ → Option Cost
  cheaper_ceiling g = option_map (λ c. c.cost) (cheaper_choice g)

  abbrev pub cheaper_row : ℕ → Option ℕ
  cheaper_row g = option_map (λ c. c.row) (cheaper_choice g)

  abbrev pub nearer_of : ℕ → Shown
  nearer_of n = record { rows = applied cheaper_row n s.rows; floors = applied dearer_floor n s.floors; ceilings = applied cheaper_ceiling n s.ceilings }

-- start figures keep the rules
abbrev pub StartKeeps : Type 0
StartKeeps = (le : Cost → Cost → Bool) → Ordered le → Linear le → (t : Table) → Sound t → ShownKept le t (start_of le t)

-- any number of sweeps keep them, and draw floors and ceilings nearer
abbrev pub SweepsKeep : Type 0
SweepsKeep = (le : Cost → Cost → Bool) (cheap dear : Cost → ℕ → Cost) → Ordered le → Linear le → Rounds le cheap dear → (t : Table) → Sound t →
    (n : ℕ) (s : Shown) → InRange s → ShownKept le t s → Follows le t s (sweeps le cheap dear t n s).0

-- and so do improvement rounds
abbrev pub RoundsKeep : Type 0
RoundsKeep = (le : Cost → Cost → Bool) (cheap dear : Cost → ℕ → Cost) → Ordered le → Linear le → Rounds le cheap dear → (t : Table) → Sound t →
    (n : ℕ) (s : Shown) → InRange s → ShownKept le t s → Follows le t s (rounds le dear t n s).0

-- the nearer of two figures that keep the rules keeps them, and is as near as both
abbrev pub NearerKeeps : Type 0
NearerKeeps = (le : Cost → Cost → Bool) → Ordered le → Linear le → (t : Table) → Sound t →
    (s r : Shown) → InRange s → InRange r → ShownKept le t s → ShownKept le t r → Follows le t s (nearer_of le s r t.grades) × Nearer le t r (nearer_of le s r t.grades)
