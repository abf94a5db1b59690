-- What is given for each grade of a table. Assumes nothing.
use Rattle.std.specs.Prelude.{◌≡◌, ℕ, ◌-◌, ◌<◌, List, length, None, Option, IfSome, slice_index_or}
use Rattle.std.specs.Option.{option_map}
use Rattle.rankings.specs.Costs.{Cost}
use Rattle.table.specs.declared.grade.Grade.{Grade}
use Rattle.table.specs.declared.sound.SoundTable.{SoundTable}
use Rattle.table.specs.Ranges.{Within, FigureIn}
use Rattle.planner.specs.declared.choice.Choice.{Choice}
use Rattle.planner.specs.Sweeps.{Shown, applied}

-- by a rule that says what may be given for a grade: of the first n grades, the first one's at 0, and none beyond
pub record Given {T : Type 0} (n : ℕ) (s : SoundTable) (rule : Grade → Option T → Type 0) (xs : List (Option T)) : Type 0 where
  pub long : length xs ≡ 32
  pub each : (g : ℕ) → Within 1 n g → (grade : Grade) × ((grade.sound.now ≡ s) × ((grade.number ≡ g) × rule grade (slice_index_or xs (g - 1) None)))
  pub beyond : (g : ℕ) → n < g → slice_index_or xs (g - 1) None ≡ None

-- what holds of all that is given
abbrev pub AllSome : {T : Type 0} → (T → Type 0) → List (Option T) → Type 0
AllSome P xs = (i : ℕ) → i < 32 → IfSome (slice_index_or xs i None) P

-- a ceiling in range, and a row of the table
abbrev pub ChoiceIn : ℕ → Choice → Type 0
ChoiceIn rows c = FigureIn c.cost × Within 1 rows c.row

-- what is given for the grade g, and the ceiling and the row of a choice that is
abbrev pub given_for : {T : Type 0} → List (Option T) → ℕ → Option T
given_for xs g = slice_index_or xs (g - 1) None

abbrev pub ceiling_for : List (Option Choice) → ℕ → Option Cost
ceiling_for choices g = option_map (λ c. c.cost) (given_for choices g)

abbrev pub row_for : List (Option Choice) → ℕ → Option ℕ
row_for choices g = option_map (λ c. c.row) (given_for choices g)

-- floors, and ceilings with their rows, of the first n grades replaced by what is given for each
abbrev pub revised_by : ℕ → List (Option Cost) → List (Option Choice) → Shown → Shown
revised_by n floors choices s = record {
  rows = applied (row_for choices) n s.rows;
  floors = applied (given_for floors) n s.floors;
  ceilings = applied (ceiling_for choices) n s.ceilings;
}
