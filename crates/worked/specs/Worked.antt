-- The worked cases, in numbers. Assumes nothing.
use Rattle.std.specs.Prelude.{◌≡◌, ℕ, Bool, true, [], ◌∷◌, ℤ, pos, neg_ℤ, Some, None, Option}
use Rattle.rankings.specs.Costs.{Cost}
use Rattle.rankings.specs.Models.{by_money, by_money_then_minutes, both_down, both_up}
use Rattle.table.specs.declared.fault.FiguresFault.{FiguresFault}
use Rattle.table.specs.declared.fault.FiguresFault.TheVariants.{Floor, Ceiling}
use Rattle.table.specs.declared.filing.FiledLine.{FiledLine}
use Rattle.table.specs.Faults.{table_fault}
use Rattle.table.specs.Filing.{filing_fault}
use Rattle.table.specs.Lookahead.{figure_at}
use Rattle.table.specs.Rules.{plan_row}
use Rattle.planner.specs.Start.{start_of}
use Rattle.planner.specs.Sweeps.{Shown, sweeps}
use Rattle.planner.specs.Improvements.{rounds}
use Rattle.worked.specs.Shops.{two_grades, one_grade}

-- n cents and no minutes
abbrev pub cents : ℕ → Cost
cents n = (pos n, pos 0)

-- n below zero
abbrev pub minus : ℕ → ℤ
minus n = neg_ℤ (pos n)

-- what stands at the grades 1 and 2
abbrev pub at_both : {A : Type 0} → (ℕ → A) → A × A
at_both f = (f 1, f 2)

-- what is shown for these grades: plan rows, floors and ceilings, in cents
pub record Shows (s : Shown) (rows floors ceilings : ℕ × ℕ) : Type 0 where
  pub plan : at_both (plan_row s.rows) ≡ rows
  pub low : at_both (figure_at s.floors) ≡ (cents floors.0, cents floors.1)
  pub high : at_both (figure_at s.ceilings) ≡ (cents ceilings.0, cents ceilings.1)

-- the shop of two grades, by money only: where it starts, and what n sweeps and n improvement rounds make of that
abbrev pub start : Shown
start = start_of by_money two_grades

abbrev pub swept : ℕ → Shown × (ℕ × Bool)
swept n = sweeps by_money both_down both_up two_grades n start

abbrev pub improved : ℕ → Shown × ℕ
improved n = rounds by_money both_up two_grades n start

-- what is filed for a grade: plan row, floor and ceiling, in cents
abbrev pub line : ℕ → ℕ → ℕ → FiledLine
line row floor ceiling = record { row = row; floor = cents floor; ceiling = cents ceiling }

-- the first rule that two lines for that shop break
abbrev pub fault : FiledLine → FiledLine → Option FiguresFault
fault first second = filing_fault by_money two_grades (first ∷ second ∷ [])

-- the plan row of the shop of one grade after one sweep, under a ranking
abbrev pub preferred : (Cost → Cost → Bool) → ℕ
preferred le = plan_row (sweeps le both_down both_up one_grade 1 (start_of le one_grade)).0.rows 1

pub record Worked : Type 0 where
  -- neither shop's table has a fault
  pub two_grades_sound : table_fault two_grades ≡ None
  pub one_grade_sound : table_fault one_grade ≡ None
  -- the figures that the shop of two grades starts from: rows, floors and ceilings of the grades 1 and 2
  pub at_start : Shows start (1, 2) (0, 0) (54, 54)
  -- after one sweep, and after two
  pub one_sweep : Shows (swept 1).0 (1, 2) (0, 20) (27, 47)
  pub two_sweeps : Shows (swept 2).0 (1, 3) (2, 27) (16, 41)
  -- of 200 sweeps 7 are run, since the seventh changes nothing
  pub settled : Shows (swept 200).0 (1, 3) (5, 29) (7, 31)
  pub settled_after : (swept 200).1 ≡ (7, true)
  -- one improvement round, in which one plan row gives way
  pub one_round : Shows (improved 1).0 (1, 3) (0, 0) (27, 47)
  pub one_gives_way : (improved 1).1 ≡ 1
  -- filed lines: 6 and 30 as floors and as ceilings are taken; a floor of 31, and a ceiling of 5, are not
  pub exact_taken : fault (line 1 6 6) (line 3 30 30) ≡ None
  pub floor_refused : fault (line 1 6 6) (line 3 31 30) ≡ Some (Floor 2 3)
  pub ceiling_refused : fault (line 1 0 5) (line 3 0 30) ≡ Some (Ceiling 1 1)
  -- of two rows that cost the same money, the first by money only, and the quicker by money then minutes
  pub equal_money : preferred by_money ≡ 1
  pub fewer_minutes : preferred by_money_then_minutes ≡ 2
  -- −7 over 2: −4 is the cheap rounding, −3 the dear one
  pub down_below_zero : both_down (minus 7, minus 7) 2 ≡ (minus 4, minus 4)
  pub up_below_zero : both_up (minus 7, minus 7) 2 ≡ (minus 3, minus 3)
