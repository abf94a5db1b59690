-- Lines of plan row, floor and ceiling that somebody files: their rules, and the first one that they break. Assumes nothing.
use Rattle.std.specs.Prelude.{◌≡◌, ℕ, ◌^◌, Bool, not, ◌&&◌, List, map, length, Some, None, Ok, Err, Option, Result, nat_le, pos, slice_index_or, unsigned_abs}
use Rattle.rankings.specs.Costs.{Cost}
use Rattle.table.specs.declared.fault.FiguresFault.{FiguresFault}
use Rattle.table.specs.declared.fault.FiguresFault.TheVariants.{PlanRow, Part, Floor, Ceiling}
use Rattle.table.specs.declared.fault.FilingFault.{FilingFault}
use Rattle.table.specs.declared.fault.FilingFault.TheVariants as fault
use Rattle.table.specs.declared.figures.Figures.{Figures}
use Rattle.table.specs.declared.filing.FiledLine.{FiledLine}
use Rattle.table.specs.declared.page.Page.{Page}
use Rattle.table.specs.declared.sound.SoundTable.{SoundTable}
use Rattle.table.specs.declared.table.Table.{Table}
use Rattle.table.specs.Ranges.{Within, FigureIn}
use Rattle.table.specs.Faults.{lowest}
use Rattle.table.specs.Lookahead.{figure_at}
use Rattle.table.specs.Rules.{plan_row, first_stray, first_floor, first_ceiling, or_later}
use Rattle.table.specs.Kept.{Kept}

-- the plan rows, the floors and the ceilings that are filed, the first line for the grade 1
abbrev pub filed_rows : List FiledLine → List ℕ
filed_rows = map (λ l. l.row)

abbrev pub filed_floors : List FiledLine → List Cost
filed_floors = map (λ l. l.floor)

abbrev pub filed_ceilings : List FiledLine → List Cost
filed_ceilings = map (λ l. l.ceiling)

-- what stands for a line past the end of a list
abbrev pub no_line : FiledLine
no_line = record { row = 0; floor = (pos 0, pos 0); ceiling = (pos 0, pos 0) }

-- whether each part of a figure is in range
abbrev pub is_figure : Cost → Bool
is_figure w = nat_le (unsigned_abs w.0) (10 ^ 10) && nat_le (unsigned_abs w.1) (10 ^ 10)

-- whether a part of the grade's floor or ceiling is out of range
abbrev pub outsized : List FiledLine → ℕ → Bool
outsized ls g = not (is_figure (figure_at (filed_floors ls) g) && is_figure (figure_at (filed_ceilings ls) g))

-- a part out of range at a grade, if there is one, and else what comes later
abbrev pub or_part : Option ℕ → Option FiguresFault → Option FiguresFault
or_part (Some g) later = Some (Part g)
or_part None later = later

-- the first broken rule: plan rows, then ranges, then floors, then ceilings, each over all grades
abbrev pub filing_fault : (Cost → Cost → Bool) → Table → List FiledLine → Option FiguresFault
filing_fault le t ls =
    or_later (first_stray t (filed_rows ls)) PlanRow
    (or_part (lowest (outsized ls) t.grades)
    (or_later (first_floor le t (filed_floors ls)) Floor
    (or_later (first_ceiling le t (filed_rows ls) (filed_ceilings ls)) Ceiling None)))

-- a list of 32 that holds one thing of each line, and beyond the lines what stands for none
abbrev pub Copies : {A : Type 0} → (FiledLine → A) → A → List FiledLine → List A → Type 0
Copies f d ls xs = (length xs ≡ 32) × ((i : ℕ) → slice_index_or xs i d ≡ slice_index_or (map f ls) i d)

-- figures that say of each grade what its line says, and nothing of others
pub record Says (f : Figures) (ls : List FiledLine) : Type 0 where
  pub rows : (g : ℕ) → plan_row f.row g ≡ plan_row (filed_rows ls) g
  pub floors : (g : ℕ) → figure_at f.floor.at g ≡ figure_at (filed_floors ls) g
  pub ceilings : (g : ℕ) → figure_at f.ceiling.at g ≡ figure_at (filed_ceilings ls) g

-- the filed figures as a page, where no rule is broken; and else which
abbrev pub Filed : (Cost → Cost → Bool) → SoundTable → List FiledLine → Result Page FilingFault → Type 0
Filed le s ls (Ok p) = (length ls ≡ s.table.grades) × (filing_fault le s.table ls ≡ None) × (p.sound ≡ s) × Says p.figures ls
Filed le s ls (Err fault.Lines) = length ls ≡ s.table.grades → ⊥
Filed le s ls (Err (fault.Figures e)) = (length ls ≡ s.table.grades) × (filing_fault le s.table ls ≡ Some e)

-- the filing rules
pub record FilingKept (le : Cost → Cost → Bool) (t : Table) (ls : List FiledLine) : Type 0 where
  -- one line for each grade
  pub lines : length ls ≡ t.grades
  -- figure parts are within range
  pub floors_in : (g : ℕ) → Within 1 t.grades g → FigureIn (figure_at (filed_floors ls) g)
  pub ceilings_in : (g : ℕ) → Within 1 t.grades g → FigureIn (figure_at (filed_ceilings ls) g)
  -- plan rows lie in their chains, and floors and ceilings keep their rules
  pub kept : Kept le t (plan_row (filed_rows ls)) (figure_at (filed_floors ls)) (figure_at (filed_ceilings ls))

-- a filing is taken exactly where it keeps the rules
abbrev pub FilingTells : (Cost → Cost → Bool) → Table → List FiledLine → Result Page FilingFault → Type 0
FilingTells le t ls (Ok p) = FilingKept le t ls
FilingTells le t ls (Err e) = FilingKept le t ls → ⊥
