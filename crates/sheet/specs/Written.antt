-- What writing a sheet promises. Assumes nothing.
use Rattle.std.specs.Prelude.{◌≡◌, ℕ, ◌<◌, ◌≤◌, Bool, true, false, ◌⊎◌, List, length, Some, None, Ok, Err, Option, Result, ◌≢◌}
use Rattle.text.specs.Writing.{put}
use Rattle.table.specs.declared.figures.Figures.{Figures}
use Rattle.table.specs.declared.table.Table.{Table}
use Rattle.lines.specs.declared.fault.TextFault.{TextFault}
use Rattle.sheet.specs.declared.whole.Sheet.{Sheet}
use Rattle.sheet.specs.declared.write_fault.WriteFault.{WriteFault}
use Rattle.sheet.specs.declared.write_fault.WriteFault.TheVariants as fault
use Rattle.sheet.specs.Render.{labels_of, render}
use Rattle.sheet.specs.Refused.{FirstRefused}
use Rattle.sheet.specs.Whole.{SheetIn, line_of}

-- the old sheet says s, which has as many grades and rows as the table
pub record Old (old : List ℕ) (t : Table) (s : Sheet) : Type 0 where
  pub reads : SheetIn old s
  pub grades : s.table.grades ≡ t.grades
  pub rows : s.table.rows ≡ t.rows

-- the table's sheet, with the labels that the old sheet has at the places of s
abbrev pub relabelled : List ℕ → Table → Option Figures → Sheet → List ℕ
relabelled old t f s = render t f (labels_of old s.labels.grade) (labels_of old s.labels.row)

-- the figures, if they are wanted
abbrev pub shown_of : Bool → Figures → Option Figures
shown_of true f = Some f
shown_of false f = None

-- the old sheet says s, which has not as many grades and rows as the table
pub record Unlike (old : List ℕ) (t : Table) (s : Sheet) : Type 0 where
  pub reads : SheetIn old s
  pub differs : s.table.grades ≡ t.grades → s.table.rows ≢ t.rows

-- the old sheet is refused at the line l, or is unlike the table, and l is 0 then
abbrev pub OldRefused : List ℕ → Table → ℕ → Type 0
OldRefused old t l = ((e : TextFault) × (FirstRefused old e × (l ≡ line_of e))) ⊎ ((s : Sheet) × (Unlike old t s × (l ≡ 0)))

-- what writing answers, and what it leaves in the buffer: the sheet from the first byte on, or all as it was
abbrev pub Wrote : List ℕ → List ℕ → Table → Option Figures → Result ℕ WriteFault → List ℕ → Type 0
Wrote out old t f (Ok n) after = (s : Sheet) × (Old old t s × (n ≡ length (relabelled old t f s)) × (n ≤ length out) × (after ≡ put out 0 (relabelled old t f s)))
Wrote out old t f (Err (fault.Room n)) after = (s : Sheet) × (Old old t s × (n ≡ length (relabelled old t f s)) × (length out < n) × (after ≡ out))
Wrote out old t f (Err (fault.OldSheet l)) after = (l ≤ 675) × (after ≡ out)

-- where writing is refused for the old sheet, the line is that of its first refusal, or 0 where it is unlike the table
abbrev pub OldTold : List ℕ → Table → Result ℕ WriteFault → Type 0
OldTold old t (Ok n) = Unit {0}
OldTold old t (Err (fault.Room n)) = Unit {0}
OldTold old t (Err (fault.OldSheet l)) = OldRefused old t l
