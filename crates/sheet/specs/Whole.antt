-- What reading a whole sheet promises. Assumes nothing.
use Rattle.std.specs.Prelude.{◌≡◌, ℕ, ◌<◌, ◌≤◌, List, length}
use Rattle.text.specs.Fields.{Label}
use Rattle.table.specs.Ranges.{Within}
use Rattle.lines.specs.declared.fault.TextFault.{TextFault}
use Rattle.lines.specs.declared.fault.TextFault.TheVariants as fault
use Rattle.sheet.specs.declared.whole.Sheet.{Sheet}
use Rattle.sheet.specs.Read.{PlansIn}
use Rattle.sheet.specs.Render.{labels_of, render}
use Rattle.sheet.specs.Spans.{SpansIn}

-- the bytes are the rendering of what was read, and no more than a sheet may have; each label lies in them, and each plan row is one of the rows
pub record SheetIn (sheet : List ℕ) (s : Sheet) : Type 0 where
  pub short : length sheet ≤ 32768
  pub grades : SpansIn s.table.grades (length sheet) s.labels.grade
  pub rows : SpansIn s.table.rows (length sheet) s.labels.row
  pub grade_labels : (i : ℕ) → i < s.table.grades → Label (labels_of sheet s.labels.grade i)
  pub row_labels : (i : ℕ) → i < s.table.rows → Label (labels_of sheet s.labels.row i)
  pub plans : PlansIn s.table.grades s.table.rows s.figures
  pub text : sheet ≡ render s.table s.figures (labels_of sheet s.labels.grade) (labels_of sheet s.labels.row)

-- a sheet of n bytes: 1 exactly where it is too long, and else a line's fault
abbrev pub Refused : ℕ → TextFault → Type 0
Refused n fault.TooLong = 32768 < n
Refused n (fault.Form l) = (n ≤ 32768) × Within 1 675 l
Refused n (fault.Range l) = (n ≤ 32768) × Within 1 673 l
Refused n (fault.NoLine p) = ⊥

-- the line of a fault, 0 where it is none of a line
abbrev pub line_of : TextFault → ℕ
line_of fault.TooLong = 0
line_of (fault.Form l) = l
line_of (fault.Range l) = l
line_of (fault.NoLine p) = 0
