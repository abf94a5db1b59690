-- What follows from the definitions of a sheet: one reading, one refusal, and the round trips. Assumes nothing.
use Rattle.std.specs.Prelude.{◌≡◌, ℕ, ◌<◌, ◌≤◌, List, length, get_or, take, pos, Some, None, Ok, Err, Option, Result, slice_index, slice_index_or}
use Rattle.text.specs.Fields.{Label}
use Rattle.text.specs.Writing.{put}
use Rattle.table.specs.declared.figures.Figures.{Figures}
use Rattle.table.specs.declared.table.Table.{Table}
use Rattle.table.specs.Ranges.{Within, row0, arc0}
use Rattle.lines.specs.declared.fault.TextFault.{TextFault}
use Rattle.lines.specs.declared.fault.TextFault.TheVariants as fault
use Rattle.sheet.specs.declared.whole.Sheet.{Sheet}
use Rattle.sheet.specs.declared.write_fault.WriteFault.{WriteFault}
use Rattle.sheet.specs.Read.{PlansIn}
use Rattle.sheet.specs.Refused.{FirstRefused}
use Rattle.sheet.specs.Render.{labels_of, render}
use Rattle.sheet.specs.Whole.{SheetIn}
use Rattle.sheet.specs.Written.{Wrote, relabelled}

-- a sheet has one first refusal at most
abbrev pub RefusedOnce : Type 0
RefusedOnce = (bs : List ℕ) (f g : TextFault) → FirstRefused bs f → FirstRefused bs g → f ≡ g

-- a line of the longest sheet that is due, or the one after it; a number can be wrong only before the line `end`
abbrev pub LineIn : TextFault → Type 0
LineIn fault.TooLong = Unit {0}
LineIn (fault.Form l) = Within 1 675 l
LineIn (fault.Range l) = Within 1 673 l
LineIn (fault.NoLine p) = ⊥

-- the first refusal names such a line, or none
abbrev pub RefusedLines : Type 0
RefusedLines = (bs : List ℕ) (f : TextFault) → FirstRefused bs f → LineIn f

-- what a sheet can say: a table, figures or none with each plan row one of the rows, and a label for each grade and row; all other ranges are the table's and the figures' own
pub record Content (t : Table) (f : Option Figures) (grade_label row_label : ℕ → List ℕ) : Type 0 where
  pub grade_labels : (i : ℕ) → i < t.grades → Label (grade_label i)
  pub row_labels : (i : ℕ) → i < t.rows → Label (row_label i)
  pub plans : PlansIn t.grades t.rows f

-- the same plan row, floor and ceiling for the grade i + 1
pub record SameFigure (f g : Figures) (i : ℕ) : Type 0 where
  pub plan : get_or f.row i 0 ≡ slice_index g.row i
  pub floor : get_or f.floor.at i (pos 0, pos 0) ≡ slice_index_or g.floor.at i (pos 0, pos 0)
  pub ceiling : get_or f.ceiling.at i (pos 0, pos 0) ≡ slice_index_or g.ceiling.at i (pos 0, pos 0)

-- no figures in both, or the same figures for each of the grades
abbrev pub SameFigures : ℕ → Option Figures → Option Figures → Type 0
SameFigures grades None None = Unit {0}
SameFigures grades None (Some g) = ⊥
SameFigures grades (Some f) None = ⊥
SameFigures grades (Some f) (Some g) = (i : ℕ) → i < grades → SameFigure f g i

-- two tables with figures and labels say the same; what lies beyond the counts in their arrays does not matter
pub record Same (t u : Table) (f g : Option Figures) (grade_label grade_label' row_label row_label' : ℕ → List ℕ) : Type 0 where
  pub grades : t.grades ≡ u.grades
  pub rows : t.rows ≡ u.rows
  pub arcs : t.arcs ≡ u.arcs
  pub total : t.total ≡ u.total
  pub numerator : t.numerator ≡ u.numerator
  pub denominator : t.denominator ≡ u.denominator
  pub fineness : t.fineness ≡ u.fineness
  pub firsts : (i : ℕ) → i < t.grades → slice_index t.first_row i ≡ slice_index u.first_row i
  pub row : (i : ℕ) → i < t.rows → slice_index_or t.row i row0 ≡ slice_index_or u.row i row0
  pub arc : (i : ℕ) → i < t.arcs → slice_index_or t.arc i arc0 ≡ slice_index_or u.arc i arc0
  pub figures : SameFigures t.grades f g
  pub grade_labels : (i : ℕ) → i < t.grades → grade_label i ≡ grade_label' i
  pub row_labels : (i : ℕ) → i < t.rows → row_label i ≡ row_label' i

-- one text says one thing: contents with the same rendering are the same
abbrev pub RenderingOne : Type 0
RenderingOne =
    (t u : Table) (f g : Option Figures) (gl gl' rl rl' : ℕ → List ℕ) → Content t f gl rl → Content u g gl' rl' → render t f gl rl ≡ render u g gl' rl' → Same t u f g gl gl' rl rl'

-- the converse: contents that are the same have one rendering
abbrev pub RenderingSame : Type 0
RenderingSame =
    (t u : Table) (f g : Option Figures) (gl gl' rl rl' : ℕ → List ℕ) → Same t u f g gl gl' rl rl' → render t f gl rl ≡ render u g gl' rl'

-- no rendering is longer than a sheet may be, so that what is written can be read
abbrev pub RenderingShort : Type 0
RenderingShort = (t : Table) (f : Option Figures) (gl rl : ℕ → List ℕ) → Content t f gl rl → length (render t f gl rl) ≤ 32768

-- no rendering is refused
abbrev pub RenderingRead : Type 0
RenderingRead =
    (bs : List ℕ) (t : Table) (f : Option Figures) (gl rl : ℕ → List ℕ) → Content t f gl rl → bs ≡ render t f gl rl → (e : TextFault) → FirstRefused bs e → ⊥

-- an answer for a sheet's bytes: what they say, or their first refusal
abbrev pub Answered : List ℕ → Result Sheet TextFault → Type 0
Answered bs (Ok s) = SheetIn bs s
Answered bs (Err e) = FirstRefused bs e

-- the answer is no refusal, and says that table with those figures and labels
abbrev pub Says : List ℕ → Result Sheet TextFault → Table → Option Figures → (ℕ → List ℕ) → (ℕ → List ℕ) → Type 0
Says bs (Ok s) t f gl rl = Same s.table t s.figures f (labels_of bs s.labels.grade) gl (labels_of bs s.labels.row) rl
Says bs (Err e) t f gl rl = ⊥

-- whatever content the bytes render, the answer says it
abbrev pub Exactly : List ℕ → Result Sheet TextFault → Type 0
Exactly bs r = (t : Table) (f : Option Figures) (gl rl : ℕ → List ℕ) → Content t f gl rl → bs ≡ render t f gl rl → Says bs r t f gl rl

-- the answer for a rendering is what was rendered
abbrev pub ReadExactly : Type 0
ReadExactly = (bs : List ℕ) (r : Result Sheet TextFault) → Answered bs r → Exactly bs r

-- two answers for the same bytes are the same refusal, or say the same
abbrev pub Agree : List ℕ → Result Sheet TextFault → Result Sheet TextFault → Type 0
Agree bs r (Ok s) = Says bs r s.table s.figures (labels_of bs s.labels.grade) (labels_of bs s.labels.row)
Agree bs r (Err e) = r ≡ Err e

-- it is the only answer for those bytes
abbrev pub Once : List ℕ → Result Sheet TextFault → Type 0
Once bs r = (q : Result Sheet TextFault) → Answered bs q → Agree bs r q

-- a sheet's bytes have one answer
abbrev pub ReadOnce : Type 0
ReadOnce = (bs : List ℕ) (r : Result Sheet TextFault) → Answered bs r → Once bs r

-- what was written is the table's rendering with the old sheet's labels, by any reading of the old sheet
abbrev pub WrittenText : Type 0
WrittenText =
    (out old after : List ℕ) (t : Table) (f : Option Figures) (n : ℕ) (s : Sheet) → SheetIn old s → Wrote out old t f (Ok n) after → (n ≡ length (relabelled old t f s)) × (after ≡ put out 0 (relabelled old t f s)) × (take n after ≡ relabelled old t f s)

-- a sheet that is read, and written with its own table, figures and labels, has the same bytes
abbrev pub WrittenSame : Type 0
WrittenSame =
    (out bs after : List ℕ) (s : Sheet) (n : ℕ) → SheetIn bs s → Wrote out bs s.table s.figures (Ok n) after → (n ≡ length bs) × (after ≡ put out 0 bs) × (take n after ≡ bs)

-- where the old sheet says that table and those figures already, what was written are the old sheet's bytes
abbrev pub Kept : List ℕ → Table → Option Figures → Result ℕ WriteFault → List ℕ → Type 0
Kept old t f (Ok n) after = (s : Sheet) → SheetIn old s → Says old (Ok s) t f (labels_of old s.labels.grade) (labels_of old s.labels.row) → take n after ≡ old
Kept old t f (Err e) after = Unit {0}

-- what was written reads back: whatever answers for its bytes, it is no refusal, and says the table, the figures and the old sheet's labels
abbrev pub Back : List ℕ → Table → Option Figures → Result ℕ WriteFault → List ℕ → Type 0
Back old t f (Ok n) after = (s : Sheet) → SheetIn old s → (r : Result Sheet TextFault) → Answered (take n after) r → Says (take n after) r t f (labels_of old s.labels.grade) (labels_of old s.labels.row)
Back old t f (Err e) after = Unit {0}

-- both hold of all that writing answers
abbrev pub WrittenKept : Type 0
WrittenKept = (out old after : List ℕ) (t : Table) (f : Option Figures) (r : Result ℕ WriteFault) → Wrote out old t f r after → Kept old t f r after

abbrev pub WrittenBack : Type 0
WrittenBack =
    (out old after : List ℕ) (t : Table) (f : Option Figures) (r : Result ℕ WriteFault) → PlansIn t.grades t.rows f → Wrote out old t f r after → Back old t f r after
