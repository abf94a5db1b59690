-- What the readers of a sheet's lines promise. Assumes nothing.
use Rattle.std.specs.Prelude.{◌≡◌, ℕ, ◌+◌, ◌-◌, ◌<◌, ◌≤◌, ◌⊎◌, List, ◌++◌, length, get_or, drop, ℤ, pos, Some, None, Ok, Err, Option, Result, ◌≢◌}
use Rattle.table.specs.declared.figures.Figures.{Figures}
use Rattle.table.specs.declared.filing.FiledLine.{FiledLine}
use Rattle.table.specs.declared.rows.Arc.{Arc}
use Rattle.table.specs.declared.rows.Row.{Row}
use Rattle.table.specs.Ranges.{Within, FirstsIn}
use Rattle.lines.specs.declared.fault.TextFault.{TextFault}
use Rattle.lines.specs.declared.fault.TextFault.TheVariants as fault
use Rattle.lines.specs.declared.records.Line.{Line}
use Rattle.lines.specs.Lines.{Entry, GradeOf, RowOf, ArcOf, FigureOf, line_text, Good}
use Rattle.lines.specs.Places.{label_of}
use Rattle.sheet.specs.declared.labels.Span.{Span}
use Rattle.sheet.specs.declared.header.Header.{Header}
use Rattle.sheet.specs.Due.{Counts, Slot, figure, Said, entry, Ranged, group}
use Rattle.sheet.specs.Halts.{counts_of}
use Rattle.sheet.specs.Refused.{Through}
use Rattle.sheet.specs.Render.{series, part_of, labels_of, figure_part, figures_of}
use Rattle.sheet.specs.Spans.{SpanIn, SpansIn}

-- z as a count from low to high, and none exactly where it is not one
abbrev pub CountOf : ℤ → ℕ → ℕ → Option ℕ → Type 0
CountOf z low high (Some n) = (z ≡ pos n) × Within low high n
CountOf z low high None = (n : ℕ) → z ≡ pos n → Within low high n → ⊥

-- each grade's plan row is one of the rows, where there are figures
abbrev pub PlansIn : ℕ → ℕ → Option Figures → Type 0
PlansIn grades rows (Some f) = FirstsIn grades rows f.row
PlansIn grades rows None = Unit {0}

-- what is kept of what a line says, all of it in range, and none exactly where it is not in range
abbrev pub RangedOf : {K : Type 0} → Counts → (s : Slot) → (K → Said s) → Said s → Option K → Type 0
RangedOf c s said y (Some x) = (y ≡ said x) × Ranged c s (said x)
RangedOf c s said y None = Ranged c s y → ⊥

-- what a reader keeps of a line of a group: all that it says, in range; and else the fault of the sheet's line l
abbrev pub KeptOf : {K : Type 0} → Counts → (s : Slot) → (K → Said s) → ℕ → Entry → Result K TextFault → Type 0
KeptOf c s said l e (Ok x) = (e ≡ entry s (said x)) × Ranged c s (said x)
KeptOf c s said l e (Err f) = (((y : Said s) → e ≢ entry s y) × (f ≡ fault.Form l)) ⊎ ((y : Said s) × (e ≡ entry s y) × (Ranged c s y → ⊥) × (f ≡ fault.Range l))

-- what the line i + 1 of each group says, from its label and what is kept of it
abbrev pub grade_said : List ℕ → ℕ → ℕ → GradeOf
grade_said label i first = (pos (i + 1), (pos first, label))

abbrev pub row_said : List ℕ → ℕ → Row → RowOf
row_said label i r = ((pos (i + 1), (pos r.next, (r.cost.0, r.cost.1))), (pos r.first_arc, label))

abbrev pub arc_said : List ℕ → ℕ → Arc → ArcOf
arc_said label i a = (pos (i + 1), (pos a.next, (pos a.destination, pos a.weight)))

abbrev pub figure_said : List ℕ → ℕ → FiledLine → FigureOf
figure_said label i f = (pos (i + 1), (pos f.row, (f.floor.0, (f.floor.1, (f.ceiling.0, f.ceiling.1)))))

-- where the label lies of a line that ends before the place next
abbrev pub span_of : Line → ℕ → Span
span_of l next = record { start = next - 1 - length (label_of l); end = next - 1 }

-- the line at the place at is due there, in range, and says that with the label that lies there; next is the place after it
pub record LineRead (c : Counts) (s : Slot) (said : List ℕ → Said s) (sheet : List ℕ) (at : ℕ) (label : Span) (next : ℕ) : Type 0 where
  pub inside : SpanIn (length sheet) label
  pub ends : next ≤ length sheet
  pub good : Good (entry s (said (part_of sheet label)))
  pub ranged : Ranged c s (said (part_of sheet label))
  pub text : drop at sheet ≡ line_text (entry s (said (part_of sheet label))) ++ drop next sheet

-- the line k + 1 of a group, from what is kept of each line and where the labels lie
abbrev pub told : {K : Type 0} (slot : ℕ → Slot) → (List ℕ → (i : ℕ) → K → Said (slot i)) → List ℕ → K → List K → List Span → (k : ℕ) → Said (slot k)
told slot said sheet empty xs labels k = said (labels_of sheet labels k) k (get_or xs k empty)

-- the n lines from the place at on are those of a group, in range, and say that; next is the place after them, and nothing is kept beyond them
pub record GroupRead {K : Type 0} (c : Counts) (slot : ℕ → Slot) (said : List ℕ → (i : ℕ) → K → Said (slot i)) (sheet : List ℕ) (at n : ℕ) (empty : K) (xs : List K) (labels : List Span) (next : ℕ) : Type 0 where
  pub inside : SpansIn n (length sheet) labels
  pub ends : next ≤ length sheet
  pub good : (k : ℕ) → k < n → Good (entry (slot k) (told slot said sheet empty xs labels k))
  pub ranged : (k : ℕ) → k < n → Ranged c (slot k) (told slot said sheet empty xs labels k)
  pub text : drop at sheet ≡ series (λ k. line_text (entry (slot k) (told slot said sheet empty xs labels k))) n ++ drop next sheet
  pub beyond : (k : ℕ) → n ≤ k → get_or xs k empty ≡ empty

-- where the header says that there are figures, the lines say them, and else there are none
pub record FigurePartRead (h : Header) (sheet : List ℕ) (at : ℕ) (figures : Option Figures) (next : ℕ) : Type 0 where
  pub planned : PlansIn h.grades h.rows figures
  pub counted : (counts_of h).figures ≡ figures_of h.grades figures
  pub ends : next ≤ length sheet
  pub text : drop at sheet ≡ figure_part h.grades figures ++ drop next sheet
  pub through : Through (counts_of h) (group figure (counts_of h).figures) (drop at sheet) (drop next sheet)
