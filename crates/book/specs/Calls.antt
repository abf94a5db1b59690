-- What the calls on a book answer, and what they leave in it. Assumes nothing.
use Rattle.std.specs.Prelude.{◌≡◌, ℕ, ◌<◌, ◌≤◌, Bool, ◌⊎◌, List, length, Some, None, Ok, Err, Option, Result}
use Rattle.rankings.specs.Costs.{Cost}
use Rattle.table.specs.declared.page.Page.{Page}
use Rattle.table.specs.declared.figures.Figures.{Figures as Lines}
use Rattle.table.specs.declared.fault.TableFault.{TableFault}
use Rattle.table.specs.declared.fault.FiguresFault.{FiguresFault}
use Rattle.table.specs.Faults.{table_fault}
use Rattle.table.specs.Rules.{figures_fault}
use Rattle.planner.specs.Start.{Start}
use Rattle.planner.specs.Sweeps.{shown, sweeps}
use Rattle.sheet.specs.declared.whole.Sheet.{Sheet}
use Rattle.sheet.specs.Refused.{FirstRefused}
use Rattle.sheet.specs.Whole.{SheetIn, Refused}
use Rattle.sheet.specs.Written.{Wrote, OldTold, shown_of}
use Rattle.book.specs.declared.calls.SweepCount.{SweepCount}
use Rattle.book.specs.declared.refusal.Refusal.{Refusal}
use Rattle.book.specs.declared.refusal.Refusal.TheVariants.{Text, Table, Figures, NoTable, Sweeps, Write}

module _ (le : Cost → Cost → Bool) (text : List ℕ) where
  -- the figures of a page that is opened: those of the sheet, which keep the rules, or else start figures
  abbrev pub FiguresOpen : Page → Option Lines → Type 0
  FiguresOpen p (Some f) = (p.figures ≡ f) × (figures_fault le p.sound.table f ≡ None)
  FiguresOpen p None = Start le p

  -- the sheet says s, and the page is its table with such figures
  pub record PageOf (p : Page) (s : Sheet) : Type 0 where
    pub reads : SheetIn text s
    pub table : p.sound.table ≡ s.table
    pub faultless : table_fault s.table ≡ None
    pub figures : FiguresOpen p s.figures

  -- the sheet says s, whose table has the fault
  pub record TableBroken (f : TableFault) (s : Sheet) : Type 0 where
    pub reads : SheetIn text s
    pub fault : table_fault s.table ≡ Some f

  abbrev pub FiguresBreak : FiguresFault → Sheet → Option Lines → Type 0
  FiguresBreak f s (Some g) = figures_fault le s.table g ≡ Some f
  FiguresBreak f s None = ⊥

  -- the sheet says s, whose table has no fault, and whose figures break the rule
  pub record FiguresBroken (f : FiguresFault) (s : Sheet) : Type 0 where
    pub reads : SheetIn text s
    pub faultless : table_fault s.table ≡ None
    pub fault : FiguresBreak f s s.figures

  -- why a sheet is not opened: its text, then its table, then its figures
  abbrev pub NotOpened : Refusal → Type 0
  NotOpened (Text f) = Refused (length text) f
  NotOpened (Table f) = (s : Sheet) × TableBroken f s
  NotOpened (Figures f) = (s : Sheet) × FiguresBroken f s
  NotOpened NoTable = ⊥
  NotOpened Sweeps = ⊥
  NotOpened (Write f) = ⊥

  -- what a sheet opens to
  abbrev pub Opens : Result Page Refusal → Type 0
  Opens (Ok p) = (s : Sheet) × PageOf p s
  Opens (Err e) = NotOpened e

  -- opening: the book then has that page; a refusal leaves the old page
  abbrev pub Opened : Option Page → Result Unit Refusal → Option Page → Type 0
  Opened before (Ok u) (Some p) = (s : Sheet) × PageOf p s
  Opened before (Ok u) None = ⊥
  Opened before (Err e) after = NotOpened e × (after ≡ before)

-- where a sheet is not opened for its text, the fault is the text's first refusal
abbrev pub TextTold : List ℕ → Refusal → Type 0
TextTold text (Text f) = FirstRefused text f
TextTold text (Table f) = Unit {0}
TextTold text (Figures f) = Unit {0}
TextTold text NoTable = Unit {0}
TextTold text Sweeps = Unit {0}
TextTold text (Write f) = Unit {0}

-- writing: 12 without a table; else what the writing of a page answers and leaves
abbrev pub Written : Bool → List ℕ → Option Page → List ℕ → Result ℕ Refusal → List ℕ → Type 0
Written figured old None before r after = (r ≡ Err NoTable) × (after ≡ before)
Written figured old (Some p) before (Ok n) after = Wrote before old p.sound.table (shown_of figured p.figures) (Ok n) after
Written figured old (Some p) before (Err (Write f)) after = Wrote before old p.sound.table (shown_of figured p.figures) (Err f) after
Written figured old (Some p) before (Err (Text f)) after = ⊥
Written figured old (Some p) before (Err (Table f)) after = ⊥
Written figured old (Some p) before (Err (Figures f)) after = ⊥
Written figured old (Some p) before (Err NoTable) after = ⊥
Written figured old (Some p) before (Err Sweeps) after = ⊥

-- where writing is refused for the old sheet, the line is that of its first refusal, or 0 where it is unlike the table
abbrev pub OldLine : List ℕ → Option Page → Result ℕ Refusal → Type 0
OldLine old None r = Unit {0}
OldLine old (Some p) (Ok n) = Unit {0}
OldLine old (Some p) (Err (Write f)) = OldTold old p.sound.table (Err f)
OldLine old (Some p) (Err (Text f)) = Unit {0}
OldLine old (Some p) (Err (Table f)) = Unit {0}
OldLine old (Some p) (Err (Figures f)) = Unit {0}
OldLine old (Some p) (Err NoTable) = Unit {0}
OldLine old (Some p) (Err Sweeps) = Unit {0}

-- sweeping with n: 12 without a table; then 15 where n is not 1 to 1,000; else the defined sweeps of the page
module _ (le : Cost → Cost → Bool) (cheap dear : Cost → ℕ → Cost) (n : ℕ) where
  abbrev pub SweptPage : Page → SweepCount → Option Page → Type 0
  SweptPage p c None = ⊥
  SweptPage p c (Some p') = (p'.sound ≡ p.sound) × ((shown p'.figures, (c.runs, c.settled)) ≡ sweeps le cheap dear p.sound.table n (shown p.figures))

  abbrev pub SweptBook : Option Page → Result SweepCount Refusal → Option Page → Type 0
  SweptBook None r after = (r ≡ Err NoTable) × (after ≡ None)
  SweptBook (Some p) (Ok c) after = (1 ≤ n) × (n ≤ 1000) × SweptPage p c after
  SweptBook (Some p) (Err e) after = (e ≡ Sweeps) × ((n ≡ 0) ⊎ (1000 < n)) × (after ≡ Some p)
