-- What is so where a helper of the tests answers true, so that none can answer true always. Assumes nothing.
use Rattle.std.specs.Prelude.{◌≡◌, ℕ, ◌<◌, Bool, true, List, ◌++◌, length, take, drop, get_or, pos, slice_index_or, Ok, Err, Option, Result}
use Rattle.std.specs.Borrow.{Bor}
use Rattle.table.specs.declared.fault.FiguresFault.TheVariants.{PlanRow, Part, Floor, Ceiling}
use Rattle.table.specs.declared.fault.FilingFault.{FilingFault}
use Rattle.table.specs.declared.fault.FilingFault.TheVariants as fault
use Rattle.table.specs.declared.figures.Figures.{Figures}
use Rattle.table.specs.declared.filing.FiledLine.{FiledLine}
use Rattle.table.specs.declared.page.Page.{Page}
use Rattle.rankings.specs.Costs.{Cost}
use Rattle.planner.specs.Start.{Start}
use Rattle.planner.specs.Sweeps.{shown, sweep_of}
use Rattle.sheet.specs.declared.whole.Sheet.{Sheet}
use Rattle.sheet.specs.Whole.{SheetIn}
use Rattle.book.specs.Calls.{Written}
use Rattle.book.specs.Printing.{PrintedOnly}

-- what stands for a line past the end of a list
abbrev pub line0 : FiledLine
line0 = record { row = 0; floor = (pos 0, pos 0); ceiling = (pos 0, pos 0) }

-- the figures have the line's row, floor and ceiling at k
pub record LineShown (f : Figures) (l : FiledLine) (k : ℕ) : Type 0 where
  pub row : get_or f.row k 0 ≡ l.row
  pub floor : get_or f.floor.at k (pos 0, pos 0) ≡ l.floor
  pub ceiling : get_or f.ceiling.at k (pos 0, pos 0) ≡ l.ceiling

abbrev pub LinesShown : Figures → List FiledLine → Type 0
LinesShown f ls = (k : ℕ) → k < length ls → LineShown f (slice_index_or ls k line0) k

-- number, grade and row of the refusal of a filing
abbrev pub filing_refusal : FilingFault → ℕ × ℕ × ℕ
filing_refusal fault.Lines = (16, 0, 0)
filing_refusal (fault.Figures (PlanRow g k)) = (9, g, k)
filing_refusal (fault.Figures (Part g)) = (17, g, 0)
filing_refusal (fault.Figures (Floor g k)) = (10, g, k)
filing_refusal (fault.Figures (Ceiling g k)) = (11, g, k)

-- a filing is answered as it is due: by a page that shows the lines, or by the refusal
abbrev pub Answers : Result Page FilingFault → Result (Bor (List FiledLine)) (ℕ × ℕ × ℕ) → Type 0
Answers (Ok p) (Ok ls) = LinesShown p.figures ls.now
Answers (Err f) (Err due) = filing_refusal f ≡ due
Answers (Ok p) (Err due) = ⊥
Answers (Err f) (Ok ls) = ⊥

-- a recount of the sheet prints just this text: it stands at the front of the buffer, as long as the recount answers
pub record Prints (sheet text : List ℕ) : Type 0 where
  pub before : List ℕ
  pub after : List ℕ
  pub count : ℕ
  pub printed : PrintedOnly sheet before count after
  pub front : take count after ≡ text

-- a recount of the sheet prints these bytes and maybe more
pub record Begins (sheet bytes : List ℕ) : Type 0 where
  pub rest : List ℕ
  pub prints : Prints sheet (bytes ++ rest)

-- the page is written as just this text, with figures and with the labels of the old sheet
pub record Writes (page : Option Page) (old text : List ℕ) : Type 0 where
  pub before : List ℕ
  pub after : List ℕ
  pub count : ℕ
  pub written : Written true old page before (Ok count) after
  pub front : take count after ≡ text

-- the page is so written as a text that ends with these bytes
pub record Ends (page : Option Page) (old bytes : List ℕ) : Type 0 where
  pub front : List ℕ
  pub writes : Writes page old (front ++ bytes)

-- the page has the table that the sheet says, and start figures
pub record Starts (le : Cost → Cost → Bool) (sheet : List ℕ) (p : Page) : Type 0 where
  pub says : Sheet
  pub reads : SheetIn sheet says
  pub table : p.sound.table ≡ says.table
  pub start : Start le p

-- such a page after one sweep
pub record Swept (le : Cost → Cost → Bool) (cheap dear : Cost → ℕ → Cost) (sheet : List ℕ) (p : Page) : Type 0 where
  pub started : Page
  pub starts : Starts le sheet started
  pub table : p.sound ≡ started.sound
  pub figures : shown p.figures ≡ sweep_of le cheap dear started.sound.table (shown started.figures)

-- the bytes `old` stand at k
abbrev pub StandsAt : List ℕ → List ℕ → ℕ → Type 0
StandsAt text old k = take (length old) (drop k text) ≡ old

-- the text with `new` in place of the first `old`
pub record Edited (text old new whole : List ℕ) : Type 0 where
  pub place : ℕ
  pub stands : StandsAt text old place
  pub first : (k : ℕ) → k < place → StandsAt text old k → ⊥
  pub is : whole ≡ (take place text ++ new) ++ drop (length old) (drop place text)
