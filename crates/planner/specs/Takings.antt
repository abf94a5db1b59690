-- What becomes of figures when lines are filed. Assumes nothing.
use Rattle.std.specs.Prelude.{◌≡◌, Bool, List, length, None, Ok, Err, Result}
use Rattle.rankings.specs.Costs.{Cost}
use Rattle.table.specs.declared.fault.FilingFault.{FilingFault}
use Rattle.table.specs.declared.filing.FiledLine.{FiledLine}
use Rattle.table.specs.declared.page.Page.{Page}
use Rattle.table.specs.Filing.{filed_rows, filed_floors, filed_ceilings, filing_fault, Filed}
use Rattle.planner.specs.Sweeps.{Shown, shown}
use Rattle.planner.specs.Keeping.{ShownKept, Nearer, Follows, nearer_of}

-- what the lines say
abbrev pub filed_shown : List FiledLine → Shown
filed_shown ls = record { rows = filed_rows ls; floors = filed_floors ls; ceilings = filed_ceilings ls }

-- the nearer of the standing and the filed figures, where the filing keeps its rules; and else the first broken one
abbrev pub Taken : (Cost → Cost → Bool) → Page → List FiledLine → Result Page FilingFault → Type 0
Taken le p ls (Ok q) = (length ls ≡ p.sound.table.grades) × (filing_fault le p.sound.table ls ≡ None) × (q.sound ≡ p.sound) × (shown q.figures ≡ nearer_of le (shown p.figures) (filed_shown ls) p.sound.table.grades)
Taken le p ls (Err e) = Filed le p.sound ls (Err e)

-- a filing that is taken keeps the rules, and its figures are as near as the standing and as the filed ones
abbrev pub TakenKeeps : (Cost → Cost → Bool) → Page → List FiledLine → Result Page FilingFault → Type 0
TakenKeeps le p ls (Ok q) = ShownKept le p.sound.table (shown p.figures) → Follows le p.sound.table (shown p.figures) (shown q.figures) × Nearer le p.sound.table (filed_shown ls) (shown q.figures)
TakenKeeps le p ls (Err e) = Unit {0}
