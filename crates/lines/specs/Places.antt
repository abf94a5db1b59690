-- A line at a byte place of a sheet.
use Rattle.std.specs.Prelude.{ℕ, List, [], drop, Some, None, Ok, Err, Option, Result}
use Rattle.lines.specs.declared.fault.TextFault.{TextFault}
use Rattle.lines.specs.declared.records.Line.{Line}
use Rattle.lines.specs.declared.records.Line.TheVariants as line
use Rattle.lines.specs.Lines.{Entry, entry_of}

-- what was read at a place of a sheet: what the line says, and the bytes from the place after it on
abbrev pub seen_at : List ℕ → Result (Line × ℕ) TextFault → Option (Entry × List ℕ)
seen_at sheet (Ok p) = Some (entry_of p.0, drop p.1 sheet)
seen_at sheet (Err e) = None

-- the label at a line's end, and no bytes where its kind has none
abbrev pub label_of : Line → List ℕ
label_of (line.Header h) = []
label_of (line.Grade g) = g.label.now
label_of (line.Row r) = r.label.now
label_of (line.Arc a) = []
label_of (line.Figure f) = []
label_of line.End = []
