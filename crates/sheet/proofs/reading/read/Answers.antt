use Rattle.std.proofs.Common.{List, ℕ, length, Ok, Err, Result}
use Rattle.lines.specs.declared.fault.TextFault.{TextFault}
use Rattle.sheet.specs.declared.whole.Sheet.{Sheet}
use Rattle.sheet.specs.Laws.{Answered}
use Rattle.sheet.specs.Whole.{SheetIn, Refused}
use Rattle.sheet.proofs.RefusedLines.{refused_in}
use Rattle.sheet.proofs.RoundTrips.{read_exactly, read_once}
use Rattle.sheet.proofs.reading.read.Goals as goal

abbrev Says : List ℕ → Result Sheet TextFault → Type 0
Says bs r = elim r [ Ok s ↦ SheetIn bs s | Err e ↦ Refused (length bs) e ]

says : (bs : List ℕ) (r : Result Sheet TextFault) → Answered bs r → Says bs r
says bs (Ok s) h = h
says bs (Err e) h = refused_in bs e h

pub returns : goal.returns
returns c =
    let sheet = c.args.sheet.now in
    let r = c.read_sheet.result in
    let answered = c.read_sheet.ensures in
    record { says = says sheet r answered; answered = answered; once = read_once sheet r answered; exactly = read_exactly sheet r answered }
