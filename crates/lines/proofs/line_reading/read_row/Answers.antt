-- Each way out by one field more: what was read so far, and then the field that was not there, or the whole.
use Rattle.std.proofs.Common.{Some, None, w64, SFits, rules}
use Rattle.std.proofs.lemmas.Int.{to_z-of_z}
use Rattle.text.specs.Reading.{both, Each}
use Rattle.text.specs.Fields.{Small, Label, label_text}
use Rattle.text.proofs.Reading.{first_none, first_then}
use Rattle.lines.specs.Lines.{blank}
use Rattle.lines.proofs.line_reading.read_row.Goals as goal

pub returns-in-err-number : goal.returns-in-err-number
returns-in-err-number c =
    rw c.from-residual.ensures
    (first_none (Each Small Label) (both blank label_text) c.in-err-number.ensures)

pub returns-in-err-first-arc : goal.returns-in-err-first-arc
returns-in-err-first-arc c =
    rw c.from-residual-in-err-first-arc.ensures
    (first_then (c.in-ok-number.number, (c.in-ok-number.next, (c.in-ok-number.first_part, c.in-ok-number.second-part))) c.in-ok-number.rest.now c.in-ok-number.ensures None
    (first_none Label label_text c.in-err-first-arc.ensures))

pub returns-in-err-label : goal.returns-in-err-label
returns-in-err-label c =
    rw c.from-residual-in-err-label.ensures
    (first_then (c.in-ok-number.number, (c.in-ok-number.next, (c.in-ok-number.first_part, c.in-ok-number.second-part))) c.in-ok-number.rest.now c.in-ok-number.ensures None
    (first_then c.in-ok-first-arc.first-arc c.in-ok-first-arc.rest.now c.in-ok-first-arc.ensures None
    c.in-err-label.ensures))

pub returns : goal.returns
returns c =
    let f0 : SFits w64 c.in-ok-number.number = search rules in
    let f1 : SFits w64 c.in-ok-number.next = search rules in
    let f2 : SFits w64 c.in-ok-number.first_part = search rules in
    let f3 : SFits w64 c.in-ok-number.second-part = search rules in
    let f4 : SFits w64 c.in-ok-first-arc.first-arc = search rules in
    simp to_z-of_z
    (first_then (c.in-ok-number.number, (c.in-ok-number.next, (c.in-ok-number.first_part, c.in-ok-number.second-part))) c.in-ok-number.rest.now c.in-ok-number.ensures (Some ((c.in-ok-first-arc.first-arc, c.in-ok-label.label.now), c.in-ok-label.rest.now))
    (first_then c.in-ok-first-arc.first-arc c.in-ok-first-arc.rest.now c.in-ok-first-arc.ensures (Some (c.in-ok-label.label.now, c.in-ok-label.rest.now))
    c.in-ok-label.ensures))
