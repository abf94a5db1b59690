-- Each way out by one field more: what was read so far, and then the field that was not there, or the whole.
use Rattle.std.proofs.Common.{Some, None, w64, SFits, rules}
use Rattle.std.proofs.lemmas.Int.{to_z-of_z}
use Rattle.text.proofs.Reading.{first_then}
use Rattle.lines.proofs.line_reading.read_four.Goals as goal

pub returns-in_err-fourth : goal.returns-in_err-fourth
returns-in_err-fourth c =
    rw c.from_residual-in_err-fourth.ensures
    (first_then c.in_ok-first.first c.in_ok-first.rest.now c.in_ok-first.ensures None
    (first_then c.in_ok-second.second c.in_ok-second.rest.now c.in_ok-second.ensures None
    (first_then c.in_ok-third.third c.in_ok-third.rest.now c.in_ok-third.ensures None
    c.in_err-fourth.ensures)))

pub returns : goal.returns
returns c =
    let f0 : SFits w64 c.in_ok-first.first = search rules in
    let f1 : SFits w64 c.in_ok-second.second = search rules in
    let f2 : SFits w64 c.in_ok-third.third = search rules in
    let f3 : SFits w64 c.in_ok-fourth.fourth = search rules in
    simp to_z-of_z
    (first_then c.in_ok-first.first c.in_ok-first.rest.now c.in_ok-first.ensures (Some ((c.in_ok-second.second, (c.in_ok-third.third, c.in_ok-fourth.fourth)), c.in_ok-fourth.rest.now))
    (first_then c.in_ok-second.second c.in_ok-second.rest.now c.in_ok-second.ensures (Some ((c.in_ok-third.third, c.in_ok-fourth.fourth), c.in_ok-fourth.rest.now))
    (first_then c.in_ok-third.third c.in_ok-third.rest.now c.in_ok-third.ensures (Some (c.in_ok-fourth.fourth, c.in_ok-fourth.rest.now))
    c.in_ok-fourth.ensures)))
