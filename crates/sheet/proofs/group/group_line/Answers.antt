use Rattle.std.proofs.Common.{sym, subst}
use Rattle.lines.specs.Places.{label_of}
use Rattle.sheet.specs.Halts.{counts_of}
use Rattle.sheet.specs.Read.{LineRead}
use Rattle.sheet.proofs.Halting.{err_is}
use Rattle.sheet.proofs.OneLine.{line_read, line_fault}
use Rattle.sheet.proofs.group.group_line.Goals as goal

pub returns-in_err-kept : goal.returns-in_err-kept
returns-in_err-kept g c =
    rw (err_is _ _ c.from_residual.ensures.1)
    (line_fault (counts_of c.args.due.now.header.now) (g.G.Group.slot c.args.due.now.i) c.args.due.now.line c.args.sheet.now c.args.at c.in-Ok.next c.in-Ok.text c.in-Ok.ensures.reads (g.G.Group.said (label_of c.in-Ok.text) c.args.due.now.i) _ c.in_err-kept.ensures)

pub returns : goal.returns
returns g c =
    let k = counts_of c.args.due.now.header.now in
    let l = c.in-Ok.text in
    let told = c.in-Ok.ensures in
    let read = line_read k (g.G.Group.slot c.args.due.now.i) c.args.due.now.line c.args.sheet.now c.args.at c.in-Ok.next l told.reads (λ label x. g.G.Group.said label c.args.due.now.i x) c.in_ok-kept.kept told.place.0 told.place.1 told.place.2 c.in_ok-kept.ensures in
    subst (λ span. LineRead k (g.G.Group.slot c.args.due.now.i) (λ label. g.G.Group.said label c.args.due.now.i c.in_ok-kept.kept) c.args.sheet.now c.args.at span c.in-Ok.next) (sym c.label_span.ensures) read
