use Rattle.std.proofs.Common.{[], rules}
use Rattle.lines.specs.Lines.{arc_of}
use Rattle.sheet.specs.Due.{arc}
use Rattle.sheet.specs.Halts.{counts_of}
use Rattle.sheet.specs.Read.{arc_said}
use Rattle.sheet.proofs.OneLine.{kept_of}
use Rattle.sheet.proofs.arc_reading.ArcsGroup.keep.Goals as goal

pub returns : goal.returns
returns c =
    let due = c.args.due.now in
    let line = c.in-Arc in
    rw line.is (kept_of (counts_of due.header.now) (arc due.i) due.line (arc_said [] due.i) (arc_of line.arc) c.arc_of.result c.ok_or.result _ c.arc_of.ensures (search rules) c.ok_or.ensures.value)
