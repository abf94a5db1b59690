use Rattle.std.proofs.Common.{[], rules}
use Rattle.lines.specs.Lines.{figure_of}
use Rattle.sheet.specs.Due.{figure}
use Rattle.sheet.specs.Halts.{counts_of}
use Rattle.sheet.specs.Read.{figure_said}
use Rattle.sheet.proofs.OneLine.{kept_of}
use Rattle.sheet.proofs.figure_reading.FigureLinesGroup.keep.Goals as goal

pub returns : goal.returns
returns c =
    let due = c.args.due.now in
    let line = c.in-Figure in
    rw line.is (kept_of (counts_of due.header.now) (figure due.i) due.line (figure_said [] due.i) (figure_of line.figure) c.figure_of.result c.ok_or.result _ c.figure_of.ensures (search rules) c.ok_or.ensures.value)
