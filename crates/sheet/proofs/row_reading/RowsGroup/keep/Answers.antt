use Rattle.std.proofs.Common.{rules}
use Rattle.lines.specs.Lines.{row_of}
use Rattle.sheet.specs.Due.{row}
use Rattle.sheet.specs.Halts.{counts_of}
use Rattle.sheet.specs.Read.{row_said}
use Rattle.sheet.proofs.OneLine.{kept_of}
use Rattle.sheet.proofs.row_reading.RowsGroup.keep.Goals as goal

pub returns : goal.returns
returns c =
    let due = c.args.due.now in
    let line = c.in-Row in
    rw line.is (kept_of (counts_of due.header.now) (row due.i) due.line (row_said line.row.label.now due.i) (row_of line.row) c.row_of.result c.ok_or.result _ c.row_of.ensures (search rules) c.ok_or.ensures.value)
