use Rattle.std.proofs.Common.{rules}
use Rattle.lines.specs.Lines.{grade_of}
use Rattle.sheet.specs.Due.{grade}
use Rattle.sheet.specs.Halts.{counts_of}
use Rattle.sheet.specs.Read.{grade_said}
use Rattle.sheet.proofs.OneLine.{kept_of}
use Rattle.sheet.proofs.grade_reading.GradesGroup.keep.Goals as goal

pub returns : goal.returns
returns c =
    let due = c.args.due.now in
    let line = c.in-Grade in
    rw line.is (kept_of (counts_of due.header.now) (grade due.i) due.line (grade_said line.grade.label.now due.i) (grade_of line.grade) c.grade_of.result c.ok_or.result _ c.grade_of.ensures (search rules) c.ok_or.ensures.value)
