use Rattle.std.proofs.Common.{length, refl, inr, arith}
use Rattle.sheet.specs.Render.{labels_of}
use Rattle.sheet.specs.Written.{relabelled, shown_of}
use Rattle.sheet.proofs.Contents.{shown_plans}
use Rattle.sheet.proofs.Copied.{copied}
use Rattle.sheet.proofs.Halting.{err_is}
use Rattle.sheet.proofs.Lengths.{render_short}
use Rattle.sheet.proofs.RefusedLines.{refused_in, line_small}
use Rattle.sheet.proofs.writing.write.Goals as goal
use Rattle.sheet.proofs.writing.write.Goals.{then-sheet-table-via-then-sheet-table, then-sheet-table-via-else-sheet-table+then-sheet-table-2}

pub returns-in_err-sheet-clause-wrote : goal.returns-in_err-sheet-clause-wrote
returns-in_err-sheet-clause-wrote c =
    let old = c.args.old.now in
    let fault = c.in_err-sheet.field-0.0 in
    rw (err_is _ _ c.from_residual.ensures.1) (line_small (length old) fault (refused_in old fault c.in_err-sheet.ensures), refl)

pub returns-then-sheet-table-clause-old : goal.returns-then-sheet-table-clause-old
returns-then-sheet-table-clause-old c =
    inr (c.in_ok-sheet.sheet, (record { reads = c.in_ok-sheet.ensures; differs = λ p q. elim c.then-sheet-table.branch [ then-sheet-table-via-then-sheet-table w ↦ w.if-sheet-table.true p | then-sheet-table-via-else-sheet-table+then-sheet-table-2 w ↦ w.if-sheet-table-2.true q ] }, refl))

pub unreachable-requires : goal.unreachable-requires
unreachable-requires c =
    let old = c.args.old.now in
    let t = c.args.page.now.sound.table in
    let s = c.in_ok-sheet.sheet in
    let reads = c.in_ok-sheet.ensures in
    let short = render_short t (shown_of c.args.figured c.args.page.now.figures) (labels_of old s.labels.grade) (labels_of old s.labels.row) (λ i h. reads.grade_labels i (omega arith)) (λ i h. reads.row_labels i (omega arith)) (shown_plans c.args.figured t.grades t.rows c.args.page.now.figures c.args.page.now.planned) in
    omega (arith, c.in_default.ensures.0)

pub returns-then-n-out-clause-wrote : goal.returns-then-n-out-clause-wrote
returns-then-n-out-clause-wrote c =
    let told = c.in-Some.ensures in
    (c.in_ok-sheet.sheet, (record { reads = c.in_ok-sheet.ensures; grades = omega arith; rows = omega arith }, omega (arith, told.0), omega arith, refl))

pub returns-clause-wrote : goal.returns-clause-wrote
returns-clause-wrote c =
    let told = c.in-Some.ensures in
    let s = c.in_ok-sheet.sheet in (
      s,
      (
        record { reads = c.in_ok-sheet.ensures; grades = omega arith; rows = omega arith },
        omega (arith, told.0),
        omega arith,
        copied c.args.out.now _ _ (relabelled c.args.old.now c.args.page.now.sound.table (shown_of c.args.figured c.args.page.now.figures) s) c.copy_from_slice.new.self c.in-Some.n told c.copy_from_slice.ensures.after,
      ),
    )
