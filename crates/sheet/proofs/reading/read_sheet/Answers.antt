use Rattle.std.proofs.Common.{◌≡◌, ℕ, ◌+◌, List, ◌++◌, drop, ap, ◌∙◌, subst, arith}
use Rattle.table.specs.Ranges.{row0, arc0}
use Rattle.lines.specs.Lines.{line_text, end}
use Rattle.sheet.specs.Due.{grade, row, arc, group}
use Rattle.sheet.specs.Halts.{counts_of, EndFault}
use Rattle.sheet.specs.Read.{grade_said, row_said, arc_said}
use Rattle.sheet.specs.Refused.{Through}
use Rattle.sheet.specs.Render.{counts_entry, figures_of, grades_text, rows_text, arcs_text, figure_part, labels_of, render}
use Rattle.sheet.proofs.Parts.{six}
use Rattle.sheet.proofs.GroupSteps.{group_through}
use Rattle.sheet.proofs.Halting.{err_is}
use Rattle.sheet.proofs.Kept.{firsts_in, rows_in, arcs_in}
use Rattle.sheet.proofs.Refusing.{grades_stop, rows_stop, arcs_stop, figures_stop, end_stop}
use Rattle.sheet.proofs.reading.read_sheet.Goals as goal
use Rattle.sheet.proofs.reading.read_sheet.Goals.{In_ok-at, In_ok-at-2, In_ok-at-3}

-- the lines of each group that is there
grades_there : (c : In_ok-at) → let h = c.in_ok-header.header in Through (counts_of h) (group grade h.grades) (drop c.in_ok-header.at c.args.sheet.now) (drop c.in_ok-at.at c.args.sheet.now)
grades_there c = group_through _ grade grade_said c.args.sheet.now 0 _ _ _ _ _ c.in_ok-at.ensures

rows_there : (c : In_ok-at-2) → let h = c.in_ok-header.header in Through (counts_of h) (group row h.rows) (drop c.in_ok-at.at c.args.sheet.now) (drop c.in_ok-at-2.at c.args.sheet.now)
rows_there c = group_through _ row row_said c.args.sheet.now row0 _ _ _ _ _ c.in_ok-at-2.ensures

arcs_there : (c : In_ok-at-3) → let h = c.in_ok-header.header in Through (counts_of h) (group arc h.arcs) (drop c.in_ok-at-2.at c.args.sheet.now) (drop c.in_ok-at-3.at c.args.sheet.now)
arcs_there c = group_through _ arc arc_said c.args.sheet.now arc0 _ _ _ _ _ c.in_ok-at-3.ensures

pub invariant_of-table-clause-firsts : goal.invariant_of-table-clause-firsts
invariant_of-table-clause-firsts c = firsts_in _ _ _ _ _ _ c.read_group.new.kept c.in_ok-at.ensures

pub invariant_of-table-clause-rowsin : goal.invariant_of-table-clause-rowsin
invariant_of-table-clause-rowsin c = rows_in _ _ _ _ _ _ c.read_group-2.new.kept c.in_ok-at-2.ensures

pub invariant_of-table-clause-arcsin : goal.invariant_of-table-clause-arcsin
invariant_of-table-clause-arcsin c = arcs_in _ _ _ _ _ _ c.read_group-3.new.kept c.in_ok-at-3.ensures

pub returns : goal.returns
unfolding render
returns c =
    let sheet = c.args.sheet.now in
    let h = c.in_ok-header.header in
    let head = c.in_ok-header.ensures.0 in
    let grades = c.in_ok-at.ensures in
    let rows = c.in_ok-at-2.ensures in
    let arcs = c.in_ok-at-3.ensures in
    let figures = c.in_ok-figures.ensures in
    let one = c.read_group.new in
    let two = c.read_group-2.new in
    let three = c.read_group-3.new in
    let first : List ℕ = line_text (counts_entry h.grades h.rows h.arcs h.total h.numerator h.denominator h.fineness (figures_of h.grades c.in_ok-figures.figures)) in
    record {
      short = omega arith;
      grades = grades.inside;
      rows = rows.inside;
      grade_labels = λ i lt. (grades.good i lt).1.1;
      row_labels = λ i lt. (rows.good i lt).1.1;
      plans = figures.planned;
      text = six sheet _ _ _ _ _ first (grades_text one.kept (labels_of sheet one.labels) h.grades) (rows_text two.kept (labels_of sheet two.labels) h.rows) (arcs_text three.kept h.arcs) (figure_part h.grades c.in_ok-figures.figures) (line_text end)
          (head.text ∙ ap (λ f. line_text (counts_entry h.grades h.rows h.arcs h.total h.numerator h.denominator h.fineness f) ++ drop c.in_ok-header.at sheet) figures.counted)
          grades.text rows.text arcs.text figures.text c.in_ok-read_end.ensures;
    }

pub returns-in_err-at : goal.returns-in_err-at
returns-in_err-at c =
    let header = c.in_ok-header in
    rw (err_is _ _ c.from_residual-in_err-at.ensures.1)
    (grades_stop header.header c.args.sheet.now _ (omega arith) _ header.ensures.0 c.in_err-at.ensures)

pub returns-in_err-at-2 : goal.returns-in_err-at-2
returns-in_err-at-2 c =
    let at = goal.at.returns-in_err-at-2 c in
    let header = c.in_ok-header in
    rw (err_is _ _ c.from_residual-in_err-at-2.ensures.1)
    (rows_stop header.header c.args.sheet.now _ (omega arith) _ header.ensures.0 _ (grades_there at.In_ok-at) c.in_err-at-2.ensures)

pub returns-in_err-at-3 : goal.returns-in_err-at-3
returns-in_err-at-3 c =
    let at = goal.at.returns-in_err-at-3 c in
    let header = c.in_ok-header in
    rw (err_is _ _ c.from_residual-in_err-at-3.ensures.1)
    (arcs_stop header.header c.args.sheet.now _ (omega arith) _ header.ensures.0 _ (grades_there at.In_ok-at) _ (rows_there at.In_ok-at-2) c.in_err-at-3.ensures)

pub returns-in_err-figures : goal.returns-in_err-figures
returns-in_err-figures c =
    let at = goal.at.returns-in_err-figures c in
    let header = c.in_ok-header in
    rw (err_is _ _ c.from_residual-in_err-figures.ensures.1)
    (figures_stop header.header c.args.sheet.now _ (omega arith) _ header.ensures.0 _ (grades_there at.In_ok-at) _ (rows_there at.In_ok-at-2) _ (arcs_there at.In_ok-at-3) c.in_err-figures.ensures)

pub returns-in_err-read_end : goal.returns-in_err-read_end
returns-in_err-read_end c =
    let at = goal.at.returns-in_err-read_end c in
    let header = c.in_ok-header in
    let h = header.header in
    let count : c.figure_count.result ≡ (counts_of h).figures = c.figure_count.ensures in
    rw (err_is _ _ c.from_residual-in_err-read_end.ensures.1)
    (end_stop header.header c.args.sheet.now _ (omega arith) _ header.ensures.0 _ (grades_there at.In_ok-at) _ (rows_there at.In_ok-at-2) _ (arcs_there at.In_ok-at-3) _ c.in_ok-figures.ensures.through
    (subst (λ n. EndFault (2 + h.grades + h.rows + h.arcs + n) (drop c.in_ok-figures.at c.args.sheet.now) c.in_err-read_end.field-0.0) count c.in_err-read_end.ensures))
