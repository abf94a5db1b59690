-- Each kind: its first word, then its fields.
use Rattle.std.proofs.Common.{[], ◌∷◌, sym, subst}
use Rattle.text.specs.Writing.{Writes}
use Rattle.text.proofs.Writing.{writes_then}
use Rattle.lines.specs.Lines.{line_text, entry_of, header_text, grade_text, row_text, arc_text, figure_text, header_of, grade_of, row_of, arc_of, figure_of}
use Rattle.lines.proofs.line_writing.write_line.Goals as goal

pub returns-in_ok-at-in-Header : goal.returns-in_ok-at-in-Header
returns-in_ok-at-in-Header c =
    subst (λ l. Writes c.args.out.now c.args.at (line_text (entry_of l)) c.write_header.result c.write_header.new.out) (sym c.in-Header.is)
    (writes_then _ _ (115 ∷ 104 ∷ 101 ∷ 101 ∷ 116 ∷ 32 ∷ []) _ c.in_ok-at-in-Header.at c.in_ok-at-in-Header.ensures (header_text (header_of c.in-Header.header)) c.write_header.result _ c.write_header.ensures)

pub returns-in_ok-at-in-Grade : goal.returns-in_ok-at-in-Grade
returns-in_ok-at-in-Grade c =
    subst (λ l. Writes c.args.out.now c.args.at (line_text (entry_of l)) c.write_grade.result c.write_grade.new.out) (sym c.in-Grade.is)
    (writes_then _ _ (103 ∷ 32 ∷ []) _ c.in_ok-at-in-Grade.at c.in_ok-at-in-Grade.ensures (grade_text (grade_of c.in-Grade.grade)) c.write_grade.result _ c.write_grade.ensures)

pub returns-in_ok-at-in-Row : goal.returns-in_ok-at-in-Row
returns-in_ok-at-in-Row c =
    subst (λ l. Writes c.args.out.now c.args.at (line_text (entry_of l)) c.write_row.result c.write_row.new.out) (sym c.in-Row.is)
    (writes_then _ _ (114 ∷ 32 ∷ []) _ c.in_ok-at-in-Row.at c.in_ok-at-in-Row.ensures (row_text (row_of c.in-Row.row)) c.write_row.result _ c.write_row.ensures)

pub returns-in_ok-at-in-Arc : goal.returns-in_ok-at-in-Arc
returns-in_ok-at-in-Arc c =
    subst (λ l. Writes c.args.out.now c.args.at (line_text (entry_of l)) c.write_arc.result c.write_arc.new.out) (sym c.in-Arc.is)
    (writes_then _ _ (116 ∷ 32 ∷ []) _ c.in_ok-at-in-Arc.at c.in_ok-at-in-Arc.ensures (arc_text (arc_of c.in-Arc.arc)) c.write_arc.result _ c.write_arc.ensures)

pub returns-in_ok-at-in-Figure : goal.returns-in_ok-at-in-Figure
returns-in_ok-at-in-Figure c =
    subst (λ l. Writes c.args.out.now c.args.at (line_text (entry_of l)) c.write_figure.result c.write_figure.new.out) (sym c.in-Figure.is)
    (writes_then _ _ (102 ∷ 32 ∷ []) _ c.in_ok-at-in-Figure.at c.in_ok-at-in-Figure.ensures (figure_text (figure_of c.in-Figure.figure)) c.write_figure.result _ c.write_figure.ensures)
