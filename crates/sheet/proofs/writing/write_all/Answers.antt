use Rattle.std.proofs.Common.{ℕ, List, Some, None, Option, sym, ap, ◌∙◌, subst, rules}
use Rattle.text.specs.Writing.{Writes}
use Rattle.text.proofs.Writing.{writes_then, writes_none}
use Rattle.lines.specs.Lines.{line_text, end}
use Rattle.sheet.specs.Render.{series, header_entry, grade_entry, row_entry, arc_entry, figure_entry, figures_of, figure_part, grades_text, rows_text, arcs_text, labels_of, render}
use Rattle.sheet.proofs.Contents.{after_header, after_grades, after_rows, after_arcs, in_parts}
use Rattle.sheet.specs.Written.{shown_of}
use Rattle.sheet.proofs.Contents.{shown_count, shown_part}
use Rattle.sheet.proofs.writing.write_all.Goals as goal
use Rattle.sheet.proofs.writing.write_all.Goals.{In_ok-at, In_ok-at-2, In_ok-at-3, In_ok-at-4, In_ok-at-5}

-- what is written after a part, with the part before it
headed : (c : In_ok-at) (r : Option ℕ) (zs : List ℕ) →
    let t = c.args.page.now.sound.table in
    let f = shown_of c.args.figured c.args.page.now.figures in
    let gl = labels_of c.args.old.now c.args.labels.now.grade in
    let rl = labels_of c.args.old.now c.args.labels.now.row in
    Writes c.write_line.new.out c.in_ok-at.at (after_header t f gl rl) r zs → Writes c.args.out.now 0 (render t f gl rl) r zs
headed c r zs w =
    let t = c.args.page.now.sound.table in
    let p = c.args.page.now.figures in
    let f = shown_of c.args.figured c.args.page.now.figures in
    let first = subst (λ x. Writes c.args.out.now 0 (line_text x) (Some c.in_ok-at.at) c.write_line.new.out) (c.header_line.ensures ∙ ap (header_entry t) (c.figure_count-figures.ensures ∙ shown_count c.args.figured t.grades p)) c.in_ok-at.ensures in
    subst (λ l. Writes c.args.out.now 0 l r zs) (sym (in_parts t f _ _)) (writes_then _ 0 (line_text (header_entry t (figures_of t.grades f))) _ _ first _ r zs w)

graded : (c : In_ok-at-2) (r : Option ℕ) (zs : List ℕ) →
    let t = c.args.page.now.sound.table in
    let f = shown_of c.args.figured c.args.page.now.figures in
    let gl = labels_of c.args.old.now c.args.labels.now.grade in
    let rl = labels_of c.args.old.now c.args.labels.now.row in
    Writes c.write_lines.new.out c.in_ok-at-2.at (after_grades t f rl) r zs → Writes c.write_line.new.out c.in_ok-at.at (after_header t f gl rl) r zs
graded c r zs w =
    let t = c.args.page.now.sound.table in
    let gl = labels_of c.args.old.now c.args.labels.now.grade in
    writes_then _ _ _ _ _ (c.in_ok-at-2.ensures.lines (λ i. grade_entry t.first_row (gl i) i) (λ i l lt said. search rules)) _ r zs w

rowed : (c : In_ok-at-3) (r : Option ℕ) (zs : List ℕ) →
    let t = c.args.page.now.sound.table in
    let f = shown_of c.args.figured c.args.page.now.figures in
    let rl = labels_of c.args.old.now c.args.labels.now.row in
    Writes c.write_lines-2.new.out c.in_ok-at-3.at (after_rows t f) r zs → Writes c.write_lines.new.out c.in_ok-at-2.at (after_grades t f rl) r zs
rowed c r zs w =
    let t = c.args.page.now.sound.table in
    let rl = labels_of c.args.old.now c.args.labels.now.row in
    writes_then _ _ _ _ _ (c.in_ok-at-3.ensures.lines (λ i. row_entry t.row (rl i) i) (λ i l lt said. search rules)) _ r zs w

arced : (c : In_ok-at-4) (r : Option ℕ) (zs : List ℕ) →
    let t = c.args.page.now.sound.table in
    let f = shown_of c.args.figured c.args.page.now.figures in
    Writes c.write_lines-3.new.out c.in_ok-at-4.at (after_arcs t f) r zs → Writes c.write_lines-2.new.out c.in_ok-at-3.at (after_rows t f) r zs
arced c r zs w =
    let t = c.args.page.now.sound.table in
    writes_then _ _ _ _ _ (c.in_ok-at-4.ensures.lines (λ i. arc_entry t.arc i) (λ i l lt said. search rules)) _ r zs w

figured : (c : In_ok-at-5) (r : Option ℕ) (zs : List ℕ) →
    let t = c.args.page.now.sound.table in
    let f = shown_of c.args.figured c.args.page.now.figures in
    Writes c.write_lines-4.new.out c.in_ok-at-5.at (line_text end) r zs → Writes c.write_lines-3.new.out c.in_ok-at-4.at (after_arcs t f) r zs
figured c r zs w =
    let t = c.args.page.now.sound.table in
    let p = c.args.page.now.figures in
    let lines = subst (λ l. Writes c.write_lines-3.new.out c.in_ok-at-4.at l (Some c.in_ok-at-5.at) c.write_lines-4.new.out) (ap (series (λ i. line_text (figure_entry p.row p.floor.at p.ceiling.at i))) c.figure_count-figures.ensures ∙ shown_part c.args.figured t.grades p) (c.in_ok-at-5.ensures.lines (λ i. figure_entry p.row p.floor.at p.ceiling.at i) (λ i l lt said. search rules)) in
    writes_then _ _ _ _ _ lines _ r zs w

pub returns-in_err-at : goal.returns-in_err-at
returns-in_err-at c =
    let t = c.args.page.now.sound.table in
    let p = c.args.page.now.figures in
    let f = shown_of c.args.figured c.args.page.now.figures in
    let gl = labels_of c.args.old.now c.args.labels.now.grade in
    let rl = labels_of c.args.old.now c.args.labels.now.row in
    let none = subst (λ x. Writes c.args.out.now 0 (line_text x) None c.write_line.new.out) (c.header_line.ensures ∙ ap (header_entry t) (c.figure_count-figures.ensures ∙ shown_count c.args.figured t.grades p)) c.in_err-at.ensures in
    rw c.from_residual.ensures (subst (λ l. Writes c.args.out.now 0 l None c.write_line.new.out) (sym (in_parts t f gl rl)) (writes_none _ 0 (line_text (header_entry t (figures_of t.grades f))) _ (after_header t f gl rl) none))

pub returns-in_err-at-2 : goal.returns-in_err-at-2
returns-in_err-at-2 c =
    let at = goal.at.returns-in_err-at-2 c in
    let t = c.args.page.now.sound.table in
    let f = shown_of c.args.figured c.args.page.now.figures in
    let gl = labels_of c.args.old.now c.args.labels.now.grade in
    let rl = labels_of c.args.old.now c.args.labels.now.row in
    rw c.from_residual-in_err-at-2.ensures (headed at.In_ok-at None _ (writes_none _ _ (grades_text t.first_row gl t.grades) _ (after_grades t f rl) (c.in_err-at-2.ensures.lines (λ i. grade_entry t.first_row (gl i) i) (λ i l lt said. search rules))))

pub returns-in_err-at-3 : goal.returns-in_err-at-3
returns-in_err-at-3 c =
    let at = goal.at.returns-in_err-at-3 c in
    let t = c.args.page.now.sound.table in
    let f = shown_of c.args.figured c.args.page.now.figures in
    let rl = labels_of c.args.old.now c.args.labels.now.row in
    rw c.from_residual-in_err-at-3.ensures (headed at.In_ok-at None _ (graded at.In_ok-at-2 None _ (writes_none _ _ (rows_text t.row rl t.rows) _ (after_rows t f) (c.in_err-at-3.ensures.lines (λ i. row_entry t.row (rl i) i) (λ i l lt said. search rules)))))

pub returns-in_err-at-4 : goal.returns-in_err-at-4
returns-in_err-at-4 c =
    let at = goal.at.returns-in_err-at-4 c in
    let t = c.args.page.now.sound.table in
    let f = shown_of c.args.figured c.args.page.now.figures in
    rw c.from_residual-in_err-at-4.ensures (headed at.In_ok-at None _ (graded at.In_ok-at-2 None _ (rowed at.In_ok-at-3 None _ (writes_none _ _ (arcs_text t.arc t.arcs) _ (after_arcs t f) (c.in_err-at-4.ensures.lines (λ i. arc_entry t.arc i) (λ i l lt said. search rules))))))

pub returns-in_err-at-5 : goal.returns-in_err-at-5
returns-in_err-at-5 c =
    let at = goal.at.returns-in_err-at-5 c in
    let t = c.args.page.now.sound.table in
    let p = c.args.page.now.figures in
    let f = shown_of c.args.figured c.args.page.now.figures in
    let lines = subst (λ l. Writes c.write_lines-3.new.out c.in_ok-at-4.at l None c.write_lines-4.new.out) (ap (series (λ i. line_text (figure_entry p.row p.floor.at p.ceiling.at i))) c.figure_count-figures.ensures ∙ shown_part c.args.figured t.grades p) (c.in_err-at-5.ensures.lines (λ i. figure_entry p.row p.floor.at p.ceiling.at i) (λ i l lt said. search rules)) in
    rw c.from_residual-in_err-at-5.ensures (headed at.In_ok-at None _ (graded at.In_ok-at-2 None _ (rowed at.In_ok-at-3 None _ (arced at.In_ok-at-4 None _ (writes_none _ _ (figure_part t.grades f) _ (line_text end) lines)))))

pub returns : goal.returns
returns c =
    let at = goal.at.returns c in
    headed at.In_ok-at _ _ (graded at.In_ok-at-2 _ _ (rowed at.In_ok-at-3 _ _ (arced at.In_ok-at-4 _ _ (figured at.In_ok-at-5 _ _ c.write_line-2.ensures))))
