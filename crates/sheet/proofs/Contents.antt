-- The lines of a rendering, each of good form.
use Rattle.std.proofs.Common.{◌≡◌, ℕ, Bool, true, false, cond, refl, ◌+◌, ◌<◌, ◌≤◌, List, ◌++◌, get_or, pos, Some, None, Option, append_assoc, arith}
use Rattle.text.specs.Fields.{Small, Label}
use Rattle.table.specs.declared.figures.Figures.{Figures}
use Rattle.table.specs.declared.table.Table.{Table}
use Rattle.table.specs.Ranges.{FirstsIn, row0, arc0}
use Rattle.lines.specs.Lines.{Good, line_text, end}
use Rattle.sheet.specs.Read.{PlansIn}
use Rattle.sheet.specs.Written.{shown_of}
use Rattle.sheet.specs.Render.{series, grade_entry, row_entry, arc_entry, figure_entry, grades_text, rows_text, arcs_text, figure_part, figures_of, header_entry, render}

-- numbers in their ranges have few digits
pub small : (n : ℕ) → n ≤ 1000 → Small (pos n)
small n h = omega arith

figures_few : (t : Table) (f : Option Figures) → figures_of t.grades f ≤ 1000
figures_few t None = omega arith
figures_few t (Some f) = omega arith

module _ (t : Table) where
  pub header_good : (f : Option Figures) → Good (header_entry t (figures_of t.grades f))
  header_good f = (
    (small t.grades (omega arith), (small t.rows (omega arith), (small t.arcs (omega arith), small t.total (omega arith)))),
    (small t.numerator (omega arith), (small t.denominator (omega arith), (small t.fineness (omega arith), small (figures_of t.grades f) (figures_few t f)))),
  )

  pub grade_good : (label : List ℕ) (i : ℕ) → i < t.grades → Label label → Good (grade_entry t.first_row label i)
  grade_good label i h l =
      let p = t.firsts i h in
      (small (i + 1) (omega arith), (small (get_or t.first_row i 0) (omega arith), l))

  pub row_good : (label : List ℕ) (i : ℕ) → i < t.rows → Label label → Good (row_entry t.row label i)
  row_good label i h l =
      let p = t.rowsin i h in
      let r = get_or t.row i row0 in
      ((small (i + 1) (omega arith), (small r.next (omega arith), (omega (arith, p.2), omega (arith, p.3)))), (small r.first_arc (omega arith), l))

  pub arc_good : (i : ℕ) → i < t.arcs → Good (arc_entry t.arc i)
  arc_good i h =
      let p = t.arcsin i h in
      let a = get_or t.arc i arc0 in
      (small (i + 1) (omega arith), (small a.next (omega arith), (small a.destination (omega arith), small a.weight (omega arith))))

  pub figure_good : (f : Figures) (i : ℕ) → FirstsIn t.grades t.rows f.row → i < t.grades → Good (figure_entry f.row f.floor.at f.ceiling.at i)
  figure_good f i plans h =
      let p = plans i h in
      let low = f.floor.within i (omega arith) in
      let high = f.ceiling.within i (omega arith) in
      (small (i + 1) (omega arith), (small (get_or f.row i 0) (omega arith), (omega (arith, low.0), (omega (arith, low.1), (omega (arith, high.0), omega (arith, high.1))))))

-- what follows the arcs of a rendering, the rows, the grades and the first line
abbrev pub after_arcs : Table → Option Figures → List ℕ
after_arcs t f = figure_part t.grades f ++ line_text end

abbrev pub after_rows : Table → Option Figures → List ℕ
after_rows t f = arcs_text t.arc t.arcs ++ after_arcs t f

abbrev pub after_grades : Table → Option Figures → (ℕ → List ℕ) → List ℕ
after_grades t f rl = rows_text t.row rl t.rows ++ after_rows t f

abbrev pub after_header : Table → Option Figures → (ℕ → List ℕ) → (ℕ → List ℕ) → List ℕ
after_header t f gl rl = grades_text t.first_row gl t.grades ++ after_grades t f rl

-- a rendering, from its first line on
pub in_parts : (t : Table) (f : Option Figures) (gl rl : ℕ → List ℕ) → render t f gl rl ≡ line_text (header_entry t (figures_of t.grades f)) ++ after_header t f gl rl
unfolding render
in_parts t f gl rl = regroup (line_text (header_entry t (figures_of t.grades f))) (grades_text t.first_row gl t.grades) (rows_text t.row rl t.rows) (arcs_text t.arc t.arcs) (figure_part t.grades f) (line_text end)
  where
    regroup : (a b c d e f : List ℕ) → ((((a ++ b) ++ c) ++ d) ++ e) ++ f ≡ a ++ (b ++ (c ++ (d ++ (e ++ f))))
    regroup a b c d e f = simp append_assoc

-- a page's figures, shown or not
pub shown_count : (figured : Bool) (n : ℕ) (f : Figures) → cond figured n 0 ≡ figures_of n (shown_of figured f)
shown_count true n f = refl
shown_count false n f = refl

pub shown_part : (figured : Bool) (n : ℕ) (f : Figures) → series (λ i. line_text (figure_entry f.row f.floor.at f.ceiling.at i)) (cond figured n 0) ≡ figure_part n (shown_of figured f)
shown_part true n f = refl
shown_part false n f = refl

-- its plan rows are in range, also where they are not shown
pub shown_plans : (figured : Bool) (grades rows : ℕ) (f : Figures) → FirstsIn grades rows f.row → PlansIn grades rows (shown_of figured f)
shown_plans true grades rows f plans = plans
shown_plans false grades rows f plans = tt
