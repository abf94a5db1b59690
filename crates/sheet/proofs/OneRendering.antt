-- One text says one thing.
use Rattle.std.proofs.Common.{◌≡◌, ℕ, zero, suc, ◌<◌, List, ◌++◌, get_or, pos, Some, None, Option, sym, ap, ◌∙◌, append_assoc, arith, below_more}
use Rattle.table.specs.declared.figures.Figures.{Figures}
use Rattle.table.specs.declared.rows.Arc.{Arc}
use Rattle.table.specs.declared.rows.Row.{Row}
use Rattle.table.specs.declared.table.Table.{Table}
use Rattle.table.specs.Ranges.{row0, arc0}
use Rattle.lines.specs.Lines.{Entry, Good, line_text, end}
use Rattle.sheet.specs.Read.{PlansIn}
use Rattle.sheet.specs.Render.{series, grade_entry, row_entry, arc_entry, figure_entry, figure_part, figures_of, header_entry}
use Rattle.sheet.specs.Laws.{SameFigure, SameFigures, RenderingOne}
use Rattle.lines.proofs.LineKinds.{prefix_free}
use Rattle.sheet.specs.Due as due
use Rattle.sheet.proofs.Once.{pos_inj, header_inj, entry_inj}
use Rattle.sheet.proofs.Contents.{header_good, grade_good, row_good, arc_good, figure_good, in_parts, after_arcs, after_rows, after_grades, after_header}

-- as many lines of good form, with the same text and what stands after them, are the same lines
lines_one : (e e' : ℕ → Entry) (n : ℕ) (x y : List ℕ) → ((i : ℕ) → i < n → Good (e i)) → ((i : ℕ) → i < n → Good (e' i)) → series (λ i. line_text (e i)) n ++ x ≡ series (λ i. line_text (e' i)) n ++ y → ((i : ℕ) → i < n → e i ≡ e' i) × (x ≡ y)
lines_one e e' zero x y g h same = ((λ i lt. absurd (omega arith)), same)
lines_one e e' (suc n) x y g h same =
    let f : ℕ → List ℕ = λ i. line_text (e i) in
    let f' : ℕ → List ℕ = λ i. line_text (e' i) in
    let p = lines_one e e' n (f n ++ x) (f' n ++ y) (λ i lt. g i (omega arith)) (λ i lt. h i (omega arith)) (sym (append_assoc (series f n) (f n) x) ∙ same ∙ append_assoc (series f' n) (f' n) y) in
    let q = prefix_free (e n) (e' n) x y (g n (omega arith)) (h n (omega arith)) p.1 in
    ((λ i lt. below_more (λ k. e k ≡ e' k) n p.0 q.0 i (omega arith)), q.1)

pub lines_same : (e e' : ℕ → Entry) (n m : ℕ) (x y : List ℕ) → n ≡ m → ((i : ℕ) → i < n → Good (e i)) → ((i : ℕ) → i < m → Good (e' i)) → series (λ i. line_text (e i)) n ++ x ≡ series (λ i. line_text (e' i)) m ++ y → ((i : ℕ) → i < n → e i ≡ e' i) × (x ≡ y)
lines_same e e' n m x y is g h same = lines_one e e' n x y g (λ i lt. h i (omega arith)) (same ∙ ap (λ k. series (λ i. line_text (e' i)) k ++ y) (sym is))

-- what a line of each kind says is in the line
same_row : (r s : Row) → pos r.next ≡ pos s.next → r.cost.0 ≡ s.cost.0 → r.cost.1 ≡ s.cost.1 → pos r.first_arc ≡ pos s.first_arc → r ≡ s
same_row r s p q v w =
    let n = pos_inj r.next s.next p in
    let f = pos_inj r.first_arc s.first_arc w in
    λ i. record { next = n i; cost = (q i, v i); first_arc = f i }

same_arc : (a b : Arc) → pos a.next ≡ pos b.next → pos a.destination ≡ pos b.destination → pos a.weight ≡ pos b.weight → a ≡ b
same_arc a b p q v =
    let n = pos_inj a.next b.next p in
    let d = pos_inj a.destination b.destination q in
    let w = pos_inj a.weight b.weight v in
    λ i. record { next = n i; destination = d i; weight = w i }

figure_said : (f g : Figures) (i : ℕ) → figure_entry f.row f.floor.at f.ceiling.at i ≡ figure_entry g.row g.floor.at g.ceiling.at i → SameFigure f g i
figure_said f g i e =
    let p = entry_inj (due.figure 0) _ _ e in
    record {
      plan = pos_inj (get_or f.row i 0) (get_or g.row i 0) (ap (λ x. x.1.0) p);
      floor = λ j. (ap (λ x. x.1.1.0) p j, ap (λ x. x.1.1.1.0) p j);
      ceiling = λ j. (ap (λ x. x.1.1.1.1.0) p j, ap (λ x. x.1.1.1.1.1) p j);
    }

-- the figures that follow the arcs
module _ (t u : Table) where
  figures_one : (f g : Option Figures) (x y : List ℕ) → t.grades ≡ u.grades → figures_of t.grades f ≡ figures_of u.grades g → PlansIn t.grades t.rows f → PlansIn u.grades u.rows g → figure_part t.grades f ++ x ≡ figure_part u.grades g ++ y → SameFigures t.grades f g
  figures_one None None x y is few p q same = tt
  figures_one None (Some g) x y is few p q same = absurd (omega arith)
  figures_one (Some f) None x y is few p q same = absurd (omega arith)
  figures_one (Some f) (Some g) x y is few p q same =
      let each = lines_same (λ i. figure_entry f.row f.floor.at f.ceiling.at i) (λ i. figure_entry g.row g.floor.at g.ceiling.at i) t.grades u.grades x y is (λ i lt. figure_good t f i p lt) (λ i lt. figure_good u g i q lt) same in
      λ i lt. figure_said f g i (each.0 i lt)

pub rendering_one : RenderingOne
rendering_one t u f g gl gl' rl rl' one two same =
    let few = figures_of t.grades f in
    let few' = figures_of u.grades g in
    let p = prefix_free (header_entry t few) (header_entry u few') (after_header t f gl rl) (after_header u g gl' rl') (header_good t f) (header_good u g) (sym (in_parts t f gl rl) ∙ same ∙ in_parts u g gl' rl') in
    let h = header_inj _ _ p.0 in
    let grades-is = pos_inj t.grades u.grades (ap (λ x. x.0.0) h) in
    let rows_is = pos_inj t.rows u.rows (ap (λ x. x.0.1.0) h) in
    let arcs-is = pos_inj t.arcs u.arcs (ap (λ x. x.0.1.1.0) h) in
    let q = lines_same (λ i. grade_entry t.first_row (gl i) i) (λ i. grade_entry u.first_row (gl' i) i) t.grades u.grades (after_grades t f rl) (after_grades u g rl') grades-is (λ i lt. grade_good t (gl i) i lt (one.grade_labels i lt)) (λ i lt. grade_good u (gl' i) i lt (two.grade_labels i lt)) p.1 in
    let r = lines_same (λ i. row_entry t.row (rl i) i) (λ i. row_entry u.row (rl' i) i) t.rows u.rows (after_rows t f) (after_rows u g) rows_is (λ i lt. row_good t (rl i) i lt (one.row_labels i lt)) (λ i lt. row_good u (rl' i) i lt (two.row_labels i lt)) q.1 in
    let a = lines_same (λ i. arc_entry t.arc i) (λ i. arc_entry u.arc i) t.arcs u.arcs (after_arcs t f) (after_arcs u g) arcs-is (λ i lt. arc_good t i lt) (λ i lt. arc_good u i lt) r.1 in
    record {
      grades = grades-is;
      rows = rows_is;
      arcs = arcs-is;
      total = pos_inj t.total u.total (ap (λ x. x.0.1.1.1) h);
      numerator = pos_inj t.numerator u.numerator (ap (λ x. x.1.0) h);
      denominator = pos_inj t.denominator u.denominator (ap (λ x. x.1.1.0) h);
      fineness = pos_inj t.fineness u.fineness (ap (λ x. x.1.1.1.0) h);
      firsts = λ i lt. pos_inj (get_or t.first_row i 0) (get_or u.first_row i 0) (ap (λ x. x.1.0) (entry_inj (due.grade 0) _ _ (q.0 i lt)));
      row = λ i lt. let w = entry_inj (due.row 0) _ _ (r.0 i lt) in same_row (get_or t.row i row0) (get_or u.row i row0) (ap (λ x. x.0.1.0) w) (ap (λ x. x.0.1.1.0) w) (ap (λ x. x.0.1.1.1) w) (ap (λ x. x.1.0) w);
      arc = λ i lt. let w = entry_inj (due.arc 0) _ _ (a.0 i lt) in same_arc (get_or t.arc i arc0) (get_or u.arc i arc0) (ap (λ x. x.1.0) w) (ap (λ x. x.1.1.0) w) (ap (λ x. x.1.1.1) w);
      figures = figures_one t u f g (line_text end) (line_text end) grades-is (pos_inj few few' (ap (λ x. x.1.1.1.1) h)) one.plans two.plans a.1;
      grade_labels = λ i lt. ap (λ x. x.1.1) (entry_inj (due.grade 0) _ _ (q.0 i lt));
      row_labels = λ i lt. ap (λ x. x.1.1) (entry_inj (due.row 0) _ _ (r.0 i lt));
    }
