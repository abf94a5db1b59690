-- No rendering is refused.
use Rattle.std.proofs.Common.{◌≡◌, ℕ, zero, suc, ◌+◌, ◌<◌, ◌⊎◌, List, [], ◌∷◌, ◌++◌, length, get_or, Some, None, Option, sym, refl, ap, ◌∙◌, subst, inl, inr, append_assoc, arith}
use Rattle.table.specs.declared.figures.Figures.{Figures}
use Rattle.table.specs.declared.table.Table.{Table}
use Rattle.table.specs.Ranges.{row0, arc0}
use Rattle.lines.specs.declared.fault.TextFault.{TextFault}
use Rattle.lines.specs.Lines.{Entry, line_text}
use Rattle.lines.specs.Lines as line
use Rattle.sheet.specs.Due.{Counts, Counted, Slot, grade, row, arc, figure, end, group, slots}
use Rattle.sheet.specs.Read.{PlansIn}
use Rattle.sheet.specs.Refused.{Taken, Through, Stops, HeaderTaken}
use Rattle.sheet.specs.Render.{series, grade_entry, row_entry, arc_entry, figure_entry, figures_of}
use Rattle.sheet.specs.Laws.{Content, RenderingRead}
use Rattle.sheet.proofs.Once.{taken_once, taken_wrong, taken_missing, headed_once, headed_headless, headed_wrong}
use Rattle.sheet.proofs.Contents.{grade_good, row_good, arc_good, figure_good, in_parts, after_arcs, after_rows, after_grades, after_header}
use Rattle.sheet.proofs.Lengths.{render_short}

-- the lines of a group are there one after another
group_through : (c : Counts) (s : ℕ → Slot) (e : ℕ → Entry) (n : ℕ) (ss : List Slot) (x rest : List ℕ) → ((i : ℕ) → i < n → (y : List ℕ) → Taken c (s i) (line_text (e i) ++ y) y) → Through c ss x rest → Through c (group s n ++ ss) (series (λ i. line_text (e i)) n ++ x) rest
group_through c s e zero ss x rest takes more = more
group_through c s e (suc n) ss x rest takes more =
    let f : ℕ → List ℕ = λ i. line_text (e i) in
    let all : Through c (group s n ++ (s n ∷ ss)) (series f n ++ (f n ++ x)) rest = group_through c s e n (s n ∷ ss) (f n ++ x) rest (λ i lt. takes i (omega arith)) (x, takes n (omega arith) x, more) in
    subst (λ l. Through c l ((series f n ++ f n) ++ x) rest) (sym (append_assoc (group s n) (s n ∷ []) ss)) (subst (λ l. Through c (group s n ++ (s n ∷ ss)) l rest) (sym (append_assoc (series f n) (f n) x)) all)

-- where all that is due is there and nothing more, no line is the first refused
through_stops : (c : Counts) (ss : List Slot) (l : ℕ) (bs : List ℕ) (f : TextFault) → Through c ss bs [] → Stops c ss l bs f → ⊥
through_stops c [] l bs f p q = omega (arith, ap length p, q.0)
through_stops c (s ∷ ss) l bs f p (inl q) = taken_missing c s bs p.0 p.1 q.0
through_stops c (s ∷ ss) l bs f p (inr (inl q)) = taken_wrong c s bs p.0 p.1 q.0
through_stops c (s ∷ ss) l bs f p (inr (inr q)) =
    let same = taken_once c s bs q.0 p.0 q.1 p.1 in
    through_stops c ss (l + 1) p.0 f p.2 (subst (λ r. Stops c ss (l + 1) r f) same q.2)

-- what a table's first line says
abbrev counts_of : Table → Option Figures → Counts
counts_of t f = record { grades = t.grades; rows = t.rows; arcs = t.arcs; total = t.total; numerator = t.numerator; denominator = t.denominator; fineness = t.fineness; figures = figures_of t.grades f }

figured : (n : ℕ) (f : Option Figures) → (figures_of n f ≡ 0) ⊎ (figures_of n f ≡ n)
figured n None = inl refl
figured n (Some f) = inr refl

counted : (t : Table) (f : Option Figures) → Counted (counts_of t f)
counted t f = record {
  grades = t.graded;
  rows = t.rowed;
  arcs = t.arced;
  total = t.weighed;
  denominator = t.discounted;
  numerator = t.shrinking;
  fineness = t.fine;
  figures = figured t.grades f;
}

module _ (t : Table) where
  figures_through : (f : Option Figures) (c : Counts) → c.rows ≡ t.rows → PlansIn t.grades t.rows f → Through c (group figure (figures_of t.grades f) ++ end ∷ []) (after_arcs t f) []
  figures_through None c is plans = ([], record { said = tt; good = tt; text = refl; ranged = tt }, refl)
  figures_through (Some f) c is plans =
      group_through c figure (λ i. figure_entry f.row f.floor.at f.ceiling.at i) t.grades (end ∷ []) (line_text line.end) []
      (λ i lt y.
      let p = plans i lt in
      record {
        said = _;
        good = figure_good t f i plans lt;
        text = refl;
        ranged = (refl, (get_or f.row i 0, refl, (omega arith, omega arith)), f.floor.within i (omega arith), f.ceiling.within i (omega arith));
      })
      ([], record { said = tt; good = tt; text = refl; ranged = tt }, refl)

  rendered_through : (f : Option Figures) (gl rl : ℕ → List ℕ) → Content t f gl rl → Through (counts_of t f) (slots (counts_of t f)) (after_header t f gl rl) []
  rendered_through f gl rl one =
      let c = counts_of t f in
      let fs = group figure (figures_of t.grades f) ++ end ∷ [] in
      let xs = group arc t.arcs ++ fs in
      let rs = group row t.rows ++ xs in
      let p = figures_through f c refl one.plans in
      let a : Through c xs (after_rows t f) [] = group_through c arc (λ i. arc_entry t.arc i) t.arcs fs (after_arcs t f) []
      (λ i lt y.
      let k = t.arcsin i lt in
      let x = get_or t.arc i arc0 in
      record { said = _; good = arc_good t i lt; text = refl; ranged = (refl, (x.next, refl, (omega arith, k.0)), (x.destination, refl, k.1), (x.weight, refl, k.2)) }) p in
      let r : Through c rs (after_grades t f rl) [] = group_through c row (λ i. row_entry t.row (rl i) i) t.rows xs (after_rows t f) []
      (λ i lt y.
      let k = t.rowsin i lt in
      let x = get_or t.row i row0 in
      record { said = _; good = row_good t (rl i) i lt (one.row_labels i lt); text = refl; ranged = (refl, (x.next, refl, (omega arith, k.0)), k.2, k.3, (x.first_arc, refl, k.1)) }) a in
      group_through c grade (λ i. grade_entry t.first_row (gl i) i) t.grades rs (after_grades t f rl) []
      (λ i lt y. record { said = _; good = grade_good t (gl i) i lt (one.grade_labels i lt); text = refl; ranged = (refl, (get_or t.first_row i 0, refl, t.firsts i lt)) }) r

pub rendering_read : RenderingRead
rendering_read bs t f gl rl one is e (inl p) = omega (arith, ap length is, render_short t f gl rl one.grade_labels one.row_labels one.plans, p.0)
rendering_read bs t f gl rl one is e (inr (n, p)) =
    let c = counts_of t f in
    let head : HeaderTaken bs c (after_header t f gl rl) = record { text = is ∙ in_parts t f gl rl; ranged = counted t f } in
    elim p [
      | inl q ↦ headed_headless bs c (after_header t f gl rl) head q.0
      | inr (inl q) ↦ headed_wrong bs c (after_header t f gl rl) head q.0
      | inr (inr q) ↦
          let same = headed_once bs q.0 c q.1 (after_header t f gl rl) q.2 head in
          let stops : Stops c (slots c) 2 (after_header t f gl rl) e = subst (λ r. Stops c (slots c) 2 r e) same.1 (subst (λ d. Stops d (slots d) 2 q.1 e) same.0 q.3) in
          through_stops c (slots c) 2 (after_header t f gl rl) e (rendered_through t f gl rl one) stops
    ]
