-- No sheet is long.
use Rattle.std.proofs.Common.{◌≡◌, ℕ, zero, suc, ◌+◌, ◌*◌, ◌^◌, ◌<◌, ◌≤◌, List, [], ◌∷◌, ◌++◌, length, get_or, ℤ, pos, negsuc, nat_abs, Some, None, decimal, Option, sym, ap, ◌∙◌, add-mul, one-mul, add-one, arith}
use Rattle.std.proofs.lemmas.Fmt.{length-decimal-le}
use Rattle.std.proofs.lemmas.List.{length-append}
use Rattle.text.specs.Fields.{Label, number_text, label_text}
use Rattle.table.specs.declared.figures.Figures.{Figures}
use Rattle.table.specs.declared.table.Table.{Table}
use Rattle.lines.specs.Lines.{line_text, grade, row, arc, figure, end, blank, four_text}
use Rattle.sheet.specs.Read.{PlansIn}
use Rattle.sheet.specs.Render.{series, counts_entry, grades_text, rows_text, arcs_text, figure_part, figures_of, header_entry, render}

count_long : (e k n : ℕ) → 0 < k → n < 10 ^ k → n < 2 ^ 64 → length (number_text e (pos n)) ≤ k + 1
count_long e k n some small fits = omega (arith, length-append (decimal n) (e ∷ []), length-decimal-le k n some small fits)

part_long : (e k : ℕ) (z : ℤ) → 0 < k → nat_abs z < 10 ^ k → nat_abs z < 2 ^ 64 → length (number_text e z) ≤ k + 2
part_long e k (pos n) some small fits = omega (arith, count_long e k n some small fits)
part_long e k (negsuc n) some small fits = omega (arith, length-append (45 ∷ decimal (suc n)) (e ∷ []), length-decimal-le k (suc n) some small fits)

four_long : (e : ℕ) (x y z w : ℤ) → length (four_text e (x, (y, (z, w)))) ≡ length (blank x) + length (blank y) + length (blank z) + length (number_text e w)
four_long e x y z w = omega (arith, length-append (blank x) (blank y ++ (blank z ++ number_text e w)), length-append (blank y) (blank z ++ number_text e w), length-append (blank z) (number_text e w))

series_long : (f : ℕ → List ℕ) (b n : ℕ) → ((k : ℕ) → k < n → length (f k) ≤ b) → length (series f n) ≤ n * b
series_long f b zero each = omega arith
series_long f b (suc n) each =
    let more : suc n * b ≡ n * b + b = ap (λ m. m * b) (sym (add-one n)) ∙ add-mul n 1 b ∙ ap (λ m. n * b + m) (one-mul b) in
    omega (arith, series_long f b n (λ k h. each k (omega arith)), each n (omega arith), length-append (series f n) (f n), more)

grade_long : (i first : ℕ) (label : List ℕ) → i < 32 → first ≤ 96 → length label ≤ 24 → length (line_text (grade (pos (i + 1), (pos first, label)))) ≤ 35
grade_long i first label p q r =
    omega (
      arith,
      count_long 32 3 (i + 1) (omega arith) (omega arith) (omega arith),
      count_long 32 3 first (omega arith) (omega arith) (omega arith),
      length-append (blank (pos (i + 1))) (blank (pos first) ++ label_text label),
      length-append (blank (pos first)) (label_text label),
      length-append label (10 ∷ []),
    )

row_long : (i x w : ℕ) (y z : ℤ) (label : List ℕ) → i < 96 → x ≤ 96 → nat_abs y ≤ 100000 → nat_abs z ≤ 100000 → w ≤ 512 → length label ≤ 24 → length (line_text (row ((pos (i + 1), (pos x, (y, z))), (pos w, label)))) ≤ 55
row_long i x w y z label p q r s t u =
    omega (
      arith,
      count_long 32 3 (i + 1) (omega arith) (omega arith) (omega arith),
      count_long 32 3 x (omega arith) (omega arith) (omega arith),
      part_long 32 6 y (omega arith) (omega arith) (omega arith),
      part_long 32 6 z (omega arith) (omega arith) (omega arith),
      count_long 32 3 w (omega arith) (omega arith) (omega arith),
      four_long 32 (pos (i + 1)) (pos x) y z,
      length-append (four_text 32 (pos (i + 1), (pos x, (y, z)))) (blank (pos w) ++ label_text label),
      length-append (blank (pos w)) (label_text label),
      length-append label (10 ∷ []),
    )

arc_long : (i x y z : ℕ) → i < 512 → x ≤ 512 → y ≤ 32 → z ≤ 1000 → length (line_text (arc (pos (i + 1), (pos x, (pos y, pos z))))) ≤ 22
arc_long i x y z p q r s =
    omega (
      arith,
      count_long 32 4 (i + 1) (omega arith) (omega arith) (omega arith),
      count_long 32 4 x (omega arith) (omega arith) (omega arith),
      count_long 32 4 y (omega arith) (omega arith) (omega arith),
      count_long 10 4 z (omega arith) (omega arith) (omega arith),
      length-append (blank (pos (i + 1))) (blank (pos x) ++ (blank (pos y) ++ number_text 10 (pos z))),
      length-append (blank (pos x)) (blank (pos y) ++ number_text 10 (pos z)),
      length-append (blank (pos y)) (number_text 10 (pos z)),
    )

figure_long : (i x : ℕ) (y z u v : ℤ) → i < 32 → x ≤ 96 → nat_abs y ≤ 10 ^ 10 → nat_abs z ≤ 10 ^ 10 → nat_abs u ≤ 10 ^ 10 → nat_abs v ≤ 10 ^ 10 → length (line_text (figure (pos (i + 1), (pos x, (y, (z, (u, v))))))) ≤ 62
figure_long i x y z u v p q r s t w =
    omega (
      arith,
      count_long 32 3 (i + 1) (omega arith) (omega arith) (omega arith),
      count_long 32 3 x (omega arith) (omega arith) (omega arith),
      part_long 32 11 y (omega arith) (omega arith) (omega arith),
      part_long 32 11 z (omega arith) (omega arith) (omega arith),
      part_long 32 11 u (omega arith) (omega arith) (omega arith),
      part_long 10 11 v (omega arith) (omega arith) (omega arith),
      length-append (blank (pos (i + 1))) (blank (pos x) ++ (blank y ++ (blank z ++ (blank u ++ number_text 10 v)))),
      length-append (blank (pos x)) (blank y ++ (blank z ++ (blank u ++ number_text 10 v))),
      length-append (blank y) (blank z ++ (blank u ++ number_text 10 v)),
      length-append (blank z) (blank u ++ number_text 10 v),
      length-append (blank u) (number_text 10 v),
    )

head_long : (g r a d n b q f : ℕ) → g ≤ 32 → r ≤ 96 → a ≤ 512 → d ≤ 1000 → n ≤ 1000 → b ≤ 1000 → q ≤ 100 → f ≤ 32 → length (line_text (counts_entry g r a d n b q f)) ≤ 46
head_long g r a d n b q f p1 p2 p3 p4 p5 p6 p7 p8 =
    omega (
      arith,
      count_long 32 4 g (omega arith) (omega arith) (omega arith),
      count_long 32 4 r (omega arith) (omega arith) (omega arith),
      count_long 32 4 a (omega arith) (omega arith) (omega arith),
      count_long 32 4 d (omega arith) (omega arith) (omega arith),
      count_long 32 4 n (omega arith) (omega arith) (omega arith),
      count_long 32 4 b (omega arith) (omega arith) (omega arith),
      count_long 32 4 q (omega arith) (omega arith) (omega arith),
      count_long 10 4 f (omega arith) (omega arith) (omega arith),
      four_long 32 (pos g) (pos r) (pos a) (pos d),
      four_long 10 (pos n) (pos b) (pos q) (pos f),
      length-append (four_text 32 (pos g, (pos r, (pos a, pos d)))) (four_text 10 (pos n, (pos b, (pos q, pos f)))),
    )

figures_long : (t : Table) (f : Option Figures) → PlansIn t.grades t.rows f → length (figure_part t.grades f) ≤ t.grades * 62
figures_long t None plans = omega arith
figures_long t (Some f) plans =
    series_long _ 62 t.grades (λ k h.
    let low = f.floor.within k (omega arith) in
    let high = f.ceiling.within k (omega arith) in
    let p = plans k h in
    figure_long k (get_or f.row k 0) _ _ _ _ (omega arith) (omega arith) low.0 low.1 high.0 high.1)

figures_few : (t : Table) (f : Option Figures) → figures_of t.grades f ≤ 32
figures_few t None = omega arith
figures_few t (Some f) = omega arith

six_long : (h g r a f e : List ℕ) → length (((((h ++ g) ++ r) ++ a) ++ f) ++ e) ≡ length h + length g + length r + length a + length f + length e
six_long h g r a f e = simp length-append

pub render_short : (t : Table) (f : Option Figures) (gl rl : ℕ → List ℕ) → ((i : ℕ) → i < t.grades → Label (gl i)) → ((i : ℕ) → i < t.rows → Label (rl i)) → PlansIn t.grades t.rows f → length (render t f gl rl) ≤ 32768
unfolding render
render_short t f gl rl gs rs plans =
    let h = head_long t.grades t.rows t.arcs t.total t.numerator t.denominator t.fineness (figures_of t.grades f) (omega arith) (omega arith) (omega arith) (omega arith) (omega arith) (omega arith) (omega arith) (figures_few t f) in
    let g : length (grades_text t.first_row gl t.grades) ≤ t.grades * 35 = series_long _ 35 t.grades (λ k lt. grade_long k (get_or t.first_row k 0) (gl k) (omega arith) (omega (arith, t.firsts k lt)) (gs k lt).most) in
    let r : length (rows_text t.row rl t.rows) ≤ t.rows * 55 = series_long _ 55 t.rows (λ k lt. let p = t.rowsin k lt in row_long k _ _ _ _ (rl k) (omega arith) (omega arith) p.2 p.3 (omega arith) (rs k lt).most) in
    let a : length (arcs_text t.arc t.arcs) ≤ t.arcs * 22 = series_long _ 22 t.arcs (λ k lt. let p = t.arcsin k lt in arc_long k _ _ _ (omega arith) (omega arith) (omega arith) (omega arith)) in
    let w = figures_long t f plans in
    omega (arith, six_long (line_text (header_entry t (figures_of t.grades f))) (grades_text t.first_row gl t.grades) (rows_text t.row rl t.rows) (arcs_text t.arc t.arcs) (figure_part t.grades f) (line_text end))
