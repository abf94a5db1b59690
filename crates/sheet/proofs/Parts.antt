-- Lines one after another, as they are read.
use Rattle.std.proofs.Common.{◌≡◌, ℕ, zero, suc, ◌+◌, ◌-◌, ◌<◌, ◌≤◌, List, [], ◌∷◌, ◌++◌, length, take, drop, sym, refl, ap, ◌∙◌, append_assoc, arith}
use Rattle.std.proofs.lemmas.List.{length-append, length-drop, length-take-le, take-append-drop, take_at, drop_at}
use Rattle.text.specs.Fields.{label_text}
use Rattle.lines.specs.Lines.{GradeOf, RowOf, grade, row, line_text, blank, four_text}
use Rattle.sheet.specs.Render.{series, part_of}
use Rattle.sheet.proofs.Series.{series_more}

-- the label at a line's end lies before the byte that ends the line
pub label_part : (sheet : List ℕ) (at next : ℕ) (front label : List ℕ) → at < next → next ≤ length sheet → drop at sheet ≡ (front ++ label_text label) ++ drop next sheet → part_of sheet (record { start = next - 1 - length label; end = next - 1 }) ≡ label
label_part sheet at next front label h k cut =
    let p = take at sheet ++ front in
    let rest = drop next sheet in
    let start = next - 1 - length label in
    let p-long = length-append (take at sheet) front ∙ ap (λ n. n + length front) (length-take-le at sheet (omega arith)) in
    let lengths = ap length cut ∙ length-append (front ++ label_text label) rest in
    let inner = length-append front (label_text label) in
    let last = length-append label (10 ∷ []) in
    let is : length p ≡ start = omega (arith, p-long, lengths, inner, last, length-drop at sheet, length-drop next sheet) in
    let long : length label ≡ next - 1 - start = omega (arith, p-long, lengths, inner, last, length-drop at sheet, length-drop next sheet) in
    let whole : sheet ≡ p ++ (label ++ (10 ∷ rest)) = sym (take-append-drop at sheet) ∙ ap (λ l. take at sheet ++ l) cut ∙ simp append_assoc in
    ap (λ l. take (next - 1 - start) (drop start l)) whole ∙ ap (take (next - 1 - start)) (drop_at p (label ++ (10 ∷ rest)) start is) ∙ take_at label (10 ∷ rest) (next - 1 - start) long

pub grade_front : (g : GradeOf) → line_text (grade g) ≡ (103 ∷ 32 ∷ (blank g.0 ++ blank g.1.0)) ++ label_text g.1.1
grade_front g = simp append_assoc

pub row_front : (r : RowOf) → line_text (row r) ≡ (114 ∷ 32 ∷ (four_text 32 r.0 ++ blank r.1.0)) ++ label_text r.1.1
row_front r = simp append_assoc

-- lines that agree make one text
pub series_same : (f g : ℕ → List ℕ) (n : ℕ) → ((k : ℕ) → k < n → f k ≡ g k) → series f n ≡ series g n
series_same f g zero same = refl
series_same f g (suc n) same = λ i. series_same f g n (λ k h. same k (omega arith)) i ++ same n (omega arith) i

-- a turn of a loop that reads lines
pub read_more : (f g : ℕ → List ℕ) (i : ℕ) (bs us vs : List ℕ) → bs ≡ series f i ++ us → ((k : ℕ) → k < i → f k ≡ g k) → us ≡ g i ++ vs → bs ≡ series g (i + 1) ++ vs
read_more f g i bs us vs so_far same line =
    so_far ∙ (λ j. series_same f g i same j ++ line j) ∙ sym (append_assoc (series g i) (g i) vs) ∙ ap (λ l. l ++ vs) (sym (series_more g i))

-- six parts, one after another
pub six : (xs x1 x2 x3 x4 x5 h g r a f e : List ℕ) → xs ≡ h ++ x1 → x1 ≡ g ++ x2 → x2 ≡ r ++ x3 → x3 ≡ a ++ x4 → x4 ≡ f ++ x5 → x5 ≡ e → xs ≡ ((((h ++ g) ++ r) ++ a) ++ f) ++ e
six xs x1 x2 x3 x4 x5 h g r a f e p1 p2 p3 p4 p5 p6 =
    p1 ∙ ap (λ l. h ++ l) (p2 ∙ ap (λ l. g ++ l) (p3 ∙ ap (λ l. r ++ l) (p4 ∙ ap (λ l. a ++ l) (p5 ∙ ap (λ l. f ++ l) p6)))) ∙ simp append_assoc
