-- The kinds of line, each known by its first bytes.
use Rattle.std.proofs.Common.{◌≡◌, ℕ, ◌+◌, ◌-◌, ◌<◌, ◌≤◌, List, [], ◌∷◌, ◌++◌, length, get_or, take, drop, Some, None, Option, sym, refl, ap, ◌∙◌, arith}
use Rattle.std.specs.Option.{option_map}
use Rattle.std.proofs.lemmas.List.{length-append, drop_more, take_rest}
use Rattle.text.specs.Reading.{Reads, Each, both, Alone}
use Rattle.text.specs.Fields.{Small, Ends, number_text}
use Rattle.text.proofs.Reading.{refused, returned, not_some, same_pair, both_alone}
use Rattle.text.proofs.Numbers.{number_alone}
use Rattle.text.proofs.Labels.{label_alone}
use Rattle.lines.specs.declared.records.Line.{Line}
use Rattle.lines.specs.declared.records.Line.TheVariants as line
use Rattle.lines.specs.Lines.{Entry, header, grade, row, arc, figure, end, line_text, Good, HeaderOf, GradeOf, RowOf, ArcOf, FigureOf, header_text, grade_text, row_text, arc_text, figure_text, blank, four_text, GoodFour, GoodHeader, GoodGrade, GoodRow, GoodArc, GoodFigure, entry_of, PrefixFree}
use Rattle.lines.specs.Places.{label_of}

-- one byte in front of what follows it
step : (bs : List ℕ) (i b : ℕ) (us : List ℕ) → i < length bs → get_or bs i 0 ≡ b → drop (i + 1) bs ≡ us → drop i bs ≡ b ∷ us
step bs i b us lt is more = drop_more bs i 0 lt ∙ ap (λ k. k ∷ drop (i + 1) bs) is ∙ ap (λ l. b ∷ l) more

-- the bytes in front, and the rest as a pattern binds it
pub front2 : (bs : List ℕ) (a b : ℕ) → 2 ≤ length bs → get_or bs 0 0 ≡ a → get_or bs 1 0 ≡ b → bs ≡ a ∷ b ∷ take (length bs - 2) (drop 2 bs)
front2 bs a b long x y = step bs 0 a _ (omega arith) x (step bs 1 b _ (omega arith) y (sym (take_rest bs 2)))

pub front4 : (bs : List ℕ) (a b c d : ℕ) → 4 ≤ length bs → get_or bs 0 0 ≡ a → get_or bs 1 0 ≡ b → get_or bs 2 0 ≡ c → get_or bs 3 0 ≡ d → bs ≡ a ∷ b ∷ c ∷ d ∷ take (length bs - 4) (drop 4 bs)
front4 bs a b c d long x y z w =
    step bs 0 a _ (omega arith) x (step bs 1 b _ (omega arith) y (step bs 2 c _ (omega arith) z (step bs 3 d _ (omega arith) w (sym (take_rest bs 4)))))

pub front6 : (bs : List ℕ) (a b c d e f : ℕ) → 6 ≤ length bs → get_or bs 0 0 ≡ a → get_or bs 1 0 ≡ b → get_or bs 2 0 ≡ c → get_or bs 3 0 ≡ d → get_or bs 4 0 ≡ e → get_or bs 5 0 ≡ f → bs ≡ a ∷ b ∷ c ∷ d ∷ e ∷ f ∷ take (length bs - 6) (drop 6 bs)
front6 bs a b c d e f long x y z w u v =
    step bs 0 a _ (omega arith) x (step bs 1 b _ (omega arith) y (step bs 2 c _ (omega arith) z (step bs 3 d _ (omega arith) w (step bs 4 e _ (omega arith) u (step bs 5 f _ (omega arith) v (sym (take_rest bs 6)))))))

-- a line of one kind is read where its fields are
module _ {A : Type 0} {G : A → Type 0} {f : A → List ℕ} (mk : A → Entry) (bs us : List ℕ) (back : (g : A) → G g → Good (mk g)) (writes : (g : A) (rest : List ℕ) → us ≡ f g ++ rest → bs ≡ line_text (mk g) ++ rest) (only : (a : Entry) (rest : List ℕ) → Good a → bs ≡ line_text a ++ rest → (g : A) × (a ≡ mk g) × G g × (us ≡ f g ++ rest)) where
  of_kind : (o : Option (A × List ℕ)) → Reads G f us o → Reads Good line_text bs (option_map (λ q. (mk q.0, q.1)) o)
  of_kind None r = refused (λ a rest g e. let p = only a rest g e in not_some (r.must p.0 rest p.2 p.3))
  of_kind (Some t) r =
      let x = r.was t.0 t.1 refl in
      returned (mk t.0) t.1 (back t.0 x.0) (writes t.0 t.1 x.1)
      (λ a rest g e.
      let p = only a rest g e in
      let z = same_pair t.0 p.0 t.1 rest (r.must p.0 rest p.2 p.3) in
      (p.1 ∙ ap mk (sym z.0), sym z.1))

-- bytes that begin with a kind's first word begin with no line of another kind
pub header_only : (us : List ℕ) (a : Entry) (rest : List ℕ) → Good a → 115 ∷ 104 ∷ 101 ∷ 101 ∷ 116 ∷ 32 ∷ us ≡ line_text a ++ rest → (g : HeaderOf) × (a ≡ header g) × GoodHeader g × (us ≡ header_text g ++ rest)
header_only us (header x) rest h e = (x, refl, h, ap (drop 6) e)
header_only us (grade x) rest h e = absurd (omega (arith, ap (λ l. get_or l 0 0) e))
header_only us (row x) rest h e = absurd (omega (arith, ap (λ l. get_or l 0 0) e))
header_only us (arc x) rest h e = absurd (omega (arith, ap (λ l. get_or l 0 0) e))
header_only us (figure x) rest h e = absurd (omega (arith, ap (λ l. get_or l 0 0) e))
header_only us end rest h e = absurd (omega (arith, ap (λ l. get_or l 0 0) e))

pub grade_only : (us : List ℕ) (a : Entry) (rest : List ℕ) → Good a → 103 ∷ 32 ∷ us ≡ line_text a ++ rest → (g : GradeOf) × (a ≡ grade g) × GoodGrade g × (us ≡ grade_text g ++ rest)
grade_only us (header x) rest h e = absurd (omega (arith, ap (λ l. get_or l 0 0) e))
grade_only us (grade x) rest h e = (x, refl, h, ap (drop 2) e)
grade_only us (row x) rest h e = absurd (omega (arith, ap (λ l. get_or l 0 0) e))
grade_only us (arc x) rest h e = absurd (omega (arith, ap (λ l. get_or l 0 0) e))
grade_only us (figure x) rest h e = absurd (omega (arith, ap (λ l. get_or l 0 0) e))
grade_only us end rest h e = absurd (omega (arith, ap (λ l. get_or l 0 0) e))

pub row_only : (us : List ℕ) (a : Entry) (rest : List ℕ) → Good a → 114 ∷ 32 ∷ us ≡ line_text a ++ rest → (g : RowOf) × (a ≡ row g) × GoodRow g × (us ≡ row_text g ++ rest)
row_only us (header x) rest h e = absurd (omega (arith, ap (λ l. get_or l 0 0) e))
row_only us (grade x) rest h e = absurd (omega (arith, ap (λ l. get_or l 0 0) e))
row_only us (row x) rest h e = (x, refl, h, ap (drop 2) e)
row_only us (arc x) rest h e = absurd (omega (arith, ap (λ l. get_or l 0 0) e))
row_only us (figure x) rest h e = absurd (omega (arith, ap (λ l. get_or l 0 0) e))
row_only us end rest h e = absurd (omega (arith, ap (λ l. get_or l 0 0) e))

pub arc_only : (us : List ℕ) (a : Entry) (rest : List ℕ) → Good a → 116 ∷ 32 ∷ us ≡ line_text a ++ rest → (g : ArcOf) × (a ≡ arc g) × GoodArc g × (us ≡ arc_text g ++ rest)
arc_only us (header x) rest h e = absurd (omega (arith, ap (λ l. get_or l 0 0) e))
arc_only us (grade x) rest h e = absurd (omega (arith, ap (λ l. get_or l 0 0) e))
arc_only us (row x) rest h e = absurd (omega (arith, ap (λ l. get_or l 0 0) e))
arc_only us (arc x) rest h e = (x, refl, h, ap (drop 2) e)
arc_only us (figure x) rest h e = absurd (omega (arith, ap (λ l. get_or l 0 0) e))
arc_only us end rest h e = absurd (omega (arith, ap (λ l. get_or l 0 0) e))

pub figure_only : (us : List ℕ) (a : Entry) (rest : List ℕ) → Good a → 102 ∷ 32 ∷ us ≡ line_text a ++ rest → (g : FigureOf) × (a ≡ figure g) × GoodFigure g × (us ≡ figure_text g ++ rest)
figure_only us (header x) rest h e = absurd (omega (arith, ap (λ l. get_or l 0 0) e))
figure_only us (grade x) rest h e = absurd (omega (arith, ap (λ l. get_or l 0 0) e))
figure_only us (row x) rest h e = absurd (omega (arith, ap (λ l. get_or l 0 0) e))
figure_only us (arc x) rest h e = absurd (omega (arith, ap (λ l. get_or l 0 0) e))
figure_only us (figure x) rest h e = (x, refl, h, ap (drop 2) e)
figure_only us end rest h e = absurd (omega (arith, ap (λ l. get_or l 0 0) e))

pub end_only : (us : List ℕ) (a : Entry) (rest : List ℕ) → Good a → 101 ∷ 110 ∷ 100 ∷ 10 ∷ us ≡ line_text a ++ rest → (a ≡ end) × (rest ≡ us)
end_only us (header x) rest h e = absurd (omega (arith, ap (λ l. get_or l 0 0) e))
end_only us (grade x) rest h e = absurd (omega (arith, ap (λ l. get_or l 0 0) e))
end_only us (row x) rest h e = absurd (omega (arith, ap (λ l. get_or l 0 0) e))
end_only us (arc x) rest h e = absurd (omega (arith, ap (λ l. get_or l 0 0) e))
end_only us (figure x) rest h e = absurd (omega (arith, ap (λ l. get_or l 0 0) e))
end_only us end rest h e = (refl, sym (ap (drop 4) e))

module _ (bs us : List ℕ) where
  pub header_line : bs ≡ 115 ∷ 104 ∷ 101 ∷ 101 ∷ 116 ∷ 32 ∷ us → (o : Option (HeaderOf × List ℕ)) → Reads GoodHeader header_text us o → Reads Good line_text bs (option_map (λ q. (header q.0, q.1)) o)
  header_line at = of_kind header bs us (λ g h. h) (λ g rest e. at ∙ ap (λ l. 115 ∷ 104 ∷ 101 ∷ 101 ∷ 116 ∷ 32 ∷ l) e) (λ a rest h e. header_only us a rest h (sym at ∙ e))

  pub grade_line : bs ≡ 103 ∷ 32 ∷ us → (o : Option (GradeOf × List ℕ)) → Reads GoodGrade grade_text us o → Reads Good line_text bs (option_map (λ q. (grade q.0, q.1)) o)
  grade_line at = of_kind grade bs us (λ g h. h) (λ g rest e. at ∙ ap (λ l. 103 ∷ 32 ∷ l) e) (λ a rest h e. grade_only us a rest h (sym at ∙ e))

  pub row_line : bs ≡ 114 ∷ 32 ∷ us → (o : Option (RowOf × List ℕ)) → Reads GoodRow row_text us o → Reads Good line_text bs (option_map (λ q. (row q.0, q.1)) o)
  row_line at = of_kind row bs us (λ g h. h) (λ g rest e. at ∙ ap (λ l. 114 ∷ 32 ∷ l) e) (λ a rest h e. row_only us a rest h (sym at ∙ e))

  pub arc_line : bs ≡ 116 ∷ 32 ∷ us → (o : Option (ArcOf × List ℕ)) → Reads GoodArc arc_text us o → Reads Good line_text bs (option_map (λ q. (arc q.0, q.1)) o)
  arc_line at = of_kind arc bs us (λ g h. h) (λ g rest e. at ∙ ap (λ l. 116 ∷ 32 ∷ l) e) (λ a rest h e. arc_only us a rest h (sym at ∙ e))

  pub figure_line : bs ≡ 102 ∷ 32 ∷ us → (o : Option (FigureOf × List ℕ)) → Reads GoodFigure figure_text us o → Reads Good line_text bs (option_map (λ q. (figure q.0, q.1)) o)
  figure_line at = of_kind figure bs us (λ g h. h) (λ g rest e. at ∙ ap (λ l. 102 ∷ 32 ∷ l) e) (λ a rest h e. figure_only us a rest h (sym at ∙ e))

pub end_line : (bs us : List ℕ) → bs ≡ 101 ∷ 110 ∷ 100 ∷ 10 ∷ us → Reads Good line_text bs (Some (end, us))
end_line bs us at = returned end us tt at (λ a rest h e. end_only us a rest h (sym at ∙ e))

-- a number in front of fields whose text is the front of no other's
blank_then : {B : Type 0} (H : B → Type 0) (h : B → List ℕ) → Alone H h → Alone (Each Small H) (both blank h)
blank_then H h more = both_alone Small blank H h (number_alone 32 (omega arith)) more

four_alone : (e : ℕ) → Ends e → Alone GoodFour (four_text e)
four_alone e ends = blank_then _ _ (blank_then _ _ (blank_then Small (number_text e) (number_alone e ends)))

header_alone : Alone GoodHeader header_text
header_alone = both_alone GoodFour (four_text 32) GoodFour (four_text 10) (four_alone 32 (omega arith)) (four_alone 10 (omega arith))

grade_alone : Alone GoodGrade grade_text
grade_alone = blank_then _ _ (blank_then _ _ label_alone)

row_alone : Alone GoodRow row_text
row_alone = both_alone GoodFour (four_text 32) _ _ (four_alone 32 (omega arith)) (blank_then _ _ label_alone)

arc_alone : Alone GoodArc arc_text
arc_alone = four_alone 10 (omega arith)

figure_alone : Alone GoodFigure figure_text
figure_alone = blank_then _ _ (blank_then _ _ (four_alone 10 (omega arith)))

pub prefix_free : PrefixFree
prefix_free (header a) b x y g h same =
    let p = header_only (header_text a ++ x) b y h same in
    let q = header_alone a p.0 x y g p.2 p.3 in
    (ap header q.0 ∙ sym p.1, q.1)
prefix_free (grade a) b x y g h same =
    let p = grade_only (grade_text a ++ x) b y h same in
    let q = grade_alone a p.0 x y g p.2 p.3 in
    (ap grade q.0 ∙ sym p.1, q.1)
prefix_free (row a) b x y g h same =
    let p = row_only (row_text a ++ x) b y h same in
    let q = row_alone a p.0 x y g p.2 p.3 in
    (ap row q.0 ∙ sym p.1, q.1)
prefix_free (arc a) b x y g h same =
    let p = arc_only (arc_text a ++ x) b y h same in
    let q = arc_alone a p.0 x y g p.2 p.3 in
    (ap arc q.0 ∙ sym p.1, q.1)
prefix_free (figure a) b x y g h same =
    let p = figure_only (figure_text a ++ x) b y h same in
    let q = figure_alone a p.0 x y g p.2 p.3 in
    (ap figure q.0 ∙ sym p.1, q.1)
prefix_free end b x y g h same = let p = end_only x b y h same in (sym p.0, sym p.1)

-- a label has room in its line, with the line's end
pub labelled : (l : Line) → length (label_of l) + 1 ≤ length (line_text (entry_of l))
labelled (line.Header h) = simp length-append (omega arith)
labelled (line.Grade g) = simp length-append (omega arith)
labelled (line.Row r) = simp length-append (omega arith)
labelled (line.Arc a) = simp length-append (omega arith)
labelled (line.Figure f) = simp length-append (omega arith)
labelled line.End = omega arith

-- no line is empty
pub no_line : (a : Entry) (rest : List ℕ) → [] ≡ line_text a ++ rest → ⊥
no_line (header h) rest e = omega (arith, ap length e)
no_line (grade g) rest e = omega (arith, ap length e)
no_line (row r) rest e = omega (arith, ap length e)
no_line (arc a) rest e = omega (arith, ap length e)
no_line (figure f) rest e = omega (arith, ap length e)
no_line end rest e = omega (arith, ap length e)

-- bytes that begin with no kind's first word begin with no line
pub of_no_kind : (bs : List ℕ) → (6 ≤ length bs → get_or bs 0 0 ≡ 115 → get_or bs 1 0 ≡ 104 → get_or bs 2 0 ≡ 101 → get_or bs 3 0 ≡ 101 → get_or bs 4 0 ≡ 116 → get_or bs 5 0 ≡ 32 → ⊥) → (2 ≤ length bs → get_or bs 0 0 ≡ 103 → get_or bs 1 0 ≡ 32 → ⊥) → (2 ≤ length bs → get_or bs 0 0 ≡ 114 → get_or bs 1 0 ≡ 32 → ⊥) → (2 ≤ length bs → get_or bs 0 0 ≡ 116 → get_or bs 1 0 ≡ 32 → ⊥) → (2 ≤ length bs → get_or bs 0 0 ≡ 102 → get_or bs 1 0 ≡ 32 → ⊥) → (4 ≤ length bs → get_or bs 0 0 ≡ 101 → get_or bs 1 0 ≡ 110 → get_or bs 2 0 ≡ 100 → get_or bs 3 0 ≡ 10 → ⊥) → Reads Good line_text bs None
of_no_kind bs h g r t f n = refused (λ a rest good e. none a rest e)
  where
    at : (i : ℕ) {us : List ℕ} → bs ≡ us → get_or bs i 0 ≡ get_or us i 0
    at i e = ap (λ l. get_or l i 0) e

    none : (a : Entry) (rest : List ℕ) → bs ≡ line_text a ++ rest → ⊥
    none (header x) rest e = h (omega (arith, ap length e)) (at 0 e) (at 1 e) (at 2 e) (at 3 e) (at 4 e) (at 5 e)
    none (grade x) rest e = g (omega (arith, ap length e)) (at 0 e) (at 1 e)
    none (row x) rest e = r (omega (arith, ap length e)) (at 0 e) (at 1 e)
    none (arc x) rest e = t (omega (arith, ap length e)) (at 0 e) (at 1 e)
    none (figure x) rest e = f (omega (arith, ap length e)) (at 0 e) (at 1 e)
    none end rest e = n (omega (arith, ap length e)) (at 0 e) (at 1 e) (at 2 e) (at 3 e)
