-- A sheet is refused at one line at most, for one reason.
use Rattle.std.proofs.Common.{◌≡◌, ℕ, ◌+◌, ◌≤◌, List, [], ◌∷◌, ◌++◌, pos, sym, refl, ap, ◌∙◌, subst, inl, inr, arith}
use Rattle.lines.specs.declared.fault.TextFault.{TextFault}
use Rattle.lines.specs.Lines.{HeaderOf, header, line_text, Good}
use Rattle.sheet.specs.Due.{Counts, Counted, header_said, Slot, grade, row, arc, figure, end, Said, entry, Ranged, slots}
use Rattle.sheet.specs.Refused.{Missing, Wrong, Taken, Stops, Headless, HeaderWrong, HeaderTaken}
use Rattle.sheet.specs.Laws.{RefusedOnce}
use Rattle.lines.proofs.LineKinds.{prefix_free}

-- a line says one thing
pub header_inj : (x y : HeaderOf) → header x ≡ header y → x ≡ y
header_inj x y e = cc

pub entry_inj : (s : Slot) (x y : Said s) → entry s x ≡ entry s y → x ≡ y
entry_inj (grade i) x y e = cc
entry_inj (row i) x y e = cc
entry_inj (arc i) x y e = cc
entry_inj (figure i) x y e = cc
entry_inj end x y e = refl

-- the bytes begin with one line of the form that is due
pub said_once : (s : Slot) (bs : List ℕ) (x y : Said s) (u v : List ℕ) → Good (entry s x) → Good (entry s y) → bs ≡ line_text (entry s x) ++ u → bs ≡ line_text (entry s y) ++ v → (x ≡ y) × (u ≡ v)
said_once s bs x y u v g h p q =
    let same = prefix_free (entry s x) (entry s y) u v g h (sym p ∙ q) in
    (entry_inj s x y same.0, same.1)

pub taken_once : (c : Counts) (s : Slot) (bs u v : List ℕ) → Taken c s bs u → Taken c s bs v → u ≡ v
taken_once c s bs u v a b = (said_once s bs a.said b.said u v a.good b.good a.text b.text).1

pub taken_wrong : (c : Counts) (s : Slot) (bs u : List ℕ) → Taken c s bs u → Wrong c s bs → ⊥
taken_wrong c s bs u a b =
    let same = said_once s bs a.said b.said u b.rest a.good b.good a.text b.text in
    b.out (subst (Ranged c s) same.0 a.ranged)

pub taken_missing : (c : Counts) (s : Slot) (bs u : List ℕ) → Taken c s bs u → Missing s bs → ⊥
taken_missing c s bs u a b = b a.said u a.good a.text

wrong_missing : (c : Counts) (s : Slot) (bs : List ℕ) → Wrong c s bs → Missing s bs → ⊥
wrong_missing c s bs a b = b a.said a.rest a.good a.text

stops_once : (c : Counts) (ss : List Slot) (l : ℕ) (bs : List ℕ) (f g : TextFault) → Stops c ss l bs f → Stops c ss l bs g → f ≡ g
stops_once c [] l bs f g p q = p.1 ∙ sym q.1
stops_once c (s ∷ ss) l bs f g (inl p) (inl q) = p.1 ∙ sym q.1
stops_once c (s ∷ ss) l bs f g (inl p) (inr (inl q)) = absurd (wrong_missing c s bs q.0 p.0)
stops_once c (s ∷ ss) l bs f g (inl p) (inr (inr q)) = absurd (taken_missing c s bs q.0 q.1 p.0)
stops_once c (s ∷ ss) l bs f g (inr (inl p)) (inl q) = absurd (wrong_missing c s bs p.0 q.0)
stops_once c (s ∷ ss) l bs f g (inr (inl p)) (inr (inl q)) = p.1 ∙ sym q.1
stops_once c (s ∷ ss) l bs f g (inr (inl p)) (inr (inr q)) = absurd (taken_wrong c s bs q.0 q.1 p.0)
stops_once c (s ∷ ss) l bs f g (inr (inr p)) (inl q) = absurd (taken_missing c s bs p.0 p.1 q.0)
stops_once c (s ∷ ss) l bs f g (inr (inr p)) (inr (inl q)) = absurd (taken_wrong c s bs p.0 p.1 q.0)
stops_once c (s ∷ ss) l bs f g (inr (inr p)) (inr (inr q)) =
    let same = taken_once c s bs p.0 q.0 p.1 q.1 in
    stops_once c ss (l + 1) q.0 f g (subst (λ r. Stops c ss (l + 1) r f) same p.2) q.2

pub pos_inj : (m n : ℕ) → pos m ≡ pos n → m ≡ n
pos_inj m n e = cc

-- the numbers of a first line are one
counts_inj : (c d : Counts) → header_said c ≡ header_said d → c ≡ d
counts_inj c d e =
    let p1 = pos_inj c.grades d.grades (ap (λ h. h.0.0) e) in
    let p2 = pos_inj c.rows d.rows (ap (λ h. h.0.1.0) e) in
    let p3 = pos_inj c.arcs d.arcs (ap (λ h. h.0.1.1.0) e) in
    let p4 = pos_inj c.total d.total (ap (λ h. h.0.1.1.1) e) in
    let p5 = pos_inj c.numerator d.numerator (ap (λ h. h.1.0) e) in
    let p6 = pos_inj c.denominator d.denominator (ap (λ h. h.1.1.0) e) in
    let p7 = pos_inj c.fineness d.fineness (ap (λ h. h.1.1.1.0) e) in
    let p8 = pos_inj c.figures d.figures (ap (λ h. h.1.1.1.1) e) in
    λ i. record { grades = p1 i; rows = p2 i; arcs = p3 i; total = p4 i; numerator = p5 i; denominator = p6 i; fineness = p7 i; figures = p8 i }

pub figures_small : (c : Counts) → Counted c → c.figures ≤ 32
figures_small c k = elim k.figures [ inl e ↦ omega arith | inr e ↦ omega (arith, k.grades) ]

-- a first line in its ranges is of good form
pub header_good : (c : Counts) → Counted c → Good (header (header_said c))
header_good c k =
    let f = figures_small c k in
    ((omega arith, (omega arith, (omega arith, omega arith))), (omega arith, (omega arith, (omega arith, omega arith))))

pub header_once : (bs : List ℕ) (h k : HeaderOf) (u v : List ℕ) → Good (header h) → Good (header k) → bs ≡ line_text (header h) ++ u → bs ≡ line_text (header k) ++ v → (h ≡ k) × (u ≡ v)
header_once bs h k u v g g' p q =
    let same = prefix_free (header h) (header k) u v g g' (sym p ∙ q) in
    (header_inj h k same.0, same.1)

pub headed_once : (bs : List ℕ) (c d : Counts) (u v : List ℕ) → HeaderTaken bs c u → HeaderTaken bs d v → (c ≡ d) × (u ≡ v)
headed_once bs c d u v a b =
    let same = header_once bs (header_said c) (header_said d) u v (header_good c a.ranged) (header_good d b.ranged) a.text b.text in
    (counts_inj c d same.0, same.1)

pub headed_headless : (bs : List ℕ) (c : Counts) (u : List ℕ) → HeaderTaken bs c u → Headless bs → ⊥
headed_headless bs c u a b = b (header_said c) u (header_good c a.ranged) a.text

pub headed_wrong : (bs : List ℕ) (c : Counts) (u : List ℕ) → HeaderTaken bs c u → HeaderWrong bs → ⊥
headed_wrong bs c u a b =
    let same = header_once bs b.said (header_said c) b.rest u b.good (header_good c a.ranged) b.text a.text in
    b.out c a.ranged same.0

wrong_headless : (bs : List ℕ) → HeaderWrong bs → Headless bs → ⊥
wrong_headless bs a b = b a.said a.rest a.good a.text

pub refused_once : RefusedOnce
refused_once bs f g (inl p) (inl q) = p.1 ∙ sym q.1
refused_once bs f g (inl p) (inr q) = absurd (omega (arith, p.0, q.0))
refused_once bs f g (inr p) (inl q) = absurd (omega (arith, p.0, q.0))
refused_once bs f g (inr (n, inl p)) (inr (m, inl q)) = p.1 ∙ sym q.1
refused_once bs f g (inr (n, inl p)) (inr (m, inr (inl q))) = absurd (wrong_headless bs q.0 p.0)
refused_once bs f g (inr (n, inl p)) (inr (m, inr (inr q))) = absurd (headed_headless bs q.0 q.1 q.2 p.0)
refused_once bs f g (inr (n, inr (inl p))) (inr (m, inl q)) = absurd (wrong_headless bs p.0 q.0)
refused_once bs f g (inr (n, inr (inl p))) (inr (m, inr (inl q))) = p.1 ∙ sym q.1
refused_once bs f g (inr (n, inr (inl p))) (inr (m, inr (inr q))) = absurd (headed_wrong bs q.0 q.1 q.2 p.0)
refused_once bs f g (inr (n, inr (inr p))) (inr (m, inl q)) = absurd (headed_headless bs p.0 p.1 p.2 q.0)
refused_once bs f g (inr (n, inr (inr p))) (inr (m, inr (inl q))) = absurd (headed_wrong bs p.0 p.1 p.2 q.0)
refused_once bs f g (inr (n, inr (inr p))) (inr (m, inr (inr q))) =
    let same = headed_once bs p.0 q.0 p.1 q.1 p.2 q.2 in
    let one : Stops q.0 (slots q.0) 2 q.1 f = subst (λ r. Stops q.0 (slots q.0) 2 r f) same.1 (subst (λ c. Stops c (slots c) 2 p.1 f) same.0 p.3) in
    stops_once q.0 (slots q.0) 2 q.1 f g one q.3
