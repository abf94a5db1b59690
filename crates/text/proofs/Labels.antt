-- Bytes of a kind, up to the byte that ends them.
use Rattle.std.proofs.Common.{◌≡◌, ℕ, suc, ◌+◌, ◌-◌, ◌<◌, ◌≤◌, List, [], ◌∷◌, ◌++◌, length, get_or, take, drop, Bool, true, false, Some, None, Option, sym, refl, ap, ◌∙◌, subst, append_assoc, arith}
use Rattle.std.specs.Bool.{then_some}
use Rattle.std.specs.Borrow.{Bor}
use Rattle.std.specs.Int.{IsInRange}
use Rattle.std.proofs.lemmas.List.{take_all, length-take-le, length-drop, get_or-take, get_or-drop, take-append-drop}
use Rattle.std.proofs.lemmas.Slice.{first_rest}
use Rattle.text.specs.Reading.{Reads, Alone, seen}
use Rattle.text.specs.Fields.{Filled, ended, Label, label_text}
use Rattle.text.proofs.Reading.{refused, returned}

-- two texts that end at their first byte out of range end at the same one
pub cut_once : (low high : ℕ) (xs ys : List ℕ) (a b : ℕ) (us vs : List ℕ) → ((k : ℕ) → k < length xs → IsInRange low high (get_or xs k 0)) → ((k : ℕ) → k < length ys → IsInRange low high (get_or ys k 0)) → (IsInRange low high a → ⊥) → (IsInRange low high b → ⊥) → xs ++ a ∷ us ≡ ys ++ b ∷ vs → (xs ≡ ys) × (a ≡ b) × (us ≡ vs)
cut_once low high [] [] a b us vs p q out out' e = (refl, ap (λ l. get_or l 0 0) e, ap (drop 1) e)
cut_once low high [] (y ∷ ys) a b us vs p q out out' e = absurd (out (subst (IsInRange low high) (sym (ap (λ l. get_or l 0 0) e)) (q 0 (omega arith))))
cut_once low high (x ∷ xs) [] a b us vs p q out out' e = absurd (out' (subst (IsInRange low high) (ap (λ l. get_or l 0 0) e) (p 0 (omega arith))))
cut_once low high (x ∷ xs) (y ∷ ys) a b us vs p q out out' e =
    let first : x ≡ y = ap (λ l. get_or l 0 0) e in
    let rest = cut_once low high xs ys a b us vs (λ k lt. p (suc k) (omega arith)) (λ k lt. q (suc k) (omega arith)) out out' (ap (drop 1) e) in
    ((λ i. first i ∷ rest.0 i), rest.1, rest.2)

module _ (low high limit end : ℕ) (out : IsInRange low high end → ⊥) where
  -- the text of such bytes is the front of no other's
  pub filled_alone : Alone (Filled low high limit) (ended end)
  filled_alone a b x y g h same =
      let cut = cut_once low high a b end end x y g.all h.all out out (sym (append_assoc a (end ∷ []) x) ∙ same ∙ append_assoc b (end ∷ []) y) in
      (cut.0, cut.2)

  -- the bytes before the first one out of range, that one, and what follows it
  module _ (bs : List ℕ) (n : ℕ) (inside : n < length bs) (all : (k : ℕ) → k < n → IsInRange low high (get_or bs k 0)) (front back : List ℕ) (front-is : front ≡ take n bs) (back-is : back ≡ drop n bs) where
    stop : ℕ
    stop = get_or back 0 0

    rest : List ℕ
    rest = take (length back - 1) (drop 1 back)

    long : length front ≡ n
    long = ap length front-is ∙ length-take-le n bs (omega arith)

    cut : bs ≡ front ++ stop ∷ rest
    unfolding stop rest
    cut =
        let some : 0 < length back = omega (arith, ap length back-is, length-drop n bs) in
        sym (take-append-drop n bs) ∙ (λ i. sym front-is i ++ sym back-is i) ∙ ap (λ l. front ++ l) (first_rest back 0 some)

    each : (k : ℕ) → k < length front → IsInRange low high (get_or front k 0)
    each k lt =
        let less : k < n = omega (arith, long) in
        subst (IsInRange low high) (sym (ap (λ l. get_or l k 0) front-is ∙ get_or-take n bs k 0 less)) (all k less)

    run_some : 0 < n → n ≤ limit → get_or back 0 0 ≡ end → Reads (Filled low high limit) (ended end) bs (Some (front, take (length back - 1) (drop 1 back)))
    unfolding stop rest
    run_some some most last =
        let good : Filled low high limit front = record { some = omega (arith, long); most = omega (arith, long); all = each } in
        let text : bs ≡ ended end front ++ rest = cut ∙ ap (λ b. front ++ b ∷ rest) last ∙ sym (append_assoc front (end ∷ []) rest) in
        returned front rest good text (λ xs more g e. filled_alone xs front more rest g good (sym e ∙ text))

    pub run_other : (low ≤ get_or bs n 0 → high < get_or bs n 0) → (0 < n → n ≤ limit → get_or back 0 0 ≡ end → ⊥) → Reads (Filled low high limit) (ended end) bs None
    unfolding stop rest
    run_other stops other =
        let same : n + 0 ≡ n = omega arith in
        let here : get_or bs n 0 ≡ stop = sym (ap (λ l. get_or l 0 0) back-is ∙ get_or-drop n bs 0 0 ∙ ap (λ k. get_or bs k 0) same) in
        let outside : IsInRange low high stop → ⊥ = λ i. omega (arith, stops (omega arith)) in
        refused (λ xs more g e.
        let same = cut_once low high front xs stop end rest more each g.all outside out (sym cut ∙ e ∙ append_assoc xs (end ∷ []) more) in
        other (omega (arith, long, ap length same.0, g.some)) (omega (arith, long, ap length same.0, g.most)) same.1)

    -- both, by whether `end` follows as many of them as there may be
    pub run_if : (low ≤ get_or bs n 0 → high < get_or bs n 0) → 0 < n → n ≤ limit → (parts : Bor (List ℕ) × Bor (List ℕ)) → parts.0.now ≡ front → parts.1.now ≡ take (length back - 1) (drop 1 back) → (ends : Bool) → (ends ≡ true → get_or back 0 0 ≡ end) → (ends ≡ false → get_or back 0 0 ≡ end → ⊥) → Reads (Filled low high limit) (ended end) bs (seen (λ x. x.now) (then_some ends parts))
    run_if stops some most parts one two true met unmet = subst (Reads (Filled low high limit) (ended end) bs) (λ i. Some (sym one i, sym two i)) (run_some some most (met refl))
    run_if stops some most parts one two false met unmet = run_other stops (λ _some _most last. unmet refl last)

-- the text of a label is the front of no other's
pub label_alone : Alone Label label_text
label_alone = filled_alone 33 126 24 10 (λ i. omega arith)

-- such bytes up to a line's end are a label, also where the answer gives them in another form
pub label_read : (end : ℕ) (bs : List ℕ) (o r : Option (List ℕ × List ℕ)) → end ≡ 10 → Reads (Filled 33 126 24) (ended end) bs o → o ≡ r → Reads Label label_text bs r
label_read end bs o r is reads same = subst (Reads Label label_text bs) same (subst (λ e. Reads Label (ended e) bs o) is reads)

pub ruleset label_steps = (label_read, take_all)
