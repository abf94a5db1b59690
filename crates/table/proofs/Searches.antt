-- A search for the lowest number that fails, step by step. Assumes nothing.
use Rattle.std.proofs.Common.{add-one, inl, inr, subst, ◌≡◌, ℕ, zero, suc, ◌+◌, ◌-◌, ◌<◌, ◌≤◌, Bool, true, false, not, ◌&&◌, leb, cond, List, ◌∷◌, ◌⊎◌, length, get_or, Some, None, Option, MatchOption, option_map, sym, refl, ap, ◌∙◌, ⊎_elim, arith}
use Rattle.std.proofs.lemmas.Bool.{cases_Bool, cases_eq}
use Rattle.std.proofs.iter.runs.Sources.{nat_range_inclusive_steps}
use Rattle.std.specs.declared.ops.RangeInclusive.{RangeInclusive}
use Rattle.std.specs.Range.{range_inclusive_start, range_inclusive_end, range_inclusive_exhausted, range_inclusive_len, range_inclusive_left}
use Rattle.std.proofs.lemmas.Iterator.{YieldsList}
use Rattle.std.proofs.lemmas.Iterator.Consumers.{YieldsList-from_shown}
use Rattle.std.specs.List.{AllWithin, HoldsAt, find, range_with_len}
use Rattle.table.specs.Faults.{outside, first_from, lowest}

module _ (bad : ℕ → Bool) (k : ℕ) where
  pub found_here : (n h : ℕ) → n ≡ h + 1 → bad k ≡ true → first_from bad n k ≡ Some k
  found_here zero h e b = absurd (omega arith)
  found_here (suc n) h e b = simp b

  pub found_later : (n h : ℕ) → n ≡ h + 1 → bad k ≡ false → first_from bad n k ≡ first_from bad h (k + 1)
  found_later zero h e b = absurd (omega arith)
  found_later (suc n) h e b = let less : n ≡ h = omega arith in simp (b, less)

-- two tests that agree on what is searched find the same
pub same_search : (f g : ℕ → Bool) (n k : ℕ) → ((i : ℕ) → k ≤ i → i < k + n → f i ≡ g i) → first_from f n k ≡ first_from g n k
same_search f g zero k h = refl
same_search f g (suc n) k h =
    let here = h k (omega arith) (omega arith) in
    let later = same_search f g n (k + 1) (λ i lo hi. h i (omega arith) (omega arith)) in
    simp (here, later)

-- what is searched for none is found in: the test fails everywhere
pub none_found : (bad : ℕ → Bool) (n k : ℕ) → first_from bad n k ≡ None → (i : ℕ) → k ≤ i → i < k + n → bad i ≡ false
none_found bad zero k e i lo hi = absurd (omega arith)
none_found bad (suc n) k e i lo hi =
    ⊎_elim
    (λ b. let no : ◌≡◌ {A = ℕ} 0 1 = cc (found_here bad k (suc n) n (omega arith) b) in absurd (omega arith))
    (λ b.
    ⊎_elim (λ same. ap bad same ∙ b)
    (λ apart. none_found bad n (k + 1) (sym (found_later bad k (suc n) n (omega arith) b) ∙ e) i (omega arith) (omega arith))
    (cases_eq i k))
    (cases_Bool (bad k))

-- the first number from k on of which the test holds, said without a search
abbrev pub IsFirst : (ℕ → Bool) → ℕ → ℕ → Option ℕ → Type 0
IsFirst bad n k r = MatchOption r ((i : ℕ) → k ≤ i → i < k + n → bad i ≡ false) (λ i. (k ≤ i) × (i < k + n) × (bad i ≡ true) × ((j : ℕ) → k ≤ j → j < i → bad j ≡ false))

pub first_is : (bad : ℕ → Bool) (n k : ℕ) (r : Option ℕ) → IsFirst bad n k r → r ≡ first_from bad n k
first_is bad zero k None h = refl
first_is bad zero k (Some i) h = absurd (omega (arith, h.0, h.1))
first_is bad (suc n) k None h =
    first_is bad n (k + 1) None (λ i lo hi. h i (omega arith) (omega arith))
    ∙ sym (found_later bad k (suc n) n (omega arith) (h k (omega arith) (omega arith)))
first_is bad (suc n) k (Some i) h =
    ⊎_elim
    (λ same. ap Some same ∙ sym (found_here bad k (suc n) n (omega arith) (ap bad (sym same) ∙ h.2)))
    (λ apart.
    first_is bad n (k + 1) (Some i) (omega (arith, h.0, apart), omega (arith, h.1), h.2, λ j lo hi. h.3 j (omega arith) hi)
    ∙ sym (found_later bad k (suc n) n (omega arith) (h.3 k (omega arith) (omega (arith, h.0, apart)))))
    (cases_eq i k)

-- the same of the first place in a list at which a test of the elements holds, which is numbered one higher
module _ {X : Type 0} (test : X → Bool) (d : X) (bad : ℕ → Bool) (xs : List X) (reads : (i : ℕ) → i < length xs → bad (i + 1) ≡ test (get_or xs i d)) where
  up : (i : ℕ) → 1 ≤ i → i < 1 + length xs → bad i ≡ test (get_or xs (i - 1) d)
  up i lo hi = let same : i - 1 + 1 ≡ i = omega arith in ap bad (sym same) ∙ reads (i - 1) (omega arith)

  pub lowest_place : (r : Option ℕ) →
      MatchOption r (AllWithin (λ x. test x ≡ false) xs 0 (length xs)) (λ i. (i < length xs) × HoldsAt (λ x. test x ≡ true) xs i × AllWithin (λ x. test x ≡ false) xs 0 i) →
      option_map (λ i. i + 1) r ≡ lowest bad (length xs)
  lowest_place None h = first_is bad (length xs) 1 None (λ i lo hi. up i lo hi ∙ h (i - 1) d (omega arith) (omega arith))
  lowest_place (Some i) h =
      first_is bad (length xs) 1 (Some (i + 1))
      (omega arith, omega (arith, h.0), reads i h.0 ∙ h.1 d, λ j lo hi. up j lo (omega (arith, h.0)) ∙ h.2 (j - 1) d (omega arith) (omega arith))

-- whether a count is out of bounds
abbrev pub off : ℕ → ℕ → ℕ → Bool
off least most n = not (leb least n && leb n most)

pub outside_off : (least most : ℕ) (cs : List ℕ) (i : ℕ) → outside least most cs (i + 1) ≡ off least most (get_or cs i 0)
outside_off least most cs i = let same : i + 1 - 1 ≡ i = omega arith in ap (λ j. off least most (get_or cs j 0)) same

-- what `a..=b` gives
abbrev left : RangeInclusive ℕ → List ℕ
left s = range_with_len (range_inclusive_start s) (range_inclusive_left (λ x y. y - x) s)

inclusive_gives : (s : RangeInclusive ℕ) → YieldsList nat_range_inclusive_steps (λ x. x) s (left s)
inclusive_gives =
    YieldsList-from_shown nat_range_inclusive_steps (λ x. x) left
    (λ s t p. ap (λ n. length (range_with_len (range_inclusive_start s) n)) p.1.0)
    (λ s x t p.
    step (range_inclusive_start s) (range_inclusive_left (λ x y. y - x) s) (range_inclusive_start t) (range_inclusive_left (λ x y. y - x) t) x p.1.1 p.1.0
    (⊎_elim (λ e. inl (ap (range_inclusive_len (λ x y. y - x) (range_inclusive_start t) (range_inclusive_end t)) e)) (λ e. inr (p.1.2 e)) (cases_Bool (range_inclusive_exhausted t))))
  where
    step : (a m b n x : ℕ) → n + 1 ≡ m → x ≡ a → (n ≡ 0) ⊎ (b ≡ a + 1) → range_with_len a m ≡ x ∷ range_with_len b n
    step a m b n x e f h =
        ap (range_with_len a) (sym e ∙ add-one n) ∙ ap (λ y. y ∷ range_with_len (a + 1) n) (sym f)
        ∙ ⊎_elim (λ none. ap (λ j. x ∷ range_with_len (a + 1) j) none ∙ ap (λ j. x ∷ range_with_len b j) (sym none)) (λ next. ap (λ j. x ∷ range_with_len j n) (sym next)) h

pub one_to : (s : RangeInclusive ℕ) (n : ℕ) → range_inclusive_start s ≡ 1 → range_inclusive_end s ≡ n → range_inclusive_exhausted s ≡ false → YieldsList nat_range_inclusive_steps (λ x. x) s (range_with_len 1 n)
one_to s n a b e =
    let many : range_inclusive_left (λ x y. y - x) s ≡ n = (λ i. range_inclusive_len (λ x y. y - x) (a i) (b i) (e i)) ∙ omega arith in
    subst (YieldsList nat_range_inclusive_steps (λ x. x) s) (λ i. range_with_len (a i) (many i)) (inclusive_gives s)

pub lowest_find : (bad : ℕ → Bool) (n k : ℕ) → find bad (range_with_len k n) ≡ first_from bad n k
lowest_find bad zero k = refl
lowest_find bad (suc n) k = ap (cond (bad k) (Some k)) (lowest_find bad n (k + 1))
