-- Counts of the numbers of a list, one number more at a time. Assumes nothing.
use Rattle.std.proofs.Common.{◌≡◌, ℕ, zero, suc, ◌+◌, ◌-◌, ◌<◌, ◌≤◌, cond, eqb, List, [], ◌∷◌, ◌++◌, map, length, get_or, take, set, replicate, true, false, ◌||◌, sym, refl, ap, ◌∙◌, subst, append_assoc, ⊎_elim, add-zero, arith}
use Rattle.std.specs.List.{list_any}
use Rattle.std.proofs.lemmas.List.{get_or-replicate, get_or_default, length-set, length-append, length-map, length-take, map_more, get_or-set_same, get_or-set_other, get_or-take, length-take-le}
use Rattle.std.proofs.lemmas.Bool.{false≢true, eq-eqb, ne_eqb}
use Rattle.std.proofs.lemmas.Bool.Decides.{eqb_tells, nat_tests}
use Rattle.std.proofs.lemmas.Map.Keys.{IsDistinct-from_apart}
use Rattle.std.proofs.lemmas.Map.Steps.{length-le_from_distinct_below}
use Rattle.table.specs.Ranges.{Within}
use Rattle.table.specs.Walks.{AllIn}
use Rattle.table.specs.Counts.{one_more}
use Rattle.table.specs.Faults.{count, lowest, outside, mispointed, loose}
use Rattle.table.proofs.Searches.{same_search}
use Rattle.table.proofs.Walks.{all_at}

pub count-++ : (k : ℕ) (xs ys : List ℕ) → count k (xs ++ ys) ≡ count k xs + count k ys
count-++ k [] ys = omega arith
count-++ k (x ∷ xs) ys = let h = count-++ k xs ys in omega arith

pub count-≤ : (k : ℕ) (xs : List ℕ) → count k xs ≤ length xs
count-≤ k [] = omega arith
count-≤ k (x ∷ xs) =
    let h = count-≤ k xs in
    let one : cond (eqb x k) 1 0 ≤ 1 = grind (arith, nat_tests) in
    omega arith

pub length-one_more : (x : ℕ) (cs : List ℕ) → length (one_more x cs) ≡ length cs
length-one_more zero cs = refl
length-one_more (suc j) cs = length-set cs j _

-- a number that stands at no place, and one that stands at no two
pub count_none : (y : ℕ) (xs : List ℕ) → ((i : ℕ) → i < length xs → get_or xs i 0 ≡ y → ⊥) → count y xs ≡ 0
count_none y [] h = refl
count_none y (x ∷ xs) h =
    let first : cond {A = ℕ} (eqb x y) 1 0 ≡ 0 = simp (ne_eqb x y (h 0 (omega arith))) in
    let rest = count_none y xs (λ i l e. h (suc i) (omega arith) e) in
    omega arith

pub count_once : (y : ℕ) (xs : List ℕ) → ((i j : ℕ) → i < j → j < length xs → get_or xs i 0 ≡ get_or xs j 0 → ⊥) → count y xs ≤ 1
count_once y [] h = omega arith
count_once y (x ∷ xs) h =
    ⊎_elim
    (λ t.
    let rest = count_none y xs (λ i l e. h 0 (suc i) (omega arith) (omega arith) (t.1 ∙ sym e)) in
    let first : cond {A = ℕ} (eqb x y) 1 0 ≡ 1 = simp t.0 in
    omega arith)
    (λ t.
    let rest = count_once y xs (λ i j l m e. h (suc i) (suc j) (omega arith) (omega arith) e) in
    let first : cond {A = ℕ} (eqb x y) 1 0 ≡ 0 = simp t.0 in
    omega arith)
    (eqb_tells x y)

-- a number that stands at a place, and one that stands at two
pub count_some : (y : ℕ) (xs : List ℕ) (i : ℕ) → i < length xs → get_or xs i 0 ≡ y → 1 ≤ count y xs
count_some y [] i l e = absurd (omega arith)
count_some y (x ∷ xs) zero l e = let first : cond {A = ℕ} (eqb x y) 1 0 ≡ 1 = simp (eq-eqb x y e) in omega arith
count_some y (x ∷ xs) (suc i) l e = let rest = count_some y xs i (omega arith) e in omega arith

pub count_two : (y : ℕ) (xs : List ℕ) (i j : ℕ) → i < j → j < length xs → get_or xs i 0 ≡ y → get_or xs j 0 ≡ y → 2 ≤ count y xs
count_two y [] i j l m e f = absurd (omega arith)
count_two y (x ∷ xs) zero zero l m e f = absurd (omega arith)
count_two y (x ∷ xs) zero (suc j) l m e f =
    let first : cond {A = ℕ} (eqb x y) 1 0 ≡ 1 = simp (eq-eqb x y e) in
    let rest = count_some y xs j (omega arith) f in
    omega arith
count_two y (x ∷ xs) (suc i) zero l m e f = absurd (omega arith)
count_two y (x ∷ xs) (suc i) (suc j) l m e f = let rest = count_two y xs i j (omega arith) (omega arith) e f in omega arith

-- a number among those from 1 to n
among : (n : ℕ) (xs : List ℕ) (q : ℕ) → AllIn n xs → list_any (eqb q) xs ≡ true → q ≤ n
among n [] q h e = absurd (false≢true e)
among n (x ∷ xs) q h e =
    ⊎_elim
    (λ t. omega (arith, t.1, h.0.1))
    (λ t. among n xs q h.1 (subst (λ b. (b || list_any (eqb q) xs) ≡ true) t.0 e))
    (eqb_tells q x)

-- numbers from 1 to n, none of them twice, are at most n: with 0 in front they are below n + 1
pub few : (n : ℕ) (xs : List ℕ) → AllIn n xs → ((y : ℕ) → Within 1 n y → count y xs ≤ 1) → length xs ≤ n
few n xs h once =
    omega (
      arith,
      length-le_from_distinct_below (0 ∷ xs) (n + 1) (IsDistinct-from_apart eqb (0 ∷ xs) apart) (λ q e.
          ⊎_elim
          (λ t. omega (arith, t.1))
          (λ t. omega (arith, among n xs q h (subst (λ b. (b || list_any (eqb q) xs) ≡ true) t.0 e)))
          (eqb_tells q 0)),
    )
  where
    here : (i d : ℕ) → i < length xs → Within 1 n (get_or xs i d)
    here i d lt = all_at n xs i (get_or xs i d) lt (get_or_default xs i d (get_or xs i d) lt) h

    apart : (i j d : ℕ) → i < j → j < length (0 ∷ xs) → eqb (get_or (0 ∷ xs) i d) (get_or (0 ∷ xs) j d) ≡ false
    apart zero zero d lt l = absurd (omega arith)
    apart zero (suc j) d lt l = ne_eqb 0 (get_or xs j d) (λ e. omega (arith, (here j d (omega arith)).0))
    apart (suc i) zero d lt l = absurd (omega arith)
    apart (suc i) (suc j) d lt l =
        let x = get_or xs i d in
        ne_eqb x (get_or xs j d) (λ e.
        omega (
          arith,
          once x (here i d (omega arith)),
          count_two x xs i j (omega arith) (omega arith) (get_or_default xs i 0 d (omega arith)) (get_or_default xs j 0 d (omega arith) ∙ sym e),
        ))

-- the first n of the counts are those of the numbers of a list
pub record Counted (n : ℕ) (cs xs : List ℕ) : Type 0 where
  pub at : (i : ℕ) → i < n → get_or cs i 0 ≡ count (i + 1) xs

pub counted_none : (size n : ℕ) → n ≤ size → Counted n (replicate size 0) []
counted_none size n h = record { at = λ i lt. get_or-replicate size i 0 0 (omega arith) }

module _ {n : ℕ} {cs xs : List ℕ} (so : Counted n cs xs) where
  counted_at : (j : ℕ) → j < n → n ≤ length cs → Counted n (set cs j (get_or cs j 0 + 1)) (xs ++ suc j ∷ [])
  counted_at j hi fit = record {
    at = λ i h.
        let push = count-++ (i + 1) xs (suc j ∷ []) in
        ⊎_elim
        (λ e.
        let same : j ≡ i = omega (arith, e.1) in
        let inside : i < length cs = omega arith in
        ap (λ m. get_or (set cs m (get_or cs m 0 + 1)) i 0) same ∙ get_or-set_same cs i _ 0 inside ∙ ap (λ m. m + 1) (so.at i h) ∙ sym (push ∙ simp e.0))
        (λ e. get_or-set_other cs j i _ 0 (λ q. e.1 (omega arith)) ∙ so.at i h ∙ sym (push ∙ simp (e.0, add-zero)))
        (eqb_tells (suc j) (i + 1));
  }

  -- an index that is 0 points nowhere
  counted_zero : Counted n cs (xs ++ 0 ∷ [])
  counted_zero = record {
    at = λ i h. so.at i h ∙ sym (count-++ (i + 1) xs (0 ∷ []) ∙ simp (ne_eqb 0 (i + 1) (omega arith), add-zero));
  }

  pub counted_more : (x : ℕ) → x ≤ n → n ≤ length cs → Counted n (one_more x cs) (xs ++ x ∷ [])
  counted_more zero hi fit = counted_zero
  counted_more (suc j) hi fit = counted_at j hi fit

  -- no count is larger than the list is long
  pub counted-≤ : (i : ℕ) → i < n → get_or cs i 0 ≤ length xs
  counted-≤ i h = omega (arith, so.at i h, count-≤ (i + 1) xs)

  entry : (k : ℕ) → 1 ≤ k → k < 1 + n → get_or (take n cs) (k - 1) 0 ≡ count k xs
  entry k lo hi =
      let same : k - 1 + 1 ≡ k = omega arith in
      get_or-take n cs (k - 1) 0 (omega arith) ∙ so.at (k - 1) (omega arith) ∙ ap (λ j. count j xs) same

  -- the code hands on the first n counts
  pub off_one : n ≤ length cs → lowest (outside 1 1 (take n cs)) (length (take n cs)) ≡ lowest (mispointed xs) n
  off_one fit =
      ap (lowest (outside 1 1 (take n cs))) (length-take-le n cs fit)
      ∙ same_search (outside 1 1 (take n cs)) (mispointed xs) n 1 (λ k lo hi. rw (entry k lo hi) (grind (arith, nat_tests)))

  pub off_none : n ≤ length cs → length xs ≤ 65535 → lowest (outside 1 65535 (take n cs)) (length (take n cs)) ≡ lowest (loose xs) n
  off_none fit few =
      ap (lowest (outside 1 65535 (take n cs))) (length-take-le n cs fit)
      ∙ same_search (outside 1 65535 (take n cs)) (loose xs) n 1 (λ k lo hi. let most = count-≤ k xs in rw (entry k lo hi) (grind (arith, nat_tests)))

-- one thing more of a list has been counted, after `before`
module _ {A : Type 0} (f : A → ℕ) (ys : List A) (i : ℕ) (d : A) (inside : i < length ys) (before : List ℕ) (n size : ℕ) (fit : n ≤ size) (cs : List ℕ)
    (so : (length cs ≡ size) × Counted n cs (before ++ map f (take i ys))) where
  pub tally_room : length before + length ys ≤ 65535 → (x : ℕ) → x ≤ n → 0 < x → get_or cs (x - 1) 0 < 65535
  tally_room few x hi lo =
      omega (arith, counted-≤ so.1 (x - 1) (omega arith), length-append before (map f (take i ys)), length-map (take i ys) f, length-take i ys)

  pub tally_step : (x : ℕ) (ds : List ℕ) → x ≡ f (get_or ys i d) → x ≤ n → ds ≡ one_more x cs → (length ds ≡ size) × Counted n ds (before ++ map f (take (i + 1) ys))
  tally_step x ds is hi e =
      let pushed : before ++ map f (take (i + 1) ys) ≡ (before ++ map f (take i ys)) ++ x ∷ [] =
      ap (λ l. before ++ l) (map_more f ys i d inside) ∙ sym (append_assoc before (map f (take i ys)) (f (get_or ys i d) ∷ [])) ∙ ap (λ y. (before ++ map f (take i ys)) ++ y ∷ []) (sym is) in (
        ap length e ∙ length-one_more x cs ∙ so.0,
        subst (λ l. Counted n l (before ++ map f (take (i + 1) ys))) (sym e) (subst (Counted n (one_more x cs)) (sym pushed) (counted_more so.1 x hi (omega (arith, so.0)))),
      )
