-- Where exactly one index points to each number, a chain from a first index ends. Assumes nothing.
use Rattle.std.proofs.Common.{◌≡◌, ℕ, zero, suc, ◌+◌, ◌-◌, ◌<◌, ◌≤◌, ◌⊎◌, List, ◌++◌, length, get_or, sym, refl, ◌∙◌, subst, inl, inr, ⊎_elim, arith}
use Rattle.std.proofs.lemmas.Bool.{cases_eq, cases_lt}
use Rattle.table.specs.Ranges.{Within}
use Rattle.table.specs.Chains.{walk}
use Rattle.table.specs.Faults.{count}
use Rattle.table.specs.Sound.{Chain}
use Rattle.table.specs.Walks.{AllIn}
use Rattle.table.proofs.Tallies.{count-++, count_some, count_two, count_once, few}

-- j steps on from k
abbrev pub steps : (ℕ → ℕ) → ℕ → ℕ → ℕ
steps next zero k = k
steps next (suc j) k = steps next j (next k)

step_last : (next : ℕ → ℕ) (j k : ℕ) → steps next (suc j) k ≡ next (steps next j k)
step_last next zero k = refl
step_last next (suc j) k = step_last next j (next k)

-- no step up to the j-th comes to 0
abbrev pub Going : (ℕ → ℕ) → ℕ → ℕ → Type 0
Going next j k = (i : ℕ) → i ≤ j → 0 < steps next i k

-- a walk is a chain, or it goes on past its fuel
ends_or : (next : ℕ → ℕ) (f k : ℕ) → Chain next k (walk next f k) ⊎ Going next f k
ends_or next f zero = inl (chain_none next f)
  where
    chain_none : (next : ℕ → ℕ) (f : ℕ) → Chain next 0 (walk next f 0)
    chain_none next zero = refl
    chain_none next (suc f) = refl
ends_or next zero (suc k) = inr (λ i h. let same : 0 ≡ i = omega arith in subst (λ j. 0 < steps next j (suc k)) same (omega arith))
ends_or next (suc f) (suc k) =
    ⊎_elim
    (λ c. inl (refl, omega arith, c))
    (λ g. inr (λ i. on i g))
    (ends_or next f (next (suc k)))
  where
    on : (i : ℕ) → Going next f (next (suc k)) → i ≤ suc f → 0 < steps next i (suc k)
    on zero g h = omega arith
    on (suc i) g h = g i (omega arith)

module _ (n : ℕ) (next : ℕ → ℕ) (firsts nexts : List ℕ)
    (one : (y : ℕ) → Within 1 n y → count y (firsts ++ nexts) ≡ 1)
    (long : length nexts ≡ n)
    (at : (k : ℕ) → Within 1 n k → get_or nexts (k - 1) 0 ≡ next k)
    (most : (k : ℕ) → Within 1 n k → next k ≤ n)
    (k p : ℕ) (there : p < length firsts) (is : get_or firsts p 0 ≡ k) (ranged : Within 1 n k) where
  inside : (j : ℕ) → Going next j k → Within 1 n (steps next j k)
  inside zero g = ranged
  inside (suc j) g =
      let before = inside j (λ i h. g i (omega arith)) in
      (g (suc j) (omega arith), subst (λ x. x ≤ n) (sym (step_last next j k)) (most (steps next j k) before))

  -- both a first index and a next index point to y
  first_and_next : (x : ℕ) → Within 1 n x → next x ≡ k → ⊥
  first_and_next x h e =
      omega (arith, one k ranged, count-++ k firsts nexts, count_some k firsts p there is, count_some k nexts (x - 1) (omega (arith, long, h.0, h.1)) (at x h ∙ e))

  -- two next indices point to y
  two_nexts : (x z y : ℕ) → Within 1 n x → Within 1 n z → Within 1 n y → x < z → next x ≡ y → next z ≡ y → ⊥
  two_nexts x z y h m w l e f =
      omega (arith, one y w, count-++ y firsts nexts, count_two y nexts (x - 1) (z - 1) (omega (arith, h.0)) (omega (arith, long, m.0, m.1)) (at x h ∙ e) (at z m ∙ f))

  apart : (j m : ℕ) → j < m → Going next m k → steps next j k ≡ steps next m k → ⊥
  apart j zero l g e = omega arith
  apart zero (suc m) l g e = first_and_next (steps next m k) (inside m (λ i h. g i (omega arith))) (sym (step_last next m k) ∙ sym e)
  apart (suc j) (suc m) l g e =
      let x = steps next j k in
      let z = steps next m k in
      let y = steps next (suc m) k in
      let h = inside j (λ i b. g i (omega arith)) in
      let b = inside m (λ i b. g i (omega arith)) in
      let w = inside (suc m) g in
      let nx : next x ≡ y = sym (step_last next j k) ∙ e in
      let nz : next z ≡ y = sym (step_last next m k) in
      ⊎_elim (λ same. apart j m (omega arith) (λ i b. g i (omega arith)) same)
      (λ ne. ⊎_elim (λ lt. two_nexts x z y h b w lt nx nz) (λ ge. two_nexts z x y b h w (omega (arith, ne, ge)) nz nx) (cases_lt x z))
      (cases_eq x z)

  -- the first m steps as a list
  walk_long : (m q : ℕ) → ((i : ℕ) → i < m → 0 < steps next i q) → length (walk next m q) ≡ m
  walk_long zero q g = refl
  walk_long (suc m) zero g = absurd (omega (arith, g 0 (omega arith)))
  walk_long (suc m) (suc q) g = let h = walk_long m (next (suc q)) (λ i b. g (suc i) (omega arith)) in omega arith

  walk_at : (m q i : ℕ) → ((j : ℕ) → j < m → 0 < steps next j q) → i < m → get_or (walk next m q) i 0 ≡ steps next i q
  walk_at zero q i g h = absurd (omega arith)
  walk_at (suc m) zero i g h = absurd (omega (arith, g 0 (omega arith)))
  walk_at (suc m) (suc q) zero g h = refl
  walk_at (suc m) (suc q) (suc i) g h = walk_at m (next (suc q)) i (λ j b. g (suc j) (omega arith)) (omega arith)

  all_in : (m q : ℕ) → ((i : ℕ) → i < m → Within 1 n (steps next i q)) → AllIn n (walk next m q)
  all_in zero q g = tt
  all_in (suc m) zero g = absurd (omega (arith, (g 0 (omega arith)).0))
  all_in (suc m) (suc q) g = (g 0 (omega arith), all_in m (next (suc q)) (λ i b. g (suc i) (omega arith)))

  never_on : Going next n k → ⊥
  never_on g =
      let going : (i : ℕ) → i < n + 1 → 0 < steps next i k = λ i h. g i (omega arith) in
      let xs = walk next (n + 1) k in
      let l = walk_long (n + 1) k going in
      let distinct : (i j : ℕ) → i < j → j < length xs → get_or xs i 0 ≡ get_or xs j 0 → ⊥ =
      λ i j lt h e. apart i j lt (λ c b. g c (omega (arith, l))) (sym (walk_at (n + 1) k i going (omega (arith, l))) ∙ e ∙ walk_at (n + 1) k j going (omega (arith, l))) in
      omega (arith, l, few n xs (all_in (n + 1) k (λ i h. inside i (λ c b. g c (omega arith)))) (λ y w. count_once y xs distinct))

  pub ends : Chain next k (walk next n k)
  ends = ⊎_elim (λ c. c) (λ g. absurd (never_on g)) (ends_or next n k)
