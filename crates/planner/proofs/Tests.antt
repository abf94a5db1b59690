-- Tests of a list's entries, as tests of the grades that they are for. Assumes nothing.
use Rattle.std.proofs.Common.{◌≡◌, ℕ, zero, suc, ◌+◌, ◌-◌, ◌≤◌, Bool, true, false, cond, ◌||◌, List, [], ◌∷◌, length, get_or, take, None, Option, is_some, refl, ap, ◌∙◌, arith}
use Rattle.std.proofs.Math.Seq.{take-suc}
use Rattle.std.specs.List.{list_any, count_by}
use Rattle.std.proofs.lemmas.List.Folds.{list_any-append}
use Rattle.std.proofs.lemmas.List.Sums.{sum_by-append}
use Rattle.planner.specs.Grades.{given_for}
use Rattle.planner.specs.Improvements.{count_of}
use Rattle.planner.specs.Sweeps.{any_of}

or_false : (b : Bool) → (b || false) ≡ b
or_false true = refl
or_false false = refl

module _ {X : Type 0} (p : X → Bool) (d : X) (xs : List X) where
  abbrev of : ℕ → Bool
  of g = p (get_or xs (g - 1) d)

  last : (n : ℕ) → p (get_or xs n d) ≡ of (n + 1)
  last n = let same : n ≡ n + 1 - 1 = omega arith in ap (λ j. p (get_or xs j d)) same

  any_first : (n : ℕ) → n ≤ length xs → list_any p (take n xs) ≡ any_of of n
  any_first zero h = refl
  any_first (suc n) h =
      let one = or_false (p (get_or xs n d)) ∙ last n in
      ap (list_any p) (take-suc xs n d h) ∙ list_any-append p (take n xs) (get_or xs n d ∷ []) ∙ (λ i. any_first n (omega arith) i || one i)

  abbrev worth : X → ℕ
  worth x = cond (p x) 1 0

  count_first : (n : ℕ) → n ≤ length xs → count_by p (take n xs) ≡ count_of of n
  count_first zero h = refl
  count_first (suc n) h =
      let none : 0 + worth (get_or xs n d) ≡ worth (get_or xs n d) = omega arith in
      let one = none ∙ ap (λ b. cond b 1 0) (last n) in
      ap (count_by p) (take-suc xs n d h) ∙ sum_by-append worth (take n xs) (get_or xs n d ∷ []) ∙ (λ i. count_first n (omega arith) i + one i)

module _ {T : Type 0} (xs : List (Option T)) (long : length xs ≡ 32) (n : ℕ) (few : n ≤ 32) where
  pub any_given : list_any is_some (take n xs) ≡ any_of (λ g. is_some (given_for xs g)) n
  any_given = any_first is_some None xs n (omega (arith, long))

  pub count_given : count_by is_some (take n xs) ≡ count_of (λ g. is_some (given_for xs g)) n
  count_given = count_first is_some None xs n (omega (arith, long))
