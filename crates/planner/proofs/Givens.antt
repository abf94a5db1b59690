-- What is given for one grade more. Assumes nothing.
use Rattle.std.proofs.Common.{◌≡◌, ℕ, zero, suc, ◌+◌, ◌-◌, ◌<◌, ◌≤◌, List, get_or, set, None, Option, IfSome, Bool, true, false, cond, ◌||◌, is_some, replicate, sym, refl, ap, ◌∙◌, subst, ⊎_elim, arith}
use Rattle.std.proofs.lemmas.List.{get_or-set_same, get_or-set_other, length-set}
use Rattle.std.proofs.lemmas.Bool.{cases_eq, cases_lt}
use Rattle.table.specs.declared.grade.Grade.{Grade}
use Rattle.table.specs.declared.sound.SoundTable.{SoundTable}
use Rattle.table.specs.Ranges.{Within}
use Rattle.std.specs.Option.{option_map}
use Rattle.planner.specs.Grades.{Given, AllSome, given_for}
use Rattle.planner.specs.Improvements.{count_of}
use Rattle.planner.specs.Sweeps.{replaced, applied, any_of}

abbrev none : {T : Type 0} → Option T
none = None

nothing : {T : Type 0} (n i : ℕ) → get_or (replicate n (none {T = T})) i none ≡ none
nothing zero i = refl
nothing (suc n) zero = refl
nothing (suc n) (suc i) = nothing n i

-- entries replaced by what agrees on the first n grades, and by nothing beyond them
applied_on : {A : Type 0} (f h : ℕ → Option A) (n : ℕ) (old : List A) → ((g : ℕ) → Within 1 n g → f g ≡ h g) → applied f n old ≡ applied h n old
applied_on f h zero old e = refl
applied_on f h (suc n) old e =
    ap (λ o. replaced n o (applied f n old)) (e (n + 1) (omega arith, omega arith))
    ∙ ap (replaced n (h (n + 1))) (applied_on f h n old (λ g w. e g (w.0, omega (arith, w.1))))

applied_past : {A : Type 0} (f : ℕ → Option A) (n k m : ℕ) → m ≡ k + n → (old : List A) → ((g : ℕ) → n < g → f g ≡ None) → applied f m old ≡ applied f n old
applied_past f n zero m e old past = let same : m ≡ n = omega arith in ap (λ j. applied f j old) same
applied_past f n (suc k) zero e old past = absurd (omega arith)
applied_past f n (suc k) (suc m) e old past =
    ap (λ o. replaced m o (applied f m old)) (past (m + 1) (omega arith)) ∙ applied_past f n k m (omega arith) old past

applied_same : {A : Type 0} (f h : ℕ → Option A) (n m : ℕ) → n ≤ m → (old : List A) → ((g : ℕ) → Within 1 n g → f g ≡ h g) → ((g : ℕ) → n < g → f g ≡ None) → applied f m old ≡ applied h n old
applied_same f h n m few old e past =
    applied_past f n (m - n) m (omega arith) old past ∙ applied_on f h n old e

-- the same of a test of one to n
any_on : (p q : ℕ → Bool) (n : ℕ) → ((g : ℕ) → Within 1 n g → p g ≡ q g) → any_of p n ≡ any_of q n
any_on p q zero e = refl
any_on p q (suc n) e = ap (λ b. any_of p n || b) (e (n + 1) (omega arith, omega arith)) ∙ ap (λ b. b || q (n + 1)) (any_on p q n (λ g w. e g (w.0, omega (arith, w.1))))

or_false : (b : Bool) → (b || false) ≡ b
or_false true = refl
or_false false = refl

any_past : (p : ℕ → Bool) (n k m : ℕ) → m ≡ k + n → ((g : ℕ) → n < g → p g ≡ false) → any_of p m ≡ any_of p n
any_past p n zero m e past = let same : m ≡ n = omega arith in ap (any_of p) same
any_past p n (suc k) zero e past = absurd (omega arith)
any_past p n (suc k) (suc m) e past = ap (λ b. any_of p m || b) (past (m + 1) (omega arith)) ∙ or_false (any_of p m) ∙ any_past p n k m (omega arith) past

-- and of how many pass it
count_on : (p q : ℕ → Bool) (n : ℕ) → ((g : ℕ) → Within 1 n g → p g ≡ q g) → count_of p n ≡ count_of q n
count_on p q zero e = refl
count_on p q (suc n) e = ap (λ b. count_of p n + cond b 1 0) (e (n + 1) (omega arith, omega arith)) ∙ ap (λ k. k + cond (q (n + 1)) 1 0) (count_on p q n (λ g w. e g (w.0, omega (arith, w.1))))

count_past : (p : ℕ → Bool) (n k m : ℕ) → m ≡ k + n → ((g : ℕ) → n < g → p g ≡ false) → count_of p m ≡ count_of p n
count_past p n zero m e past = let same : m ≡ n = omega arith in ap (count_of p) same
count_past p n (suc k) zero e past = absurd (omega arith)
count_past p n (suc k) (suc m) e past =
    let none : count_of p m + 0 ≡ count_of p m = omega arith in
    ap (λ b. count_of p m + cond b 1 0) (past (m + 1) (omega arith)) ∙ none ∙ count_past p n k m (omega arith) past

module _ {T : Type 0} {s : SoundTable} {rule : Grade → Option T → Type 0} where
  pub given_more : (n : ℕ) (xs : List (Option T)) → Given n s rule xs → n < 32 → (grade : Grade) (o : Option T) → grade.sound.now ≡ s → grade.number ≡ n + 1 → rule grade o → (m : ℕ) → m ≡ n + 1 → Given m s rule (set xs (grade.number - 1) o)
  given_more n xs so few grade o same number ok m more =
      let place : grade.number - 1 ≡ n = omega (arith, number) in
      let here : get_or (set xs (grade.number - 1) o) n None ≡ o = ap (λ j. get_or (set xs j o) n None) place ∙ get_or-set_same xs n o None (omega (arith, so.long)) in
      record {
        long = length-set xs (grade.number - 1) o ∙ so.long;
        each = λ g h. ⊎_elim
            (λ e.
            let at : n ≡ g - 1 = omega arith in
            (grade, (same, (number ∙ sym more ∙ sym e, subst (rule grade) (sym here ∙ ap (λ j. get_or (set xs (grade.number - 1) o) j None) at) ok))))
            (λ ne.
            let old = so.each g (h.0, omega (arith, h.1, ne, more)) in
            let kept = get_or-set_other xs (grade.number - 1) (g - 1) o None (λ e. ne (omega (arith, h.0))) in
            (old.0, (old.1.0, (old.1.1.0, subst (rule old.0) (sym kept) old.1.1.1))))
            (cases_eq g m);
        beyond = λ g h. get_or-set_other xs (grade.number - 1) (g - 1) o None (λ e. omega arith) ∙ so.beyond g (omega arith);
      }

  pub given_none : (n : ℕ) → n ≡ 0 → Given n s rule (replicate 32 None)
  given_none n e = record { long = refl; each = λ g h. absurd (omega (arith, h.0, h.1)); beyond = λ g h. nothing 32 (g - 1) }

  -- what is given, where the rule says that it is f of the grade's number
  module _ (n : ℕ) (xs : List (Option T)) (so : Given n s rule xs) (f : ℕ → Option T) (is : (grade : Grade) (o : Option T) → grade.sound.now ≡ s → rule grade o → o ≡ f grade.number) where
    pub given_is : (g : ℕ) → Within 1 n g → get_or xs (g - 1) None ≡ f g
    given_is g h = let each = so.each g h in is each.0 (get_or xs (g - 1) None) each.1.0 each.1.1.1 ∙ ap f each.1.1.0

    -- entries replaced by it, or by a part of it
    pub given_applied : (m : ℕ) → n ≤ m → (old : List T) → applied (λ g. get_or xs (g - 1) None) m old ≡ applied f n old
    given_applied m few old = applied_same _ _ n m few old given_is so.beyond

    pub given_parts : {A : Type 0} (part : T → A) (m : ℕ) → n ≤ m → (old : List A) → applied (λ g. option_map part (get_or xs (g - 1) None)) m old ≡ applied (λ g. option_map part (f g)) n old
    given_parts part m few old = applied_same _ _ n m few old (λ g h. ap (option_map part) (given_is g h)) (λ g h. ap (option_map part) (so.beyond g h))

    -- whether something is given
    pub given_any : (m : ℕ) → n ≤ m → any_of (λ g. is_some (given_for xs g)) m ≡ any_of (λ g. is_some (f g)) n
    given_any m few = any_past _ n (m - n) m (omega arith) (λ g h. ap is_some (so.beyond g h)) ∙ any_on _ _ n (λ g h. ap is_some (given_is g h))

    -- for how many grades
    pub given_count : (m : ℕ) → n ≤ m → count_of (λ g. is_some (given_for xs g)) m ≡ count_of (λ g. is_some (f g)) n
    given_count m few = count_past _ n (m - n) m (omega arith) (λ g h. ap is_some (so.beyond g h)) ∙ count_on _ _ n (λ g h. ap is_some (given_is g h))

  -- what holds of whatever the rule allows
  pub given_all : (n : ℕ) (xs : List (Option T)) → Given n s rule xs → (P : T → Type 0) → ((grade : Grade) (o : Option T) → grade.sound.now ≡ s → rule grade o → IfSome o P) → AllSome P xs
  given_all n xs so P holds i h =
      let same : i + 1 - 1 ≡ i = omega arith in
      subst (λ j. IfSome (get_or xs j None) P) same (⊎_elim
      (λ lt. let each = so.each (i + 1) (omega arith, omega arith) in holds each.0 _ each.1.0 each.1.1.1)
      (λ ge. subst (λ o. IfSome o P) (sym (so.beyond (i + 1) (omega arith))) tt)
      (cases_lt i n))

-- the place of the grade i + 1
pub here : {A : Type 0} (P : A → Type 0) (xs : List (Option A)) → AllSome P xs → (i : ℕ) → i < 32 → IfSome (given_for xs (i + 1)) P
here P xs all i h = let same : i ≡ i + 1 - 1 = omega arith in subst (λ j. IfSome (get_or xs j None) P) same (all i h)
