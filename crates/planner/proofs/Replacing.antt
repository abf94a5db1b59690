-- What stands at a grade's place after figures were replaced. Assumes nothing.
use Rattle.std.proofs.Common.{◌≡◌, ℕ, zero, suc, ◌+◌, ◌-◌, ◌<◌, ◌≤◌, List, length, get_or, set, Some, None, Option, IfSome, sym, refl, ap, ◌∙◌, subst, ⊎_elim, add-one, arith}
use Rattle.std.specs.Option.{unwrap_or, option_map}
use Rattle.std.proofs.lemmas.List.{get_or-set_same, get_or-set_other, length-set, set-get_or}
use Rattle.std.proofs.lemmas.Bool.{cases_eq, cases_lt}
use Rattle.rankings.specs.Costs.{Cost, zero as nothing}
use Rattle.table.specs.Ranges.{Within, FirstsIn, FigureIn, FiguresIn}
use Rattle.table.specs.Lookahead.{figure_at}
use Rattle.planner.specs.Sweeps.{replaced, applied}

-- the new one, if there is one, and else the old
abbrev pub or_old : {A : Type 0} → Option A → A → A
or_old (Some x) old = x
or_old None old = old

module _ {A : Type 0} where
  replaced_long : (i : ℕ) (o : Option A) (xs : List A) → length (replaced i o xs) ≡ length xs
  replaced_long i None xs = refl
  replaced_long i (Some x) xs = length-set xs i x

  pub applied_long : (f : ℕ → Option A) (n : ℕ) (xs : List A) → length (applied f n xs) ≡ length xs
  applied_long f zero xs = refl
  applied_long f (suc n) xs = replaced_long n (f (n + 1)) (applied f n xs) ∙ applied_long f n xs

  replaced_other : (i j : ℕ) (o : Option A) (xs : List A) (d : A) → (j ≡ i → ⊥) → get_or (replaced i o xs) j d ≡ get_or xs j d
  replaced_other i j None xs d ne = refl
  replaced_other i j (Some x) xs d ne = get_or-set_other xs i j x d ne

  replaced_here : (i : ℕ) (o : Option A) (xs : List A) (d : A) → i < length xs → get_or (replaced i o xs) i d ≡ or_old o (get_or xs i d)
  replaced_here i None xs d h = refl
  replaced_here i (Some x) xs d h = get_or-set_same xs i x d h

  pub applied_beyond : (f : ℕ → Option A) (n : ℕ) (xs : List A) (i : ℕ) (d : A) → n ≤ i → get_or (applied f n xs) i d ≡ get_or xs i d
  applied_beyond f zero xs i d h = refl
  applied_beyond f (suc n) xs i d h = replaced_other n i (f (n + 1)) (applied f n xs) d (λ e. omega arith) ∙ applied_beyond f n xs i d (omega arith)

  pub applied_at : (f : ℕ → Option A) (n : ℕ) (xs : List A) (i : ℕ) (d : A) → i < n → n ≤ length xs → get_or (applied f n xs) i d ≡ or_old (f (i + 1)) (get_or xs i d)
  applied_at f zero xs i d h m = absurd (omega arith)
  applied_at f (suc n) xs i d h m =
      ⊎_elim
      (λ same.
      subst (λ j. get_or (replaced n (f (n + 1)) (applied f n xs)) j d ≡ or_old (f (j + 1)) (get_or xs j d)) (sym same)
      (replaced_here n (f (n + 1)) (applied f n xs) d (omega (arith, applied_long f n xs)) ∙ ap (or_old (f (n + 1))) (applied_beyond f n xs n d (omega arith))))
      (λ apart. replaced_other n i (f (n + 1)) (applied f n xs) d apart ∙ applied_at f n xs i d (omega (arith, apart)) (omega arith))
      (cases_eq i n)

  -- at the place of the grade g
  pub applied_grade : (f : ℕ → Option A) (n : ℕ) (xs : List A) (g : ℕ) (d : A) → Within 1 n g → n ≤ length xs → get_or (applied f n xs) (g - 1) d ≡ or_old (f g) (get_or xs (g - 1) d)
  applied_grade f n xs g d h m =
      let same : g - 1 + 1 ≡ g = omega (arith, h.0) in
      applied_at f n xs (g - 1) d (omega (arith, h.0, h.1)) m ∙ ap (λ j. or_old (f j) (get_or xs (g - 1) d)) same

-- figures in range stay so, if each new one is
pub applied_in : (f : ℕ → Option Cost) (n : ℕ) (ws : List Cost) → n ≤ 32 → length ws ≡ 32 → FiguresIn ws → ((g : ℕ) → Within 1 n g → FigureIn (or_old (f g) (figure_at ws g))) → FiguresIn (applied f n ws)
applied_in f n ws m long old each i h =
    ⊎_elim
    (λ lt.
    let same : i + 1 - 1 ≡ i = omega arith in
    subst FigureIn (sym (applied_at f n ws i nothing lt (omega (arith, long)))) (subst (λ j. FigureIn (or_old (f (i + 1)) (get_or ws j nothing))) same (each (i + 1) (omega arith, omega arith))))
    (λ ge. subst FigureIn (sym (applied_beyond f n ws i nothing ge)) (old i h))
    (cases_lt i n)

applied_more : {A : Type 0} (f : ℕ → Option A) (n : ℕ) (xs : List A) → applied f (n + 1) xs ≡ replaced n (f (n + 1)) (applied f n xs)
applied_more f n xs = simp (add-one n)

-- one grade more, whose figure is replaced, or is not
applied_some : {A : Type 0} (f : ℕ → Option A) (n : ℕ) (xs ys : List A) (x : A) → ys ≡ applied f n xs → Some x ≡ f (n + 1) → set ys n x ≡ applied f (n + 1) xs
applied_some f n xs ys x so e = ap (λ l. set l n x) so ∙ ap (λ o. replaced n o (applied f n xs)) e ∙ sym (applied_more f n xs)

applied_none : {A : Type 0} (f : ℕ → Option A) (n : ℕ) (xs ys : List A) → ys ≡ applied f n xs → None ≡ f (n + 1) → ys ≡ applied f (n + 1) xs
applied_none f n xs ys so e = so ∙ ap (λ o. replaced n o (applied f n xs)) e ∙ sym (applied_more f n xs)

-- one grade more, whose entry is written in any case: the old one, where nothing is given
applied_or : {A : Type 0} (f : ℕ → Option A) (n : ℕ) (xs ys : List A) (d : A) (o : Option A) → ys ≡ applied f n xs → o ≡ f (n + 1) → set ys n (unwrap_or o (get_or xs n d)) ≡ applied f (n + 1) xs
applied_or f n xs ys d None so e =
    let same : get_or xs n d ≡ get_or ys n d = sym (applied_beyond f n xs n d (omega arith)) ∙ ap (λ l. get_or l n d) (sym so) in
    ap (set ys n) same ∙ set-get_or ys n d ∙ applied_none f n xs ys so e
applied_or f n xs ys d (Some x) so e = applied_some f n xs ys x so e

-- the same of an entry that was read from the old ones
pub applied_entry : {A : Type 0} (f : ℕ → Option A) (n : ℕ) (xs ys : List A) (o : Option A) (old entry : A) → entry ≡ unwrap_or o old → old ≡ get_or xs n old → ys ≡ applied f n xs → o ≡ f (n + 1) → set ys n entry ≡ applied f (n + 1) xs
applied_entry f n xs ys o old entry is read so e = ap (set ys n) (is ∙ ap (unwrap_or o) read) ∙ applied_or f n xs ys old o so e

-- what holds of the old and of the new holds of what stands there
or_holds : {A : Type 0} (P : A → Type 0) (o : Option A) (old : A) → IfSome o P → P old → P (or_old o old)
or_holds P None old new kept = kept
or_holds P (Some x) old new kept = new

pub part_holds : {A B : Type 0} (part : A → B) (P : B → Type 0) (Q : A → Type 0) (o : Option A) → ((x : A) → Q x → P (part x)) → IfSome o Q → IfSome (option_map part o) P
part_holds part P Q None h all = tt
part_holds part P Q (Some x) h all = h x all

-- figures in range, and rows of a table, stay so
pub applied_figures : (n : ℕ) (f : ℕ → Option Cost) (ws : List Cost) → n ≤ 32 → length ws ≡ 32 → FiguresIn ws → ((i : ℕ) → i < 32 → IfSome (f (i + 1)) FigureIn) → FiguresIn (applied f n ws)
applied_figures n f ws few long old new =
    applied_in f n ws few long old (λ g h.
    let same : g - 1 + 1 ≡ g = omega (arith, h.0) in
    or_holds FigureIn (f g) (figure_at ws g) (subst (λ j. IfSome (f j) FigureIn) same (new (g - 1) (omega (arith, h.0, h.1)))) (old (g - 1) (omega (arith, h.0, h.1))))

pub applied_rows : (n m most : ℕ) (f : ℕ → Option ℕ) (rows : List ℕ) → n ≤ m → m ≤ 32 → length rows ≡ 32 → FirstsIn n most rows → ((i : ℕ) → i < 32 → IfSome (f (i + 1)) (Within 1 most)) → FirstsIn n most (applied f m rows)
applied_rows n m most f rows some few long old new i h =
    subst (Within 1 most) (sym (applied_at f m rows i 0 (omega arith) (omega (arith, long)))) (or_holds (Within 1 most) (f (i + 1)) (get_or rows i 0) (new i (omega arith)) (old i h))

-- the same of one place in a list of any length
pub set_within : (ws : List Cost) (i : ℕ) (w : Cost) → i < length ws → FiguresIn ws → FigureIn w → FiguresIn (set ws i w)
set_within ws i w inside all one k h =
    ⊎_elim
    (λ same. subst FigureIn (sym (ap (λ j. get_or (set ws i w) j nothing) same ∙ get_or-set_same ws i w nothing inside)) one)
    (λ apart. subst FigureIn (sym (get_or-set_other ws i k w nothing apart)) (all k h))
    (cases_eq k i)

pub set_row : (n most : ℕ) (rows : List ℕ) (i k : ℕ) → i < length rows → FirstsIn n most rows → Within 1 most k → FirstsIn n most (set rows i k)
set_row n most rows i k inside all one j h =
    ⊎_elim
    (λ same. subst (Within 1 most) (sym (ap (λ m. get_or (set rows i k) m 0) same ∙ get_or-set_same rows i k 0 inside)) one)
    (λ apart. subst (Within 1 most) (sym (get_or-set_other rows i j k 0 apart)) (all j h))
    (cases_eq j i)
