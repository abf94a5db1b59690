-- The dearest of several costs is no cheaper than each. Assumes nothing.
use Rattle.std.proofs.Common.{◌≡◌, ℕ, zero as none, suc, Bool, true, cond, List, [], ◌∷◌, ◌++◌, sym, subst, ⊎_elim, arith}
use Rattle.std.proofs.lemmas.Bool.{cases_Bool, cases_lt, cond-true, cond-false}
use Rattle.rankings.specs.Costs.{Cost, zero}
use Rattle.rankings.specs.Laws.{Ordered}
use Rattle.rankings.proofs.Derived.{reflexive, opposite}
use Rattle.table.specs.Ranges.{Within}
use Rattle.planner.specs.Start.{dearest_among}
use Rattle.planner.specs.Policies.{up_to}

module _ {le : Cost → Cost → Bool} (o : Ordered le) where
  -- the dearer of two
  pub worse_left : (w c : Cost) → le w (cond (le c w) w c) ≡ true
  worse_left w c = ⊎_elim
      (λ e. subst (λ x. le w x ≡ true) (sym (cond-true (le c w) w c e)) (reflexive o w))
      (λ e. subst (λ x. le w x ≡ true) (sym (cond-false (le c w) w c e)) (opposite o c w e))
      (cases_Bool (le c w))

  pub worse_right : (w c : Cost) → le c (cond (le c w) w c) ≡ true
  worse_right w c = ⊎_elim
      (λ e. subst (λ x. le c x ≡ true) (sym (cond-true (le c w) w c e)) e)
      (λ e. subst (λ x. le c x ≡ true) (sym (cond-false (le c w) w c e)) (reflexive o c))
      (cases_Bool (le c w))

  pub dearest_first : (w : Cost) (cs : List Cost) → le w (dearest_among le w cs) ≡ true
  dearest_first w [] = reflexive o w
  dearest_first w (c ∷ cs) = o.trans w (cond (le c w) w c) (dearest_among le w (c ∷ cs)) (worse_left w c) (dearest_first (cond (le c w) w c) cs)

  abbrev Each : Cost → List Cost → Type 0
  Each x [] = Unit {0}
  Each x (c ∷ cs) = (le c x ≡ true) × Each x cs

  dearest_each : (w : Cost) (cs : List Cost) → Each (dearest_among le w cs) cs
  dearest_each w [] = tt
  dearest_each w (c ∷ cs) =
      let m = cond (le c w) w c in
      (o.trans c m (dearest_among le m cs) (worse_right w c) (dearest_first m cs), dearest_each m cs)

  each_left : (x : Cost) (cs ds : List Cost) → Each x (cs ++ ds) → Each x cs
  each_left x [] ds e = tt
  each_left x (c ∷ cs) ds e = (e.0, each_left x cs ds e.1)

  each_last : (x : Cost) (cs : List Cost) (d : Cost) → Each x (cs ++ d ∷ []) → le d x ≡ true
  each_last x [] d e = e.0
  each_last x (c ∷ cs) d e = each_last x cs d e.1

  each_at : (x : Cost) (w : ℕ → Cost) (n g : ℕ) → Each x (up_to w n) → Within 1 n g → le (w g) x ≡ true
  each_at x w none g e h = absurd (omega (arith, h.0, h.1))
  each_at x w (suc n) g e h =
      ⊎_elim
      (λ early. each_at x w n g (each_left x (up_to w n) (w (suc n) ∷ []) e) (h.0, omega arith))
      (λ last. let same : suc n ≡ g = omega (arith, h.1) in subst (λ j. le (w j) x ≡ true) same (each_last x (up_to w n) (w (suc n)) e))
      (cases_lt g (suc n))

  -- each figure is no dearer than the dearest of zero and all figures
  pub dearest_of : (w : ℕ → Cost) (n g : ℕ) → Within 1 n g → le (w g) (dearest_among le zero (up_to w n)) ≡ true
  dearest_of w n g h = each_at (dearest_among le zero (up_to w n)) w n g (dearest_each zero (up_to w n)) h
