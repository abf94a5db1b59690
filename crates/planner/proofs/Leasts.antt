-- The cheapest row of a grade is none dearer than another, and the first such. Assumes nothing.
use Rattle.std.proofs.Common.{◌≡◌, ℕ, ◌-◌, Bool, true, false, cond, leb, ◌⊎◌, List, [], ◌∷◌, ◌++◌, Some, None, Option, sym, refl, ap, ◌∙◌, subst, inl, inr, ⊎_elim, append_assoc, arith}
use Rattle.std.proofs.lemmas.Bool.{false≢true, cases_Bool, cond-true, cond-false, eq-eqb, leb-true, and_parts}
use Rattle.std.proofs.lemmas.Bool.Decides.{eqb_tells}
use Rattle.rankings.specs.Costs.{Cost}
use Rattle.rankings.specs.Laws.{Ordered}
use Rattle.rankings.proofs.Derived.{reflexive, opposite, dearer_up}
use Rattle.table.specs.declared.table.Table.{Table}
use Rattle.table.specs.Ranges.{Within}
use Rattle.table.specs.Chains.{walk, next_row, first_row, rows_of}
use Rattle.table.specs.Lookahead.{X}
use Rattle.table.specs.Rules.{has}
use Rattle.table.proofs.Keeping.{only_has}
use Rattle.table.proofs.Walks.{walk_in}
use Rattle.planner.specs.declared.choice.Choice.{Choice}
use Rattle.planner.specs.Choices.{choice_of, cheaper_of, cheapest_from, cheapest_of, cheapest_row, is_grade, Cheapest, CheapestOf}
use Rattle.planner.proofs.Cheapest.{grade}

has-++ : (k : ℕ) (xs ys : List ℕ) → has k (xs ++ ys) ≡ true → (has k xs ≡ true) ⊎ (has k ys ≡ true)
has-++ k [] ys h = inr h
has-++ k (x ∷ xs) ys h =
    ⊎_elim
    (λ t. inl (ap (λ b. cond b true (has k xs)) t.0))
    (λ t. ⊎_elim (λ e. inl (ap (λ b. cond b true (has k xs)) t.0 ∙ e)) (λ e. inr e) (has-++ k xs ys (subst (λ b. cond b true (has k (xs ++ ys)) ≡ true) t.0 h)))
    (eqb_tells x k)

pub has_middle : (k : ℕ) (xs ys : List ℕ) → has k (xs ++ k ∷ ys) ≡ true
has_middle k [] ys = ap (λ b. cond b true (has k ys)) (eq-eqb k k refl)
has_middle k (x ∷ xs) ys = ⊎_elim (λ t. ap (λ b. cond b true (has k (xs ++ k ∷ ys))) t.0) (λ t. ap (λ b. cond b true (has k (xs ++ k ∷ ys))) t.0 ∙ has_middle k xs ys) (eqb_tells x k)

module _ {le : Cost → Cost → Bool} (o : Ordered le) (t : Table) (w : ℕ → Cost) where
  one : (k : ℕ) → Cheapest le t w (k ∷ []) (choice_of t w k)
  one k = record {
    is = refl;
    before = [];
    after = [];
    split = refl;
    least = λ j h. subst (λ i. le (X t k w) (X t i w) ≡ true) (only_has k j h) (reflexive o (X t k w));
    first = λ j h. absurd (false≢true h);
  }

  -- one row more
  stays : (seen : List ℕ) (best : Choice) (k : ℕ) → Cheapest le t w seen best → le best.cost (X t k w) ≡ true → Cheapest le t w (seen ++ k ∷ []) best
  stays seen best k c h = record {
    is = c.is;
    before = c.before;
    after = c.after ++ k ∷ [];
    split = ap (λ l. l ++ k ∷ []) c.split ∙ append_assoc c.before (best.row ∷ c.after) (k ∷ []);
    least = λ j e. ⊎_elim (λ d. c.least j d) (λ d. subst (λ i. le best.cost (X t i w) ≡ true) (only_has k j d) h) (has-++ j seen (k ∷ []) e);
    first = c.first;
  }

  gives : (seen : List ℕ) (best : Choice) (k : ℕ) → Cheapest le t w seen best → le best.cost (X t k w) ≡ false → Cheapest le t w (seen ++ k ∷ []) (choice_of t w k)
  gives seen best k c h = record {
    is = refl;
    before = seen;
    after = [];
    split = refl;
    least = λ j e. ⊎_elim
        (λ d. o.trans (X t k w) best.cost (X t j w) (opposite o best.cost (X t k w) h) (c.least j d))
        (λ d. subst (λ i. le (X t k w) (X t i w) ≡ true) (only_has k j d) (reflexive o (X t k w)))
        (has-++ j seen (k ∷ []) e);
    first = λ j d. dearer_up o best.cost (X t j w) (X t k w) (c.least j d) h;
  }

  next : (seen : List ℕ) (best : Choice) (k : ℕ) → Cheapest le t w seen best → Cheapest le t w (seen ++ k ∷ []) (cheaper_of le best (choice_of t w k))
  next seen best k c =
      ⊎_elim
      (λ e. subst (Cheapest le t w (seen ++ k ∷ [])) (sym (cond-true (le best.cost (X t k w)) best (choice_of t w k) e)) (stays seen best k c e))
      (λ e. subst (Cheapest le t w (seen ++ k ∷ [])) (sym (cond-false (le best.cost (X t k w)) best (choice_of t w k) e)) (gives seen best k c e))
      (cases_Bool (le best.cost (X t k w)))

  from_cheapest : (seen : List ℕ) (best : Choice) (ks : List ℕ) → Cheapest le t w seen best → Cheapest le t w (seen ++ ks) (cheapest_from le t w best ks)
  from_cheapest seen best [] c = subst (λ l. Cheapest le t w l best) (sym (append-nil seen)) c
    where
      append-nil : (xs : List ℕ) → xs ++ [] ≡ xs
      append-nil [] = refl
      append-nil (x ∷ xs) = ap (λ l. x ∷ l) (append-nil xs)
  from_cheapest seen best (k ∷ ks) c =
      subst (λ l. Cheapest le t w l (cheapest_from le t w best (k ∷ ks))) (append_assoc seen (k ∷ []) ks)
      (from_cheapest (seen ++ k ∷ []) (cheaper_of le best (choice_of t w k)) ks (next seen best k c))

  -- of each grade there is a cheapest row
  pub record Found (g : ℕ) : Type 0 where
    pub choice : Choice
    pub is : cheapest_row le t w g ≡ Some choice
    pub cheapest : Cheapest le t w (rows_of t g) choice

  pub found : (g : ℕ) → Within 1 t.grades g → Found g
  found g h =
      let first = t.firsts (g - 1) (omega (arith, h.0, h.1)) in
      let rest = walk (next_row t) (t.rows - 1) (next_row t (first_row t g)) in
      let chain : rows_of t g ≡ first_row t g ∷ rest = walk_in (next_row t) (first_row t g) t.rows (t.rows - 1) (omega (arith, t.rowed.0)) (omega (arith, first.0)) in
      let best = cheapest_from le t w (choice_of t w (first_row t g)) rest in
      record {
        choice = best;
        is = cond-true (is_grade t g) (cheapest_of le t w (rows_of t g)) None (grade le t w g h) ∙ ap (cheapest_of le t w) chain;
        cheapest = subst (λ l. Cheapest le t w l best) (sym chain) (from_cheapest (first_row t g ∷ []) (choice_of t w (first_row t g)) rest (one (first_row t g)));
      }

  -- what is told of a grade
  pub told : (g : ℕ) (r : Option Choice) → r ≡ cheapest_row le t w g → CheapestOf le t w g r
  told g (Some c) e = ⊎_elim
      (λ yes.
      let h : Within 1 t.grades g = let both = and_parts (leb 1 g) (leb g t.grades) yes in (leb-true 1 g both.0, leb-true g t.grades both.1) in
      let f = found g h in
      let same : c ≡ f.choice = cc in
      (h, subst (Cheapest le t w (rows_of t g)) (sym same) f.cheapest))
      (λ no. let none = cond-false (is_grade t g) (cheapest_of le t w (rows_of t g)) None no in let z : ◌≡◌ {A = ℕ} 0 1 = cc in absurd (omega arith))
      (cases_Bool (is_grade t g))
  told g None e = λ h. let some = (found g h).is in let z : ◌≡◌ {A = ℕ} 0 1 = cc in omega arith
