-- The nearer of two figures that keep the rules keeps them. Assumes nothing.
use Rattle.std.proofs.Common.{◌≡◌, ℕ, ◌-◌, Bool, true, false, cond, ◌⊎◌, List, Some, None, sym, ap, ◌∙◌, subst, inl, inr, ⊎_elim, arith}
use Rattle.std.specs.Option.{option_map}
use Rattle.std.proofs.lemmas.Bool.{cases_Bool, cond-true, cond-false}
use Rattle.rankings.specs.Costs.{Cost, times, zero}
use Rattle.rankings.specs.Laws.{Ordered, Linear}
use Rattle.rankings.proofs.Derived.{reflexive, opposite}
use Rattle.table.specs.declared.table.Table.{Table}
use Rattle.table.specs.Ranges.{Within, FigureIn, FiguresIn}
use Rattle.table.specs.Lookahead.{figure_at, scaling, X}
use Rattle.table.specs.Rules.{plan_row}
use Rattle.table.specs.Sound.{Sound}
use Rattle.table.specs.Kept.{RowOf, PlanRule, FloorRule, PlanCeilingRule}
use Rattle.table.proofs.Keeping.{row_in}
use Rattle.planner.specs.declared.choice.Choice.{Choice}
use Rattle.planner.specs.Sweeps.{Shown}
use Rattle.planner.specs.Keeping.{ShownKept, InRange, Nearer, Follows, dearer_floor, cheaper_ceiling, cheaper_row, nearer_of, NearerKeeps}
use Rattle.planner.proofs.Ahead.{X-le}
use Rattle.planner.proofs.Replacing.{or_old, applied_long, applied_grade, applied_in}
use Rattle.planner.proofs.Steps.{taken_dearer, unless}

module _ (le : Cost → Cost → Bool) (o : Ordered le) (l : Linear le) (t : Table) (sound : Sound t) (s r : Shown) (sr : InRange s) (rr : InRange r) (sk : ShownKept le t s) (rk : ShownKept le t r) where
  abbrev after : Shown
  after = nearer_of le s r t.grades

  abbrev sf : ℕ → Cost
  sf = figure_at s.floors

  abbrev rf : ℕ → Cost
  rf = figure_at r.floors

  abbrev nf : ℕ → Cost
  nf = figure_at after.floors

  floor_is : (g : ℕ) → Within 1 t.grades g → nf g ≡ or_old (dearer_floor le s r g) (sf g)
  floor_is g h = applied_grade (dearer_floor le s r) t.grades s.floors g zero h (omega (arith, sr.floors_long, t.graded.1))

  floor_taken : (g : ℕ) → Within 1 t.grades g → (le (sf g) (nf g) ≡ true) × ((nf g ≡ sf g) ⊎ (nf g ≡ rf g))
  floor_taken g h = taken_dearer le o l t (rf g) (sf g) (nf g) (floor_is g h)

  floor_over : (g : ℕ) → Within 1 t.grades g → le (rf g) (nf g) ≡ true
  floor_over g h = ⊎_elim
      (λ e. subst (λ x. le (rf g) x ≡ true) (sym (floor_is g h ∙ e.1)) e.0)
      (λ e. subst (λ x. le (rf g) x ≡ true) (sym (floor_is g h ∙ e.1)) (reflexive o (rf g)))
      (unless (le (rf g) (sf g)) (rf g) (sf g))

  low : FloorRule le t nf
  low g k row =
      let h = row.grade in
      let inside = row_in t g k row in
      ⊎_elim
      (λ e. subst (λ x. le (times (scaling t) x) (X t k nf) ≡ true) (sym e) (o.trans (times (scaling t) (sf g)) (X t k sf) (X t k nf) (sk.low g k row) (X-le le o l t sf nf (λ j b. (floor_taken j b).0) k inside)))
      (λ e. subst (λ x. le (times (scaling t) x) (X t k nf) ≡ true) (sym e) (o.trans (times (scaling t) (rf g)) (X t k rf) (X t k nf) (rk.low g k row) (X-le le o l t rf nf floor_over k inside)))
      (floor_taken g h).1

  abbrev sc : ℕ → Cost
  sc = figure_at s.ceilings

  abbrev rc : ℕ → Cost
  rc = figure_at r.ceilings

  abbrev nc : ℕ → Cost
  nc = figure_at after.ceilings

  abbrev plan : ℕ → ℕ
  plan = plan_row after.rows

  ceiling_taken : (g : ℕ) → Within 1 t.grades g → ((le (sc g) (rc g) ≡ true) × (nc g ≡ sc g) × (plan g ≡ plan_row s.rows g)) ⊎ ((le (sc g) (rc g) ≡ false) × (nc g ≡ rc g) × (plan g ≡ plan_row r.rows g))
  ceiling_taken g h =
      let at = applied_grade (cheaper_ceiling le s r) t.grades s.ceilings g zero h (omega (arith, sr.ceilings_long, t.graded.1)) in
      let row = applied_grade (cheaper_row le s r) t.grades s.rows g 0 h (omega (arith, sr.rows_long, t.graded.1)) in
      let new : Choice = record { row = plan_row r.rows g; cost = rc g } in
      ⊎_elim
      (λ e.
      let none = cond-true (le (sc g) (rc g)) None (Some new) e in
      inl (e, at ∙ ap (λ x. or_old (option_map (λ q. q.cost) x) (sc g)) none, row ∙ ap (λ x. or_old (option_map (λ q. q.row) x) (plan_row s.rows g)) none))
      (λ e.
      let some = cond-false (le (sc g) (rc g)) None (Some new) e in
      inr (e, at ∙ ap (λ x. or_old (option_map (λ q. q.cost) x) (sc g)) some, row ∙ ap (λ x. or_old (option_map (λ q. q.row) x) (plan_row s.rows g)) some))
      (cases_Bool (le (sc g) (rc g)))

  under_s : (g : ℕ) → Within 1 t.grades g → le (nc g) (sc g) ≡ true
  under_s g h = ⊎_elim (λ e. subst (λ x. le x (sc g) ≡ true) (sym e.1) (reflexive o (sc g))) (λ e. subst (λ x. le x (sc g) ≡ true) (sym e.1) (opposite o (sc g) (rc g) e.0)) (ceiling_taken g h)

  under_r : (g : ℕ) → Within 1 t.grades g → le (nc g) (rc g) ≡ true
  under_r g h = ⊎_elim (λ e. subst (λ x. le x (rc g) ≡ true) (sym e.1) e.0) (λ e. subst (λ x. le x (rc g) ≡ true) (sym e.1) (reflexive o (rc g))) (ceiling_taken g h)

  planned : PlanRule t plan
  planned g h = ⊎_elim (λ e. subst (RowOf t g) (sym e.2) (sk.planned g h)) (λ e. subst (RowOf t g) (sym e.2) (rk.planned g h)) (ceiling_taken g h)

  high : PlanCeilingRule le t plan nc
  high g h =
      let inside = row_in t g (plan g) (planned g h) in
      ⊎_elim
      (λ e.
      let old = subst (λ k. le (X t k sc) (times (scaling t) (sc g)) ≡ true) (sym e.2) (sk.high g h) in
      subst (λ x. le (X t (plan g) nc) (times (scaling t) x) ≡ true) (sym e.1) (o.trans (X t (plan g) nc) (X t (plan g) sc) (times (scaling t) (sc g)) (X-le le o l t nc sc under_s (plan g) inside) old))
      (λ e.
      let old = subst (λ k. le (X t k rc) (times (scaling t) (rc g)) ≡ true) (sym e.2) (rk.high g h) in
      subst (λ x. le (X t (plan g) nc) (times (scaling t) x) ≡ true) (sym e.1) (o.trans (X t (plan g) nc) (X t (plan g) rc) (times (scaling t) (rc g)) (X-le le o l t nc rc under_r (plan g) inside) old))
      (ceiling_taken g h)

  pick : (x y : Cost) (b : Bool) → FigureIn x → FigureIn y → FigureIn (or_old (cond b None (Some y)) x)
  pick x y true p q = p
  pick x y false p q = q

  pick_choice : (x : Cost) (y : Choice) (b : Bool) → FigureIn x → FigureIn y.cost → FigureIn (or_old (option_map (λ q. q.cost) (cond b None (Some y))) x)
  pick_choice x y true p q = p
  pick_choice x y false p q = q

  figure : (ws : List Cost) → FiguresIn ws → (g : ℕ) → Within 1 t.grades g → FigureIn (figure_at ws g)
  figure ws all g h = all (g - 1) (omega (arith, h.0, h.1, t.graded.1))

  pub nearer_follows : Follows le t s after
  nearer_follows = record {
    ranged = record {
      rows_long = applied_long (cheaper_row le s r) t.grades s.rows ∙ sr.rows_long;
      floors_long = applied_long (dearer_floor le s r) t.grades s.floors ∙ sr.floors_long;
      ceilings_long = applied_long (cheaper_ceiling le s r) t.grades s.ceilings ∙ sr.ceilings_long;
      floors_in = applied_in (dearer_floor le s r) t.grades s.floors t.graded.1 sr.floors_long sr.floors_in (λ g h. pick (sf g) (rf g) (le (rf g) (sf g)) (figure s.floors sr.floors_in g h) (figure r.floors rr.floors_in g h));
      ceilings_in = applied_in (cheaper_ceiling le s r) t.grades s.ceilings t.graded.1 sr.ceilings_long sr.ceilings_in (λ g h. pick_choice (sc g) (record { row = plan_row r.rows g; cost = rc g }) (le (sc g) (rc g)) (figure s.ceilings sr.ceilings_in g h) (figure r.ceilings rr.ceilings_in g h));
    };
    kept = record { planned = planned; low = low; high = high };
    nearer = record { floors = λ g h. (floor_taken g h).0; ceilings = under_s };
  }

  pub nearer_both : Nearer le t r after
  nearer_both = record { floors = floor_over; ceilings = under_r }

pub nearer_keeps : NearerKeeps
nearer_keeps le o l t sound s r sr rr sk rk = (nearer_follows le o l t sound s r sr rr sk rk, nearer_both le o l t sound s r sr rr sk rk)
