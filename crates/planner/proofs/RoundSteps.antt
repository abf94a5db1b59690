-- Improvement rounds keep the rules. Assumes nothing.
use Rattle.std.proofs.Common.{◌≡◌, ℕ, zero as none, suc, ◌-◌, ◌*◌, ◌^◌, Bool, true, false, cond, ◌⊎◌, Some, None, sym, ap, ◌∙◌, subst, inl, inr, ⊎_elim, arith}
use Rattle.rankings.specs.Costs.{Cost, times, zero, Within as Sized}
use Rattle.rankings.specs.Laws.{Ordered, Linear, Rounds}
use Rattle.rankings.proofs.Derived.{reflexive, opposite}
use Rattle.table.specs.declared.table.Table.{Table}
use Rattle.table.specs.Ranges.{Within, FigureIn, FiguresIn}
use Rattle.table.specs.Lookahead.{figure_at, scaling, X}
use Rattle.table.specs.Rules.{plan_row}
use Rattle.table.specs.Sound.{Sound}
use Rattle.table.specs.Kept.{RowOf, PlanRule, PlanCeilingRule}
use Rattle.table.proofs.Keeping.{row_in}
use Rattle.table.proofs.Lookaheads.{ahead_some}
use Rattle.table.proofs.Magnitudes.{scaling-≤, scaling_some, scaled_modest}
use Rattle.planner.specs.declared.choice.Choice.{Choice}
use Rattle.planner.specs.Sweeps.{Shown}
use Rattle.planner.specs.Improvements.{ease, eased, eased_ceilings, give, given, round_of, rounds}
use Rattle.planner.specs.Keeping.{ShownKept, InRange, Follows, RoundsKeep}
use Rattle.planner.proofs.Ahead.{X-within}
use Rattle.planner.proofs.Replacing.{or_old, applied_long, applied_grade, applied_in}
use Rattle.planner.proofs.Roundings.{dear_within}
use Rattle.planner.proofs.Steps.{taken_cheaper, unless, ceilings_sink}
use Rattle.planner.proofs.SweepSteps.{best, best_is, best_cheapest, best_row}
use Rattle.planner.proofs.Follow.{follows_none, follows_then}

module _ (le : Cost → Cost → Bool) (cheap dear : Cost → ℕ → Cost) (o : Ordered le) (l : Linear le) (laws : Rounds le cheap dear) (t : Table) (sound : Sound t) (s : Shown) (r : InRange s) (k : ShownKept le t s) where
  abbrev c : ℕ → Cost
  c = figure_at s.ceilings

  abbrev d : ℕ → Cost
  d = figure_at (eased_ceilings le dear t s)

  abbrev plan : ℕ → ℕ
  plan = plan_row s.rows

  abbrev planned : ℕ → ℕ
  planned = plan_row (round_of le dear t s).rows

  row_here : (g : ℕ) → Within 1 t.grades g → Within 1 t.rows (plan g)
  row_here g h = row_in t g (plan g) (k.planned g h)

  abbrev y : ℕ → Cost
  y g = dear (X t (plan g) c) (scaling t)

  X-here : (g : ℕ) → Within 1 t.grades g → Sized (scaling t * 10 ^ 10) (X t (plan g) c)
  X-here g h = X-within t sound s.ceilings r.ceilings_in (plan g) (row_here g h)

  y_above : (g : ℕ) → Within 1 t.grades g → le (X t (plan g) c) (times (scaling t) (y g)) ≡ true
  y_above g h = laws.dear_above (X t (plan g) c) (scaling t) (scaling_some t) (scaling-≤ t) (scaled_modest t (X t (plan g) c) (X-here g h))

  eased_is : (g : ℕ) → Within 1 t.grades g → or_old (eased le dear t s.rows c g) (c g) ≡ or_old (cond (le (c g) (y g)) None (Some (y g))) (c g)
  eased_is g h = ap (λ x. or_old (ease le dear t (c g) x) (c g)) (ahead_some t (plan g) c (row_here g h))

  ceiling_is : (g : ℕ) → Within 1 t.grades g → d g ≡ or_old (cond (le (c g) (y g)) None (Some (y g))) (c g)
  ceiling_is g h = applied_grade (eased le dear t s.rows c) t.grades s.ceilings g zero h (omega (arith, r.ceilings_long, t.graded.1)) ∙ eased_is g h

  taken : (g : ℕ) → Within 1 t.grades g → (le (d g) (c g) ≡ true) × ((d g ≡ c g) ⊎ (d g ≡ y g))
  taken g h = taken_cheaper le o l t (y g) (c g) (d g) (ceiling_is g h)

  eased_rule : PlanCeilingRule le t plan d
  eased_rule = ceilings_sink le o l t plan c d k.planned (λ g h. (taken g h).0) (λ g h. ⊎_elim
      (λ e. subst (λ x. le (X t (plan g) c) (times (scaling t) x) ≡ true) (sym e) (k.high g h))
      (λ e. subst (λ x. le (X t (plan g) c) (times (scaling t) x) ≡ true) (sym e) (y_above g h))
      (taken g h).1)

  eased_in : FiguresIn (eased_ceilings le dear t s)
  eased_in = applied_in (eased le dear t s.rows c) t.grades s.ceilings t.graded.1 r.ceilings_long r.ceilings_in (λ g h.
      let old : FigureIn (c g) = r.ceilings_in (g - 1) (omega (arith, h.0, h.1, t.graded.1)) in
      let new : FigureIn (y g) = dear_within le cheap dear laws t (X t (plan g) c) (X-here g h) in
      subst FigureIn (sym (eased_is g h)) (⊎_elim (λ e. subst FigureIn (sym e.1) old) (λ e. subst FigureIn (sym e.1) new) (unless (le (c g) (y g)) (y g) (c g))))

  abbrev least : (g : ℕ) → Within 1 t.grades g → Choice
  least g h = best le cheap dear o l laws t sound (eased_ceilings le dear t s) eased_in g h

  row_is : (g : ℕ) (h : Within 1 t.grades g) → planned g ≡ or_old (cond (le (X t (plan g) d) (least g h).cost) None (Some (least g h).row)) (plan g)
  row_is g h =
      applied_grade (given le dear t s.rows d) t.grades s.rows g 0 h (omega (arith, r.rows_long, t.graded.1))
      ∙ (λ i. or_old (give le dear t (ahead_some t (plan g) d (row_here g h) i) (best_is le cheap dear o l laws t sound (eased_ceilings le dear t s) eased_in g h i)) (plan g))

  row_taken : (g : ℕ) (h : Within 1 t.grades g) → (planned g ≡ plan g) ⊎ ((le (X t (plan g) d) (least g h).cost ≡ false) × (planned g ≡ (least g h).row))
  row_taken g h = ⊎_elim (λ e. inl (row_is g h ∙ e.1)) (λ e. inr (e.0, row_is g h ∙ e.1)) (unless (le (X t (plan g) d) (least g h).cost) (least g h).row (plan g))

  plan_kept : PlanRule t planned
  plan_kept g h = ⊎_elim
      (λ e. subst (RowOf t g) (sym e) (k.planned g h))
      (λ e. subst (RowOf t g) (sym e.1) (best_row le cheap dear o l laws t sound (eased_ceilings le dear t s) eased_in g h))
      (row_taken g h)

  round_rule : PlanCeilingRule le t planned d
  round_rule g h = ⊎_elim
      (λ e. subst (λ j. le (X t j d) (times (scaling t) (d g)) ≡ true) (sym e) (eased_rule g h))
      (λ e.
      let b = least g h in
      let is = (best_cheapest le cheap dear o l laws t sound (eased_ceilings le dear t s) eased_in g h).is in
      let below : le b.cost (times (scaling t) (d g)) ≡ true = o.trans b.cost (X t (plan g) d) (times (scaling t) (d g)) (opposite o (X t (plan g) d) b.cost e.0) (eased_rule g h) in
      subst (λ j. le (X t j d) (times (scaling t) (d g)) ≡ true) (sym e.1) (subst (λ x. le x (times (scaling t) (d g)) ≡ true) is below))
      (row_taken g h)

  pub round_follows : Follows le t s (round_of le dear t s)
  round_follows = record {
    ranged = record {
      rows_long = applied_long (given le dear t s.rows d) t.grades s.rows ∙ r.rows_long;
      floors_long = r.floors_long;
      ceilings_long = applied_long (eased le dear t s.rows c) t.grades s.ceilings ∙ r.ceilings_long;
      floors_in = r.floors_in;
      ceilings_in = eased_in;
    };
    kept = record { planned = plan_kept; low = k.low; high = round_rule };
    nearer = record { floors = λ g h. reflexive o (figure_at s.floors g); ceilings = λ g h. (taken g h).0 };
  }

pub rounds_keep : RoundsKeep
rounds_keep le cheap dear o l laws t sound none s r k = follows_none o t s r k
rounds_keep le cheap dear o l laws t sound (suc n) s r k =
    let after = round_of le dear t s in
    let once = round_follows le cheap dear o l laws t sound s r k in
    follows_then o t s after (rounds le dear t n after).0 once (rounds_keep le cheap dear o l laws t sound n after once.ranged once.kept)
