-- One sweep keeps the rules. Assumes nothing.
use Rattle.std.proofs.Common.{◌≡◌, ℕ, ◌-◌, ◌*◌, ◌^◌, Bool, true, false, cond, ◌⊎◌, List, Some, None, sym, ap, ◌∙◌, subst, inl, inr, ⊎_elim, arith}
use Rattle.std.specs.Option.{option_map}
use Rattle.std.proofs.lemmas.Bool.{cases_Bool, cond-true, cond-false}
use Rattle.rankings.specs.Costs.{Cost, times, zero, Within as Sized}
use Rattle.rankings.specs.Laws.{Ordered, Linear, Rounds}
use Rattle.rankings.proofs.Derived.{reflexive, opposite}
use Rattle.table.specs.declared.table.Table.{Table}
use Rattle.table.specs.Ranges.{Within, FigureIn, FiguresIn}
use Rattle.table.specs.Chains.{rows_of}
use Rattle.table.specs.Lookahead.{figure_at, scaling, X}
use Rattle.table.specs.Rules.{has, plan_row}
use Rattle.table.specs.Sound.{Sound}
use Rattle.table.specs.Kept.{RowOf, PlanRule, FloorRule, PlanCeilingRule}
use Rattle.table.proofs.Keeping.{row_in, row_walked, walked_row}
use Rattle.table.proofs.Magnitudes.{scaling-≤, scaling_some, scaled_modest}
use Rattle.planner.specs.declared.choice.Choice.{Choice}
use Rattle.planner.specs.Choices.{cheapest_row, Cheapest}
use Rattle.planner.specs.Sweeps.{Shown, raise, lower, raised, lowered, lowered_row, lowered_cost, sweep_of}
use Rattle.planner.specs.Keeping.{ShownKept, InRange, Follows}
use Rattle.planner.proofs.Ahead.{X-within}
use Rattle.planner.proofs.Leasts.{found, has_middle}
use Rattle.planner.proofs.Replacing.{or_old, applied_long, applied_grade, applied_in}
use Rattle.planner.proofs.Roundings.{cheap_within, dear_within}
use Rattle.planner.proofs.Steps.{taken_dearer, unless, floors_rise, ceilings_sink}

module _ (le : Cost → Cost → Bool) (cheap dear : Cost → ℕ → Cost) (o : Ordered le) (l : Linear le) (laws : Rounds le cheap dear) (t : Table) (sound : Sound t) where
  -- the cheapest row of a grade is one of its rows, and what it costs is in range
  module _ (ws : List Cost) (within : FiguresIn ws) (g : ℕ) (h : Within 1 t.grades g) where
    abbrev pub best : Choice
    best = (found o t (figure_at ws) g h).choice

    pub best_is : cheapest_row le t (figure_at ws) g ≡ Some best
    best_is = (found o t (figure_at ws) g h).is

    pub best_cheapest : Cheapest le t (figure_at ws) (rows_of t g) best
    best_cheapest = (found o t (figure_at ws) g h).cheapest

    pub best_row : RowOf t g best.row
    best_row = walked_row t sound g best.row h (subst (λ l. has best.row l ≡ true) (sym best_cheapest.split) (has_middle best.row best_cheapest.before best_cheapest.after))

    pub best_within : Sized (scaling t * 10 ^ 10) best.cost
    best_within = subst (Sized (scaling t * 10 ^ 10)) (sym best_cheapest.is) (X-within t sound ws within best.row (row_in t g best.row best_row))

    pub best_least : (k : ℕ) → RowOf t g k → le best.cost (X t k (figure_at ws)) ≡ true
    best_least k r = best_cheapest.least k (row_walked t sound g k r)

    pub cheap_below : le (times (scaling t) (cheap best.cost (scaling t))) best.cost ≡ true
    cheap_below = laws.cheap_below best.cost (scaling t) (scaling_some t) (scaling-≤ t) (scaled_modest t best.cost best_within)

    pub dear_above : le best.cost (times (scaling t) (dear best.cost (scaling t))) ≡ true
    dear_above = laws.dear_above best.cost (scaling t) (scaling_some t) (scaling-≤ t) (scaled_modest t best.cost best_within)

  module _ (s : Shown) (r : InRange s) where
    abbrev pub w : ℕ → Cost
    w = figure_at s.floors

    abbrev pub v : ℕ → Cost
    v = figure_at (sweep_of le cheap dear t s).floors

    abbrev pub z : (g : ℕ) → Within 1 t.grades g → Cost
    z g h = cheap (best s.floors r.floors_in g h).cost (scaling t)

    floor_is : (g : ℕ) (h : Within 1 t.grades g) → v g ≡ or_old (cond (le (z g h) (w g)) None (Some (z g h))) (w g)
    floor_is g h =
        applied_grade (raised le cheap dear t w) t.grades s.floors g zero h (omega (arith, r.floors_long, t.graded.1))
        ∙ ap (λ x. or_old (raise le cheap dear t (w g) x) (w g)) (best_is s.floors r.floors_in g h)

    floor_taken : (g : ℕ) (h : Within 1 t.grades g) → (le (w g) (v g) ≡ true) × ((v g ≡ w g) ⊎ (v g ≡ z g h))
    floor_taken g h = taken_dearer le o l t (z g h) (w g) (v g) (floor_is g h)

    pub swept_floors : FloorRule le t w → FloorRule le t v
    swept_floors rule = floors_rise le o l t w v (λ g h. (floor_taken g h).0) (λ g k row.
        let h = row.grade in
        let b = best s.floors r.floors_in g h in
        ⊎_elim
        (λ e. subst (λ x. le (times (scaling t) x) (X t k w) ≡ true) (sym e) (rule g k row))
        (λ e. subst (λ x. le (times (scaling t) x) (X t k w) ≡ true) (sym e)
        (o.trans (times (scaling t) (z g h)) b.cost (X t k w) (cheap_below s.floors r.floors_in g h) (best_least s.floors r.floors_in g h k row)))
        (floor_taken g h).1)

    pub floors_up : (g : ℕ) → Within 1 t.grades g → le (w g) (v g) ≡ true
    floors_up g h = (floor_taken g h).0

    pub floors_in : FiguresIn (sweep_of le cheap dear t s).floors
    floors_in = applied_in (raised le cheap dear t w) t.grades s.floors t.graded.1 r.floors_long r.floors_in (λ g h.
        let old : FigureIn (w g) = r.floors_in _ (omega (arith, h.0, h.1, t.graded.1)) in
        let new : FigureIn (z g h) = cheap_within le cheap dear laws t (best s.floors r.floors_in g h).cost (best_within s.floors r.floors_in g h) in
        let is = ap (λ x. or_old (raise le cheap dear t (w g) x) (w g)) (best_is s.floors r.floors_in g h) in
        subst FigureIn (sym is) (⊎_elim (λ e. subst FigureIn (sym e.1) old) (λ e. subst FigureIn (sym e.1) new) (unless (le (z g h) (w g)) (z g h) (w g))))

-- ceilings and plan rows
module _ (le : Cost → Cost → Bool) (cheap dear : Cost → ℕ → Cost) (o : Ordered le) (l : Linear le) (laws : Rounds le cheap dear) (t : Table) (sound : Sound t) (s : Shown) (r : InRange s) where
  abbrev pub c : ℕ → Cost
  c = figure_at s.ceilings

  abbrev pub d : ℕ → Cost
  d = figure_at (sweep_of le cheap dear t s).ceilings

  abbrev pub plan : ℕ → ℕ
  plan = plan_row s.rows

  abbrev pub planned : ℕ → ℕ
  planned = plan_row (sweep_of le cheap dear t s).rows

  abbrev pub least : (g : ℕ) → Within 1 t.grades g → Choice
  least g h = best le cheap dear o l laws t sound s.ceilings r.ceilings_in g h

  abbrev pub y : (g : ℕ) → Within 1 t.grades g → Cost
  y g h = dear (least g h).cost (scaling t)

  lowered_is : (g : ℕ) (h : Within 1 t.grades g) → lowered le cheap dear t c g ≡ cond (le (c g) (y g h)) None (Some (record { row = (least g h).row; cost = y g h }))
  lowered_is g h = ap (lower le cheap dear t (c g)) (best_is le cheap dear o l laws t sound s.ceilings r.ceilings_in g h)

  -- a grade's ceiling and row stay together, or are replaced together
  pub ceiling_taken : (g : ℕ) (h : Within 1 t.grades g) →
      ((le (c g) (y g h) ≡ true) × (d g ≡ c g) × (planned g ≡ plan g)) ⊎ ((le (c g) (y g h) ≡ false) × (d g ≡ y g h) × (planned g ≡ (least g h).row))
  ceiling_taken g h =
      let at = applied_grade (lowered_cost le cheap dear t c) t.grades s.ceilings g zero h (omega (arith, r.ceilings_long, t.graded.1)) in
      let row = applied_grade (lowered_row le cheap dear t c) t.grades s.rows g 0 h (omega (arith, r.rows_long, t.graded.1)) in
      let new : Choice = record { row = (least g h).row; cost = y g h } in
      ⊎_elim
      (λ e.
      let none = lowered_is g h ∙ cond-true (le (c g) (y g h)) None (Some new) e in
      inl (e, at ∙ ap (λ x. or_old (option_map (λ q. q.cost) x) (c g)) none, row ∙ ap (λ x. or_old (option_map (λ q. q.row) x) (plan g)) none))
      (λ e.
      let some = lowered_is g h ∙ cond-false (le (c g) (y g h)) None (Some new) e in
      inr (e, at ∙ ap (λ x. or_old (option_map (λ q. q.cost) x) (c g)) some, row ∙ ap (λ x. or_old (option_map (λ q. q.row) x) (plan g)) some))
      (cases_Bool (le (c g) (y g h)))

  pub ceilings_down : (g : ℕ) → Within 1 t.grades g → le (d g) (c g) ≡ true
  ceilings_down g h = ⊎_elim
      (λ e. subst (λ x. le x (c g) ≡ true) (sym e.1) (reflexive o (c g)))
      (λ e. subst (λ x. le x (c g) ≡ true) (sym e.1) (opposite o (c g) (y g h) e.0))
      (ceiling_taken g h)

  pub plan_kept : PlanRule t plan → PlanRule t planned
  plan_kept rule g h = ⊎_elim
      (λ e. subst (RowOf t g) (sym e.2) (rule g h))
      (λ e. subst (RowOf t g) (sym e.2) (best_row le cheap dear o l laws t sound s.ceilings r.ceilings_in g h))
      (ceiling_taken g h)

  pub swept_ceilings : PlanRule t plan → PlanCeilingRule le t plan c → PlanCeilingRule le t planned d
  swept_ceilings rows rule = ceilings_sink le o l t planned c d (plan_kept rows) ceilings_down (λ g h. ⊎_elim
      (λ e. subst (λ k. le (X t k c) (times (scaling t) (d g)) ≡ true) (sym e.2) (subst (λ x. le (X t (plan g) c) (times (scaling t) x) ≡ true) (sym e.1) (rule g h)))
      (λ e.
      let b = least g h in
      let above = subst (λ x. le x (times (scaling t) (y g h)) ≡ true) (best_cheapest le cheap dear o l laws t sound s.ceilings r.ceilings_in g h).is (dear_above le cheap dear o l laws t sound s.ceilings r.ceilings_in g h) in
      subst (λ k. le (X t k c) (times (scaling t) (d g)) ≡ true) (sym e.2) (subst (λ x. le (X t b.row c) (times (scaling t) x) ≡ true) (sym e.1) above))
      (ceiling_taken g h))

  pub swept_ceilings_in : FiguresIn (sweep_of le cheap dear t s).ceilings
  swept_ceilings_in = applied_in (lowered_cost le cheap dear t c) t.grades s.ceilings t.graded.1 r.ceilings_long r.ceilings_in (λ g h.
      let old : FigureIn (c g) = r.ceilings_in (g - 1) (omega (arith, h.0, h.1, t.graded.1)) in
      let new : FigureIn (y g h) = dear_within le cheap dear laws t (least g h).cost (best_within le cheap dear o l laws t sound s.ceilings r.ceilings_in g h) in
      let at = applied_grade (lowered_cost le cheap dear t c) t.grades s.ceilings g zero h (omega (arith, r.ceilings_long, t.graded.1)) in
      subst FigureIn at (⊎_elim (λ e. subst FigureIn (sym e.1) old) (λ e. subst FigureIn (sym e.1) new) (ceiling_taken g h)))

  -- one sweep
  pub sweep_follows : ShownKept le t s → Follows le t s (sweep_of le cheap dear t s)
  sweep_follows k = record {
    ranged = record {
      rows_long = applied_long (lowered_row le cheap dear t c) t.grades s.rows ∙ r.rows_long;
      floors_long = applied_long (raised le cheap dear t (figure_at s.floors)) t.grades s.floors ∙ r.floors_long;
      ceilings_long = applied_long (lowered_cost le cheap dear t c) t.grades s.ceilings ∙ r.ceilings_long;
      floors_in = floors_in le cheap dear o l laws t sound s r;
      ceilings_in = swept_ceilings_in;
    };
    kept = record { planned = plan_kept k.planned; low = swept_floors le cheap dear o l laws t sound s r k.low; high = swept_ceilings k.planned k.high };
    nearer = record { floors = floors_up le cheap dear o l laws t sound s r; ceilings = ceilings_down };
  }
