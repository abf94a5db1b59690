-- X is in range where figures are, and no dearer where they are no dearer. Assumes nothing.
use Rattle.std.proofs.Common.{◌≡◌, ℕ, ◌+◌, ◌-◌, ◌*◌, ◌^◌, Bool, true, List, [], ◌∷◌, subst, arith}
use Rattle.rankings.specs.Costs.{Cost, plus, times, Within as Sized}
use Rattle.rankings.specs.Laws.{Ordered, Linear}
use Rattle.rankings.proofs.Derived.{adds_left, scales_any}
use Rattle.rankings.proofs.Sizes.{within_more, plus_within, times_within}
use Rattle.table.specs.declared.table.Table.{Table}
use Rattle.table.specs.Ranges.{Within, FiguresIn}
use Rattle.table.specs.Chains.{row_at, arc_at, arcs_of, weights}
use Rattle.table.specs.Lookahead.{figure_at, mean, scaling, X}
use Rattle.table.specs.Sound.{Sound}
use Rattle.table.proofs.Magnitudes.{own_within, later_within, both_within}
use Rattle.planner.proofs.Averages.{Leads, le_mean}
use Rattle.planner.proofs.Figures.{row_leads, row_weighs}

mean_within : (t : Table) (ws : List Cost) → FiguresIn ws → (xs : List ℕ) → Leads t xs → Sized (weights t xs * 10 ^ 10) (mean t (figure_at ws) xs)
mean_within t ws h [] e = (omega arith, omega arith)
mean_within t ws h (x ∷ xs) e =
    let a = (arc_at t x).weight in
    let v = figure_at ws (arc_at t x).destination in
    let here : Sized (10 ^ 10) v = h ((arc_at t x).destination - 1) (omega (arith, t.graded.1, e.0.0, e.0.1)) in
    within_more (a * 10 ^ 10 + weights t xs * 10 ^ 10) ((a + weights t xs) * 10 ^ 10) (plus (times a v) (mean t (figure_at ws) xs)) (omega arith)
    (plus_within (a * 10 ^ 10) (weights t xs * 10 ^ 10) (times a v) (mean t (figure_at ws) xs) (times_within a a (10 ^ 10) v (omega arith) here) (mean_within t ws h xs e.1))

pub X-within : (t : Table) → Sound t → (ws : List Cost) → FiguresIn ws → (k : ℕ) → Within 1 t.rows k → Sized (scaling t * 10 ^ 10) (X t k (figure_at ws))
X-within t s ws h k row =
    let m = mean t (figure_at ws) (arcs_of t k) in
    let sum : Sized (t.total * 10 ^ 10) m = subst (λ j. Sized (j * 10 ^ 10) m) (row_weighs t s k row) (mean_within t ws h (arcs_of t k) (row_leads t k row)) in
    both_within t (times (t.fineness * scaling t) (row_at t k).cost) (times t.numerator m) (own_within t k row) (later_within t m sum)

module _ (le : Cost → Cost → Bool) (o : Ordered le) (l : Linear le) (t : Table) where
  pub X-le : (u v : ℕ → Cost) → ((g : ℕ) → Within 1 t.grades g → le (u g) (v g) ≡ true) → (k : ℕ) → Within 1 t.rows k → le (X t k u) (X t k v) ≡ true
  X-le u v h k row =
      let p = mean t u (arcs_of t k) in
      let q = mean t v (arcs_of t k) in
      adds_left l (times t.numerator p) (times t.numerator q) (times (t.fineness * scaling t) (row_at t k).cost)
      (scales_any o l t.numerator p q (le_mean le o l t u v h (arcs_of t k) (row_leads t k row)))
