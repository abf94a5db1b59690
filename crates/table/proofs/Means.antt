-- A sum of weighted figures stays within what the weights allow. Assumes nothing.
use Rattle.std.proofs.Common.{◌≡◌, ℕ, ◌+◌, ◌-◌, ◌*◌, ◌^◌, ◌≤◌, List, ◌∷◌, nat_abs, refl, arith}
use Rattle.rankings.specs.Costs.{Cost, Within, plus, times, zero}
use Rattle.rankings.proofs.Sizes.{plus_within, times_within}
use Rattle.table.specs.declared.table.Table.{Table}
use Rattle.table.specs.Ranges.{Within as Between, FiguresIn}
use Rattle.table.specs.Chains.{arc_at, weights}
use Rattle.table.specs.Lookahead.{figure_at}

-- with the weights that are left at the largest figure, a cost keeps to the whole weight at that figure
pub record Budget (total left : ℕ) (c : Cost) : Type 0 where
  pub first : nat_abs c.0 + left * 10 ^ 10 ≤ total * 10 ^ 10
  pub second : nat_abs c.1 + left * 10 ^ 10 ≤ total * 10 ^ 10

pub budget_start : (total left : ℕ) → left ≡ total → Budget total left zero
budget_start total left e = record { first = omega arith; second = omega arith }

pub budget_more : (total left weight rest : ℕ) (c v : Cost) → Budget total left c → left ≡ weight + rest → Within (10 ^ 10) v → Budget total rest (plus c (times weight v))
budget_more total left weight rest c v b e h =
    let s = plus_within (nat_abs c.0) (weight * 10 ^ 10) (c.0, c.0) (times weight v) (omega arith, omega arith) (times_within weight weight (10 ^ 10) v (omega arith) h) in
    let t = plus_within (nat_abs c.1) (weight * 10 ^ 10) (c.1, c.1) (times weight v) (omega arith, omega arith) (times_within weight weight (10 ^ 10) v (omega arith) h) in
    record { first = omega (arith, b.first, s.0); second = omega (arith, b.second, t.1) }

pub budget_within : (total left : ℕ) (c : Cost) → Budget total left c → Within (total * 10 ^ 10) c
budget_within total left c b = (omega (arith, b.first), omega (arith, b.second))

-- one arc more is added
module _ (t : Table) (ws : List Cost) (figures : FiguresIn ws) (x : ℕ) (here : Between 1 t.arcs x) where
  pub figure_within : Within (10 ^ 10) (figure_at ws (arc_at t x).destination)
  figure_within = let arc = t.arcsin (x - 1) (omega (arith, here.0, here.1)) in figures ((arc_at t x).destination - 1) (omega (arith, t.graded.1))

  pub budget_step : (sum : Cost) (xs : List ℕ) → Budget t.total (weights t (x ∷ xs)) sum → Budget t.total (weights t xs) (plus sum (times (arc_at t x).weight (figure_at ws (arc_at t x).destination)))
  budget_step sum xs b = budget_more t.total _ (arc_at t x).weight _ sum (figure_at ws (arc_at t x).destination) b refl figure_within
