use Rattle.std.proofs.Common.{◌∷◌, ◌≡◌, ◌-◌, ◌*◌, ◌^◌, sym, ap, subst, ◌∙◌, arith}
use Rattle.rankings.specs.Costs.{Cost, plus, times}
use Rattle.rankings.specs.Algebra.{plus_assoc, zero_plus}
use Rattle.rankings.proofs.Sizes.{within_more, times_within}
use Rattle.table.specs.Chains.{arc_at, weights}
use Rattle.table.specs.Lookahead.{figure_at, mean}
use Rattle.table.specs.Walks.{AllIn, arcs_ahead}
use Rattle.table.proofs.Faultless.{balanced}
use Rattle.table.proofs.Means.{Budget, budget_start, budget_within, budget_step, figure_within}
use Rattle.table.proofs.ahead.weighted_sum.Goals.{In-Some}
use Rattle.table.proofs.ahead.weighted_sum.Goals as goal

pub loop-x-init : goal.loop-x-init
loop-x-init c =
    let t = c.args.sound.now.table in
    let w = figure_at c.args.figures.now.at in
    let is = ap arcs_ahead c.into_iter-x-iterator.ensures.into_iter_gives ∙ c.arcs_of-x-items.ensures.is in (
      subst (AllIn t.arcs) (sym is) c.arcs_of-x-items.ensures.within,
      zero_plus _ ∙ ap (mean t w) is,
      budget_start t.total _ (ap (weights t) is ∙ balanced t c.args.sound.now.faultless c.args.k c.requires),
    )

-- x and what is ahead of it are arcs of the table
all : (c : In-Some) → AllIn c.args.sound.now.table.arcs (c.in-Some.x ∷ arcs_ahead c.next.new.self)
all c = subst (AllIn c.args.sound.now.table.arcs) c.in-Some.ensures.steps c.loop-x.invariant.0

-- the sum with x's arc added, which keeps to what the weights allow
abbrev added : In-Some → Cost
added c =
    let arc = arc_at c.args.sound.now.table c.in-Some.x in
    plus c.loop-x.sum (times arc.weight (figure_at c.args.figures.now.at arc.destination))

next : (c : In-Some) → Budget c.args.sound.now.table.total (weights c.args.sound.now.table (arcs_ahead c.next.new.self)) (added c)
next c =
    let t = c.args.sound.now.table in
    budget_step t c.args.figures.now.at c.args.figures.now.within c.in-Some.x (all c).0 c.loop-x.sum _ (subst (λ xs. Budget t.total (weights t xs) c.loop-x.sum) c.in-Some.ensures.steps c.loop-x.invariant.2)

pub scale-requires : goal.scale-requires
scale-requires c =
    let t = c.args.sound.now.table in
    let x = c.in-Some.x in
    let ws = c.args.figures.now.at in
    let here = (all (goal.at.scale-requires c).In-Some).0 in
    let arc = t.arcsin (x - 1) (omega (arith, here.0, here.1)) in
    within_more (1000 * 10 ^ 10) (10 ^ 16) (times (arc_at t x).weight (figure_at ws (arc_at t x).destination)) (omega arith)
    (times_within (arc_at t x).weight 1000 (10 ^ 10) (figure_at ws (arc_at t x).destination) (omega (arith, t.weighed.1))
    (figure_within t ws c.args.figures.now.within x here))

pub add-sum-requires : goal.add-sum-requires
add-sum-requires c =
    let t = c.args.sound.now.table in
    let at = (goal.at.add-sum-requires c).In-Some in
    rw c.scale.ensures.is (within_more (t.total * 10 ^ 10) (10 ^ 16) (added at) (omega (arith, t.weighed.1)) (budget_within t.total _ (added at) (next at)))

pub loop-x-preserved : goal.loop-x-preserved
loop-x-preserved c =
    let t = c.args.sound.now.table in
    let x = c.in-Some.x in
    let w = figure_at c.args.figures.now.at in
    let rest = arcs_ahead c.next.new.self in
    let sum : c.add-sum.result ≡ plus c.loop-x.sum (times (arc_at t x).weight (w (arc_at t x).destination)) = c.add-sum.ensures.is ∙ ap (plus c.loop-x.sum) c.scale.ensures.is in (
      (all (goal.at.loop-x-preserved c).In-Some).1,
      ap (λ s. plus s (mean t w rest)) sum
          ∙ plus_assoc c.loop-x.sum (times (arc_at t x).weight (w (arc_at t x).destination)) (mean t w rest)
          ∙ ap (λ l. plus c.loop-x.sum (mean t w l)) (sym c.in-Some.ensures.steps)
          ∙ c.loop-x.invariant.1,
      subst (Budget t.total (weights t rest)) (sym sum) (next (goal.at.loop-x-preserved c).In-Some),
    )
