use Rattle.std.proofs.Common.{◌≡◌, ◌+◌, ◌-◌, ◌<◌, get_or, take, refl, sym, ap, ◌∙◌, subst, arith}
use Rattle.std.proofs.lemmas.Bool.{not-true, not-false}
use Rattle.std.proofs.lemmas.List.{get_or-take, length-take-le}
use Rattle.rankings.specs.Costs.{Within}
use Rattle.table.specs.Ranges.{row0}
use Rattle.planner.specs.Start.{costs_from, cheapest_among}
use Rattle.planner.proofs.Costs.{costs_next, cheapest_moves, cheapest_stays}
use Rattle.planner.proofs.start.first_cost.Goals as goal
use Rattle.planner.proofs.start.first_cost.Goals.{then-comes_before, else-comes_before}

pub loop-row-preserved : goal.loop-row-preserved
loop-row-preserved g c =
    let t = c.args.table.now in
    let i = c.loop-row.row-index in
    let below : i < t.rows = omega (arith, c.loop-row-test.true, length-take-le t.rows t.row) in
    let x = (get_or t.row i row0).cost in
    let is : (get_or (take t.rows t.row) i row0).cost ≡ x = ap (λ r. r.cost) (get_or-take t.rows t.row i row0 below) in
    let rest = costs_from t (t.rows - (i + 1)) (i + 1 + 1) in
    let first = c.loop-row.first in
    let here = t.rowsin i below in
    let next = costs_next t i (t.rows - i) (t.rows - (i + 1)) (omega arith) in
    elim c.if-comes_before.branch [
      | then-comes_before w ↦ (
        refl,
        subst (Within 100000) (sym (w.first-is ∙ is)) (here.2, here.3),
        λ le h.
            let no = ap (le first) (sym is) ∙ not-true _ (sym (h _ _ _ c.comes_before.ensures) ∙ w.if-comes_before.true) in
            ap (λ b. cheapest_among le b rest) (w.first-is ∙ is) ∙ sym (ap (cheapest_among le first) next ∙ cheapest_moves le first x rest no) ∙ c.loop-row.invariant.2 le h,
      )
      | else-comes_before w ↦ (
        refl,
        subst (Within 100000) (sym w.first-is) c.loop-row.invariant.1,
        λ le h.
            let yes = ap (le first) (sym is) ∙ not-false _ (sym (h _ _ _ c.comes_before.ensures) ∙ w.if-comes_before.false) in
            ap (λ b. cheapest_among le b rest) w.first-is ∙ sym (ap (cheapest_among le first) next ∙ cheapest_stays le first x rest yes) ∙ c.loop-row.invariant.2 le h,
      )
    ]
