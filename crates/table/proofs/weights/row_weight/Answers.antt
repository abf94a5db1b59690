use Rattle.std.proofs.Common.{◌^◌, ◌∙◌, length, subst, sym, ap, arith, rules}
use Rattle.std.proofs.lemmas.Iterator.{YieldsList-from_map}
use Rattle.std.proofs.lemmas.Iterator.Adapters.{serves_from_places}
use Rattle.std.proofs.lemmas.Iterator.Consumers.{YieldsList-from_first, sum_by_from_yields_List, fits_by_from_yields_list}
use Rattle.table.specs.Chains.{arc_at, arcs_of}
use Rattle.table.specs.Walks.{AllIn, arcs_ahead}
use Rattle.table.proofs.Walks.{all_at, sum_weights, row_weights-≤}
use Rattle.table.proofs.weights.row_weight.Goals as goal

pub sum-requires-clause-can : goal.sum-requires-clause-can
sum-requires-clause-can c =
    let t = c.args.table.now in
    let xs = arcs_of t c.args.k in
    let is = ap arcs_ahead c.map.ensures.source ∙ c.arcs_of.ensures.is in (
      subst (λ w. AllIn (length w.links.now) (arcs_ahead w)) (sym c.map.ensures.source) c.arcs_of.ensures.can,
      serves_from_places (YieldsList-from_first (λ x. x) arcs_ahead xs is) (λ x q k. search rules) (λ x i lt at. let here = all_at t.arcs xs i x lt at c.arcs_of.ensures.within in search rules),
    )

pub sum-requires-clause-fits : goal.sum-requires-clause-fits
sum-requires-clause-fits c =
    let t = c.args.table.now in
    let xs = arcs_of t c.args.k in
    let is = ap arcs_ahead c.map.ensures.source ∙ c.arcs_of.ensures.is in
    fits_by_from_yields_list (λ x. (arc_at t x).weight) xs c.map.result (2 ^ 32)
    (YieldsList-from_map _ (λ x. (arc_at t x).weight) (YieldsList-from_first (λ x. x) arcs_ahead xs is) c.map.ensures.closure (λ x r q k. search rules))
    (omega (arith, row_weights-≤ t c.args.k c.arcs_of.ensures.within, sum_weights t xs))

pub returns : goal.returns
returns c =
    let t = c.args.table.now in
    let xs = arcs_of t c.args.k in
    let is = ap arcs_ahead c.map.ensures.source ∙ c.arcs_of.ensures.is in
    sum_by_from_yields_List (λ x. (arc_at t x).weight) xs c.map.result c.sum.result c.sum.ensures.ran
    (YieldsList-from_map _ (λ x. (arc_at t x).weight) (YieldsList-from_first (λ x. x) arcs_ahead xs is) c.map.ensures.closure (λ x r q k. search rules))
    ∙ sum_weights t xs
