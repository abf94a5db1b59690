use Rattle.std.proofs.Common.{◌≡◌, ℕ, ◌*◌, ◌^◌, ◌<◌, ◌≤◌, get_or, replicate, sym, refl, ap, ◌∙◌, subst, mul-le-mul, arith, rules}
use Rattle.std.proofs.lemmas.List.{get_or-replicate}
use Rattle.rankings.specs.Costs.{Cost, Within, times, zero}
use Rattle.rankings.proofs.Sizes.{within_more, times_within}
use Rattle.table.specs.declared.table.Table.{Table}
use Rattle.table.proofs.Soundness.{sound_table}
use Rattle.planner.specs.Keeping.{ShownKept}
use Rattle.planner.specs.Start.{start_of, start_figure, row_costs}
use Rattle.planner.specs.Sweeps.{Shown}
use Rattle.planner.proofs.Candidates.{extremes, dearest_flipped}
use Rattle.planner.proofs.StartSteps.{start_keeps}
use Rattle.planner.proofs.start.start_page.Goals as goal

-- q · b times a row's cost is a figure in range
start-within : (t : Table) (c : Cost) → Within 100000 c → Within (10 ^ 10) (times (t.fineness * t.denominator) c)
start-within t c h =
    let unit : t.fineness * t.denominator ≤ 100 * 1000 = mul-le-mul t.fine.1 t.discounted.1 in
    times_within (t.fineness * t.denominator) (100 * 1000) 100000 c unit h

every : (w : Cost) → Within (10 ^ 10) w → (i : ℕ) → i < 32 → Within (10 ^ 10) (get_or (replicate 32 w) i zero)
every w h i lt = rw (get_or-replicate 32 i w zero lt) h

pub scale-floors-requires : goal.scale-floors-requires
scale-floors-requires g c =
    let t = c.args.sound.now.table in
    let x = c.first_cost-cheapest.result in
    within_more (10 ^ 10) (10 ^ 16) (times (t.fineness * t.denominator) x) (omega arith) (start-within t x c.first_cost-cheapest.ensures.within)

pub scale-ceilings-requires : goal.scale-ceilings-requires
scale-ceilings-requires g c =
    let t = c.args.sound.now.table in
    let x = c.first_cost-dearest.result in
    within_more (10 ^ 10) (10 ^ 16) (times (t.fineness * t.denominator) x) (omega arith) (start-within t x c.first_cost-dearest.ensures.within)

pub invariant_of-figures : goal.invariant_of-figures
invariant_of-figures g c = record { within = every c.scale-floors.result (rw c.scale-floors.ensures.is (start-within c.args.sound.now.table c.first_cost-cheapest.result c.first_cost-cheapest.ensures.within)); long = refl }

pub invariant_of-figures-2 : goal.invariant_of-figures-2
invariant_of-figures-2 g c = record { within = every c.scale-ceilings.result (rw c.scale-ceilings.ensures.is (start-within c.args.sound.now.table c.first_cost-dearest.result c.first_cost-dearest.ensures.within)); long = refl }

pub returns : goal.returns
returns g c =
    let s = c.args.ranking.now in
    let t = c.args.sound.now.table in
    let le = g.R.Ranking.ranks s in
    let low = c.scale-floors.ensures.is ∙ ap (start_figure t) (c.first_cost-cheapest.ensures.is le (λ a b r p. search rules)) in
    let high = c.scale-ceilings.ensures.is ∙ ap (start_figure t) (c.first_cost-dearest.ensures.is (λ a b. le b a) (λ a b r p. search rules) ∙ sym (dearest_flipped le zero (row_costs t))) in
    let start : ◌≡◌ {A = Shown} (record { rows = t.first_row; floors = replicate 32 c.scale-floors.result; ceilings = replicate 32 c.scale-ceilings.result }) (start_of le t) =
    (λ i. record { rows = t.first_row; floors = replicate 32 (low i); ceilings = replicate 32 (high i) }) in
    record { table = refl; start = record { rows = refl; floors = ap (replicate 32) low; ceilings = ap (replicate 32) high }; extremes = extremes le (g.met.R.Ranking.ordered s) t; keeps = subst (ShownKept le t) (sym start) (start_keeps le (g.met.R.Ranking.ordered s) (g.met.R.Ranking.linear s) t (sound_table c.args.sound.now)) }
