use Rattle.std.proofs.Common.{◌≡◌, ◌+◌, true, false, option_map, ◌∙◌, arith, rules, tests}
use Rattle.std.proofs.lemmas.Bool.Decides.{nat_tests}
use Rattle.std.proofs.lemmas.Iterator.{YieldsList-from_slice, IsFirst-from_position}
use Rattle.table.specs.Faults.{outside}
use Rattle.table.proofs.Searches.{lowest_place, off, outside_off}
use Rattle.table.proofs.counts.lowest_off.Goals as goal

pub returns : goal.returns
returns c =
    let cs = c.args.counts.now in
    let test = off c.args.least c.args.most in
    let numbered : c.map.result ≡ option_map (λ i. i + 1) c.position-off.result = search rules in
    numbered ∙ lowest_place test 0 (outside c.args.least c.args.most cs) cs (λ i h. outside_off c.args.least c.args.most cs i) c.position-off.result
    (IsFirst-from_position c.position-off.new.self _ c.position-off.result (λ n. test n ≡ true) (λ n. test n ≡ false) c.position-off.ensures.ran (YieldsList-from_slice cs cc) (λ x q k. grind (arith, nat_tests)) (λ x q k. search (rules, tests)))
