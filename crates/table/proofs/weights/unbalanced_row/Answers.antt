use Rattle.std.proofs.Common.{sym, ◌∙◌, rules, tests}
use Rattle.std.proofs.lemmas.Iterator.Adapters.{option_map_id}
use Rattle.std.proofs.lemmas.Iterator.Search.{find_from_yields_List}
use Rattle.table.specs.Faults.{unbalanced}
use Rattle.table.proofs.Searches.{one_to, lowest_find}
use Rattle.table.proofs.weights.unbalanced_row.Goals as goal

pub returns : goal.returns
returns c =
    let t = c.args.table.now in
    sym (option_map_id c.find.result) ∙ find_from_yields_List (unbalanced t) c.find.new.self _ c.find.result c.find.ensures.ran (one_to c.new.result t.rows c.new.ensures.start c.new.ensures.end c.new.ensures.exhausted) (λ x b q k. search (rules, tests)) ∙ lowest_find (unbalanced t) t.rows 1
