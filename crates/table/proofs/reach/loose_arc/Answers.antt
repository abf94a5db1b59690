use Rattle.std.proofs.Common.{length, sym, ◌∙◌, arith}
use Rattle.std.proofs.lemmas.List.{length-take-le}
use Rattle.table.specs.Ranges.{arc0}
use Rattle.table.specs.Faults.{lowest, loose}
use Rattle.table.proofs.Reaches.{chains, arcs_reached}
use Rattle.table.proofs.reach.loose_arc.Goals as goal

pub returns : goal.returns
returns c =
    let t = c.args.table.now in
    let links = c.arc_chains.ensures.links in
    c.loose.ensures
    ∙ (λ i. lowest (loose (chains (λ r. r.first_arc) (λ x. x.next) arc0 (links i) (c.arc_chains.ensures.heads i))) (length (links i)))
    ∙ (λ i. lowest (loose (sym (arcs_reached t) i)) (length-take-le t.arcs t.arc (omega (arith, t.arclong, t.arced.1)) i))
