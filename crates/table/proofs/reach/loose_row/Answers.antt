use Rattle.std.proofs.Common.{length, sym, ◌∙◌, arith}
use Rattle.std.proofs.lemmas.List.{length-take-le}
use Rattle.table.specs.Ranges.{row0}
use Rattle.table.specs.Faults.{lowest, loose}
use Rattle.table.proofs.Reaches.{chains, rows_reached}
use Rattle.table.proofs.reach.loose_row.Goals as goal

pub returns : goal.returns
returns c =
    let t = c.args.table.now in
    let links = c.row_chains.ensures.links in
    c.loose.ensures
    ∙ (λ i. lowest (loose (chains (λ k. k) (λ r. r.next) row0 (links i) (c.row_chains.ensures.heads i))) (length (links i)))
    ∙ (λ i. lowest (loose (sym (rows_reached t) i)) (length-take-le t.rows t.row (omega (arith, t.rowlong, t.rowed.1)) i))
