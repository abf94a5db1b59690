use Rattle.std.proofs.Common.{◌++◌, map, take, length, ◌∙◌, arith}
use Rattle.std.proofs.lemmas.List.{map-id, length-take-le}
use Rattle.table.specs.Faults.{lowest, mispointed}
use Rattle.table.proofs.pointers.mispointed_row.Goals as goal

pub returns : goal.returns
returns c =
    let t = c.args.table.now in
    let nexts = map (λ r. r.next) (take t.rows t.row) in
    c.mispointed.ensures
    ∙ (λ i. lowest (mispointed (map (λ k. k) (c.row_chains.ensures.heads i) ++ map (λ r. r.next) (c.row_chains.ensures.links i))) (length (c.row_chains.ensures.links i)))
    ∙ (λ i. lowest (mispointed (map-id (take t.grades t.first_row) i ++ nexts)) (length-take-le t.rows t.row (omega (arith, t.rowlong, t.rowed.1)) i))
