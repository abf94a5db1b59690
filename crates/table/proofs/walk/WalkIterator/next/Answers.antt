use Rattle.std.proofs.Common.{◌∷◌, ◌-◌, length, get_or, ap, ◌∙◌, sym, subst, arith, rules}
use Rattle.std.proofs.lemmas.List.{get_or_read}
use Rattle.table.specs.Walks.{ahead, AllIn}
use Rattle.table.proofs.Walks.{walk_in}
use Rattle.table.proofs.walk.WalkIterator.next.Goals as goal

pub returns-clause-steps : goal.returns-clause-steps
returns-clause-steps g c =
    let s = c.args.self.now in
    let next = g.T.Linked.next_link in
    let none = g.T.Linked.none in
    let step = walk_in (λ k. next (get_or s.links.now (k - 1) none)) s.at s.left (s.left - 1) (omega arith) (omega arith) in
    let here = (subst (AllIn (length s.links.now)) step c.requires).0 in
    let read = get_or_read s.links.now (s.at - 1) c.index-self-here.result (omega arith) c.index-self-here.is none in
    step ∙ ap (λ k. s.at ∷ ahead next none (record s { at = k; left = s.left - 1 })) (sym (c.next_link-self.ensures ∙ ap next (sym c.index-self-here.is ∙ read)))

pub returns-clause-goes : goal.returns-clause-goes
returns-clause-goes g c =
    let steps = returns-clause-steps g c in
    let rest = (subst (AllIn (length c.args.self.now.links.now)) steps c.requires).1 in
    let shorter = ap length steps in
    search rules
