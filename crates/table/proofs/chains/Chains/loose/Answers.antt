use Rattle.std.proofs.Common.{◌<◌, ap, ◌∙◌, subst, length, arith}
use Rattle.std.proofs.lemmas.List.{take_all}
use Rattle.table.specs.Ranges.{Within}
use Rattle.table.specs.Walks.{chain_from}
use Rattle.table.proofs.Walks.{walk_turn, walk_done}
use Rattle.table.proofs.Tallies.{Counted, off_none}
use Rattle.table.proofs.Reaches.{chains, chains-≤, mark_room, mark_step, mark_end}
use Rattle.table.proofs.chains.Chains.loose.Given.{Over}
use Rattle.table.proofs.chains.Chains.loose.Goals.{In-Some}
use Rattle.table.proofs.chains.Chains.loose.Goals as goal

-- the chain that is followed gives one number more
turn : (g : Over) (c : In-Some g) → (length c.loop-k.yielded < length (chain_from g.T.Linked.next_link g.T.Linked.none c.args.self.links.now c.head.result)) × Within 1 (length c.args.self.links.now) c.in-Some.k
turn g c =
    let next = g.T.Linked.next_link in
    let none = g.T.Linked.none in
    let links = c.args.self.links.now in
    walk_turn next none (length links) (chain_from next none links c.head.result) c.new-k-items.result c.new-k-items.ensures c.into_iter-k-iterator.result c.into_iter-k-iterator.ensures.into_iter_gives
    c.loop-k.yielded c.loop-k.k-iterator c.loop-k.yielded_by c.next.result c.next.new.self c.in-Some.k c.in-Some.is c.next.ensures.steps

pub tally-requires-clause-inside : goal.tally-requires-clause-inside
tally-requires-clause-inside g c = omega (arith, c.requires.room, c.loop-k.invariant.0, (turn g (goal.at.tally-requires-clause-inside g c).In-Some).1.1)

pub tally-requires-clause-room : goal.tally-requires-clause-room
tally-requires-clause-room g c =
    let more = turn g (goal.at.tally-requires-clause-room g c).In-Some in
    mark_room g.H.Head.head g.T.Linked.next_link g.T.Linked.none c.args.self.links.now c.args.self.heads.now c.loop-head.head-index c.head-item.result (omega arith) c.head.result (c.head.ensures ∙ ap g.H.Head.head c.head-item.is)
    c.requires.few g.row.N c.requires.room c.loop-k.marks c.loop-k.yielded c.loop-k.invariant more.0 c.in-Some.k more.1.1

pub loop-k-preserved : goal.loop-k-preserved
loop-k-preserved g c =
    mark_step g.H.Head.head g.T.Linked.next_link g.T.Linked.none c.args.self.links.now c.args.self.heads.now c.loop-head.head-index c.head-item.result (omega arith) c.head.result (c.head.ensures ∙ ap g.H.Head.head c.head-item.is)
    c.requires.few g.row.N c.requires.room c.loop-k.marks c.loop-k.yielded c.loop-k.invariant c.in-Some.k c.tally.new.counts (turn g (goal.at.loop-k-preserved g c).In-Some).1.1 c.tally.ensures

pub loop-head-preserved : goal.loop-head-preserved
loop-head-preserved g c =
    let next = g.T.Linked.next_link in
    let none = g.T.Linked.none in
    let links = c.args.self.links.now in
    let chain = chain_from next none links c.head.result in
    mark_end g.H.Head.head next none links c.args.self.heads.now c.loop-head.head-index c.head-item.result (omega arith) c.head.result (c.head.ensures ∙ ap g.H.Head.head c.head-item.is) c.requires.few
    g.row.N c.requires.room c.loop-k.marks c.loop-k.yielded c.loop-k.invariant
    (walk_done next none (length links) chain c.new-k-items.result c.new-k-items.ensures c.into_iter-k-iterator.result c.into_iter-k-iterator.ensures.into_iter_gives
    c.loop-k.yielded c.loop-k.k-iterator c.loop-k.yielded_by c.next.result c.next.new.self c.in-None.is c.next.ensures.steps)

pub returns : goal.returns
returns g c =
    let head = g.H.Head.head in
    let next = g.T.Linked.next_link in
    let none = g.T.Linked.none in
    let links = c.args.self.links.now in
    let hs = c.args.self.heads.now in
    let all = subst (λ l. Counted (length links) c.loop-head.marks (chains head next none links l)) (take_all c.loop-head.head-index hs (omega arith)) c.loop-head.invariant.1 in
    c.lowest_off.ensures ∙ off_none all (omega (arith, c.requires.room)) (omega (arith, c.requires.few, chains-≤ head next none links hs))
