use Rattle.std.proofs.Common.{[], ◌++◌, map, length, ap, subst, ◌∙◌, arith}
use Rattle.std.proofs.lemmas.List.{length-map, take_all}
use Rattle.table.proofs.Tallies.{Counted, tally_room, tally_step, off_one}
use Rattle.table.proofs.chains.Chains.mispointed.Goals as goal

pub tally-requires-clause-room : goal.tally-requires-clause-room
tally-requires-clause-room g c =
    let hs = c.args.self.heads.now in
    let i = c.loop-head.head-index in
    let h = c.head-item.result in
    let is = c.head.ensures ∙ ap g.H.Head.head c.head-item.is in
    tally_room g.H.Head.head hs i h (omega arith) [] (length c.args.self.links.now) g.row.N c.requires.room c.loop-head.counts c.loop-head.invariant
    (omega (arith, c.requires.few)) c.head.result (omega (arith, is, c.args.self.headed i h (omega arith)))

pub loop-head-preserved : goal.loop-head-preserved
loop-head-preserved g c =
    let hs = c.args.self.heads.now in
    let i = c.loop-head.head-index in
    let h = c.head-item.result in
    let is = c.head.ensures ∙ ap g.H.Head.head c.head-item.is in
    tally_step g.H.Head.head hs i h (omega arith) [] (length c.args.self.links.now) g.row.N c.requires.room c.loop-head.counts c.loop-head.invariant
    c.head.result c.tally.new.counts is (omega (arith, is, c.args.self.headed i h (omega arith))) c.tally.ensures

pub tally-requires-in-loop-link-clause-room : goal.tally-requires-in-loop-link-clause-room
tally-requires-in-loop-link-clause-room g c =
    let xs = c.args.self.links.now in
    let i = c.loop-link.link-index in
    let x = c.link-item.result in
    let is = c.next_link.ensures ∙ ap g.T.Linked.next_link c.link-item.is in
    tally_room g.T.Linked.next_link xs i x (omega arith) (map g.H.Head.head c.args.self.heads.now) (length xs) g.row.N c.requires.room c.loop-link.counts c.loop-link.invariant
    (omega (arith, c.requires.few, length-map c.args.self.heads.now g.H.Head.head)) c.next_link.result (omega (arith, is, c.args.self.linked i x (omega arith)))

pub loop-link-preserved : goal.loop-link-preserved
loop-link-preserved g c =
    let xs = c.args.self.links.now in
    let i = c.loop-link.link-index in
    let x = c.link-item.result in
    let is = c.next_link.ensures ∙ ap g.T.Linked.next_link c.link-item.is in
    tally_step g.T.Linked.next_link xs i x (omega arith) (map g.H.Head.head c.args.self.heads.now) (length xs) g.row.N c.requires.room c.loop-link.counts c.loop-link.invariant
    c.next_link.result c.tally-in-loop-link.new.counts is (omega (arith, is, c.args.self.linked i x (omega arith))) c.tally-in-loop-link.ensures

pub returns : goal.returns
returns g c =
    let xs = c.args.self.links.now in
    let hs = map g.H.Head.head c.args.self.heads.now in
    let all = subst (λ l. Counted (length xs) c.loop-link.counts (hs ++ map g.T.Linked.next_link l)) (take_all c.loop-link.link-index xs (omega arith)) c.loop-link.invariant.1 in
    c.lowest_off.ensures ∙ off_one all (omega (arith, c.requires.room))
