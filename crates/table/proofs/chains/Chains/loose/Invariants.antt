use Rattle.std.proofs.Common.{◌≡◌, ◌++◌, length, take}
use Rattle.table.proofs.Tallies.{Counted}
use Rattle.table.proofs.Reaches.{chains}
use Rattle.table.proofs.chains.Chains.loose.Given as goal

abbrev pub invariant-loop-head : goal.invariant-loop-head
invariant-loop-head g l = (length l.marks ≡ g.row.N) × Counted (length l.self.links.now) l.marks (chains g.H.Head.head g.T.Linked.next_link g.T.Linked.none l.self.links.now (take l.head-index l.self.heads.now))

abbrev pub invariant-loop-k : goal.invariant-loop-k
invariant-loop-k g l = (length l.marks ≡ g.row.N) × Counted (length l.self.links.now) l.marks (chains g.H.Head.head g.T.Linked.next_link g.T.Linked.none l.self.links.now (take l.head-index l.self.heads.now) ++ l.yielded)
