use Rattle.std.proofs.Common.{◌≡◌, ◌++◌, map, length, take}
use Rattle.table.proofs.Tallies.{Counted}
use Rattle.table.proofs.chains.Chains.mispointed.Given as goal

abbrev pub invariant-loop-head : goal.invariant-loop-head
invariant-loop-head g l = (length l.counts ≡ g.row.N) × Counted (length l.self.links.now) l.counts (map g.H.Head.head (take l.head-index l.self.heads.now))

abbrev pub invariant-loop-link : goal.invariant-loop-link
invariant-loop-link g l = (length l.counts ≡ g.row.N) × Counted (length l.self.links.now) l.counts (map g.H.Head.head l.self.heads.now ++ map g.T.Linked.next_link (take l.link-index l.self.links.now))
