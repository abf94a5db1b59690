use Rattle.std.proofs.Common.{refl}
use Rattle.table.proofs.Walks.{chain_all}
use Rattle.table.proofs.walk.Walk.new.Goals as goal

pub returns : goal.returns
returns g c =
    let within = chain_all g.T.Linked.next_link g.T.Linked.none c.args.links.now c.args.first c.requires.start c.requires.linked in
    record { is = refl; within = within; can = within }
