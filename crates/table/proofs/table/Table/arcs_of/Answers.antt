use Rattle.std.proofs.Common.{◌-◌, ◌∙◌, arith}
use Rattle.table.specs.Chains.{row_at}
use Rattle.table.proofs.Walks.{arc_chain, arc_walk}
use Rattle.table.proofs.table.Table.arcs_of.Goals as goal

pub returns : goal.returns
returns c =
    let t = c.args.self.now in
    record { is = c.new.ensures.is ∙ arc_chain t (row_at t c.args.k).first_arc (t.rowsin (c.args.k - 1) (omega arith)).1.1; within = arc_walk t (row_at t c.args.k).first_arc (t.rowsin (c.args.k - 1) (omega arith)).1.1; can = c.new.ensures.can }
