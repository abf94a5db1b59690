use Rattle.std.proofs.Common.{◌-◌, ◌∙◌, arith}
use Rattle.table.specs.Chains.{first_row}
use Rattle.table.proofs.Walks.{row_chain, row_walk}
use Rattle.table.proofs.table.Table.rows_of.Goals as goal

pub returns : goal.returns
returns c =
    let t = c.args.self.now in
    record { is = c.new.ensures.is ∙ row_chain t (first_row t c.args.g) (t.firsts (c.args.g - 1) (omega arith)).1; within = row_walk t (first_row t c.args.g) (t.firsts (c.args.g - 1) (omega arith)).1; can = c.new.ensures.can }
