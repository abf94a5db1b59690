use Rattle.std.proofs.Common.{eqb, ◌∙◌, rules, tests}
use Rattle.std.proofs.lemmas.Iterator.Consumers.{YieldsList-from_first}
use Rattle.std.proofs.lemmas.Iterator.Search.{any_from_yields_List}
use Rattle.table.specs.Chains.{rows_of}
use Rattle.table.specs.Walks.{rows_ahead}
use Rattle.table.proofs.Walks.{any_has}
use Rattle.table.proofs.grade.Grade.has_row.Goals as goal

pub returns : goal.returns
returns c =
    let rows = rows_of c.args.self.sound.now.table c.args.self.number in
    any_from_yields_List (λ x. eqb x c.args.k) c.any.new.self _ _ c.any.ensures.ran (YieldsList-from_first (λ x. x) rows_ahead rows c.rows.ensures.is) (λ x b q k. search (rules, tests))
    ∙ any_has c.args.k rows
