use Rattle.std.proofs.Common.{refl, rules, tests}
use Rattle.rankings.specs.Costs.{zero}
use Rattle.table.proofs.Copied.{copies}
use Rattle.table.proofs.filing.columns.Goals as goal

pub returns-clause-rows : goal.returns-clause-rows
returns-clause-rows c = copies _ _ (λ l. l.row) 0 refl c.args.lines.now (λ i y q k. search (rules, tests)) c.requires _ c.from_fn-rows.ensures.items

pub returns-clause-floors : goal.returns-clause-floors
returns-clause-floors c = copies _ _ (λ l. l.floor) zero refl c.args.lines.now (λ i y q k. search (rules, tests)) c.requires _ c.from_fn-floors.ensures.items

pub returns-clause-ceilings : goal.returns-clause-ceilings
returns-clause-ceilings c = copies _ _ (λ l. l.ceiling) zero refl c.args.lines.now (λ i y q k. search (rules, tests)) c.requires _ c.from_fn-ceilings.ensures.items
