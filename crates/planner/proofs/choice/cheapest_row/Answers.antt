use Rattle.std.proofs.Common.{rules}
use Rattle.table.specs.Lookahead.{figure_at}
use Rattle.planner.proofs.Leasts.{told}
use Rattle.planner.proofs.choice.cheapest_row.Goals as goal

pub returns-clause-cheapest : goal.returns-clause-cheapest
returns-clause-cheapest g c = told (g.met.R.Ranking.ordered c.args.ranking.now) c.args.sound.now.table (figure_at c.args.figures.now.at) c.args.g c.cheapest.result (search rules)
