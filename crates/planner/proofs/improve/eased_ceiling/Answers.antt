use Rattle.planner.proofs.Roundings.{dear_figure, some_holds}
use Rattle.table.specs.Ranges.{FigureIn}
use Rattle.planner.proofs.improve.eased_ceiling.Goals as goal

pub returns-clause-within : goal.returns-clause-within
returns-clause-within g c =
    let s = c.args.ranking.now in
    let figure = dear_figure (g.R.Ranking.ranks s) (g.R.Rounding.cheap s) (g.R.Rounding.dear s) (g.met.R.Rounding.rounds s) c.args.grade.sound.now.table c.in_ok-ahead.ahead c.in_ok-ahead.ensures.within c.round_dear-ceiling.result _ c.round_dear-ceiling.ensures.is c.divisor.ensures in
    some_holds FigureIn _ _ _ c.then_some.ensures figure
