use Rattle.planner.proofs.Roundings.{cheap_figure, some_holds}
use Rattle.table.specs.Ranges.{FigureIn}
use Rattle.planner.proofs.sweep.raised_floor.Goals as goal

pub returns-clause-within : goal.returns-clause-within
returns-clause-within g c =
    let s = c.args.ranking.now in
    let figure = cheap_figure (g.R.Ranking.ranks s) (g.R.Rounding.cheap s) (g.R.Rounding.dear s) (g.met.R.Rounding.rounds s) c.args.grade.sound.now.table c.in_ok-best.best.cost c.in_ok-best.ensures.within c.round_cheap-floor.result _ c.round_cheap-floor.ensures.is c.divisor.ensures in
    some_holds FigureIn _ _ _ c.then_some.ensures figure
