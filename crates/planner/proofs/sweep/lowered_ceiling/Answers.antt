use Rattle.planner.proofs.Roundings.{dear_figure, some_holds}
use Rattle.planner.specs.Grades.{ChoiceIn}
use Rattle.planner.proofs.sweep.lowered_ceiling.Goals as goal

pub returns-clause-within : goal.returns-clause-within
returns-clause-within g c =
    let s = c.args.ranking.now in
    let figure = dear_figure (g.R.Ranking.ranks s) (g.R.Rounding.cheap s) (g.R.Rounding.dear s) (g.met.R.Rounding.rounds s) c.args.grade.sound.now.table c.in_ok-best.best.cost c.in_ok-best.ensures.within c.round_dear-cost.result _ c.round_dear-cost.ensures.is c.divisor.ensures in
    some_holds (ChoiceIn c.args.grade.sound.now.table.rows) _ _ _ c.then_some.ensures (figure, c.in_ok-best.ensures.row)
