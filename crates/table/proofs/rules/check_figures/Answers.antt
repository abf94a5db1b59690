use Rattle.std.proofs.Common.{rules}
use Rattle.std.specs.Result.{result_err}
use Rattle.table.proofs.Keeping.{answer_kept}
use Rattle.table.proofs.rules.check_figures.Goals as goal

pub returns-in_err-check_plan-clause-kept : goal.returns-in_err-check_plan-clause-kept
returns-in_err-check_plan-clause-kept g c =
    answer_kept (g.R.Ranking.ranks c.args.ranking.now) c.args.sound.now c.args.figures.now (result_err c.from_residual.result) (search rules)

pub returns-in_err-check_floors-clause-kept : goal.returns-in_err-check_floors-clause-kept
returns-in_err-check_floors-clause-kept g c =
    answer_kept (g.R.Ranking.ranks c.args.ranking.now) c.args.sound.now c.args.figures.now (result_err c.from_residual-in_err-check_floors.result) (search rules)

pub returns-clause-kept : goal.returns-clause-kept
returns-clause-kept g c =
    answer_kept (g.R.Ranking.ranks c.args.ranking.now) c.args.sound.now c.args.figures.now (result_err c.check_ceilings.result) (search rules)
