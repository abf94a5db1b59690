use Rattle.std.proofs.Common.{◌≡◌, ◌+◌, ◌-◌}
use Rattle.table.specs.Lookahead.{figure_at}
use Rattle.table.specs.Rules.{breaks_ceiling, plan_only, first_pair, first_ceiling}
use Rattle.table.proofs.rules.check_ceilings.Given as goal

abbrev pub invariant-loop-grade : goal.invariant-loop-grade
invariant-loop-grade g l = (l.grade-iterator.sound.now ≡ l.sound)
    × (first_pair (breaks_ceiling (g.R.Ranking.ranks l.ranking) l.sound.table (figure_at l.ceilings.at)) (plan_only l.rows) (l.sound.table.grades - l.grade-iterator.passed) (l.grade-iterator.passed + 1)
    ≡ first_ceiling (g.R.Ranking.ranks l.ranking) l.sound.table l.rows l.ceilings.at)
