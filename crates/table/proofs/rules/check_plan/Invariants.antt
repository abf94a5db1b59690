use Rattle.std.proofs.Common.{◌≡◌, ◌+◌, ◌-◌}
use Rattle.table.specs.Rules.{strays, plan_only, first_pair, first_stray}
use Rattle.table.proofs.rules.check_plan.Given as goal

abbrev pub invariant-loop-grade : goal.invariant-loop-grade
invariant-loop-grade l = (l.grade-iterator.sound.now ≡ l.sound)
    × (first_pair (strays l.sound.table) (plan_only l.rows) (l.sound.table.grades - l.grade-iterator.passed) (l.grade-iterator.passed + 1) ≡ first_stray l.sound.table l.rows)
