use Rattle.std.proofs.Common.{◌≡◌, ◌-◌, ◌*◌, ◌≤◌}
use Rattle.planner.specs.Sweeps.{shown}
use Rattle.planner.specs.Improvements.{rounds}
use Rattle.planner.proofs.Rounds.{further}
use Rattle.planner.proofs.improve.improve_rounds.Given as goal

abbrev pub invariant-loop-turn : goal.invariant-loop-turn
invariant-loop-turn g l = (l.page.sound ≡ l.initial.page.sound) × (l.gave_way ≤ 32 * l._turn)
    × (further l.gave_way (rounds (g.R.Ranking.ranks l.ranking) (g.R.Rounding.dear l.ranking) l.initial.page.sound.table (l.n - l._turn) (shown l.page.figures)) ≡ rounds (g.R.Ranking.ranks l.ranking) (g.R.Rounding.dear l.ranking) l.initial.page.sound.table l.n (shown l.initial.page.figures))
