use Rattle.std.proofs.Common.{◌≡◌, ◌-◌}
use Rattle.planner.specs.Sweeps.{shown, sweeps}
use Rattle.planner.proofs.Repeats.{after}
use Rattle.planner.proofs.sweep.sweep_up_to.Given as goal

abbrev pub invariant-loop-turn : goal.invariant-loop-turn
invariant-loop-turn g l = (l.page.sound ≡ l.initial.page.sound) × (after l.turn (sweeps (g.R.Ranking.ranks l.ranking) (g.R.Rounding.cheap l.ranking) (g.R.Rounding.dear l.ranking) l.initial.page.sound.table (l.n - l.turn) (shown l.page.figures)) ≡ sweeps (g.R.Ranking.ranks l.ranking) (g.R.Rounding.cheap l.ranking) (g.R.Rounding.dear l.ranking) l.initial.page.sound.table l.n (shown l.initial.page.figures))
