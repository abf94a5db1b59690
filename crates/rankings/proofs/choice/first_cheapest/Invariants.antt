use Rattle.std.proofs.Common.{max}
use Rattle.rankings.specs.Choice.{FirstCheapest, at}
use Rattle.rankings.proofs.choice.first_cheapest.Given as goal

abbrev pub invariant-loop-i : goal.invariant-loop-i
invariant-loop-i g l = FirstCheapest (g.R.Ranking.ranks l.ranking) (at l.costs) (max 1 l.i) l.best
