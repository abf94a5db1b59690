use Rattle.std.proofs.Common.{◌≡◌}
use Rattle.rankings.specs.Costs.{plus}
use Rattle.table.specs.Chains.{arcs_of, weights}
use Rattle.table.specs.Lookahead.{figure_at, mean}
use Rattle.table.specs.Walks.{AllIn, arcs_ahead}
use Rattle.table.proofs.Means.{Budget}
use Rattle.table.proofs.ahead.weighted_sum.Given as goal

abbrev pub invariant-loop-x : goal.invariant-loop-x
invariant-loop-x l = AllIn l.sound.table.arcs (arcs_ahead l.x-iterator)
    × (plus l.sum (mean l.sound.table (figure_at l.figures.at) (arcs_ahead l.x-iterator)) ≡ mean l.sound.table (figure_at l.figures.at) (arcs_of l.sound.table l.k))
    × Budget l.sound.table.total (weights l.sound.table (arcs_ahead l.x-iterator)) l.sum
