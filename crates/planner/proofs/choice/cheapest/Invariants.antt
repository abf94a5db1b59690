use Rattle.std.proofs.Common.{◌≡◌, ◌*◌, ◌^◌, length, IfSome}
use Rattle.rankings.specs.Costs.{Within as Sized}
use Rattle.table.specs.Ranges.{Within, row0}
use Rattle.table.specs.Lookahead.{figure_at, scaling}
use Rattle.table.specs.Walks.{AllIn, ahead}
use Rattle.planner.specs.Choices.{cheapest_row}
use Rattle.planner.proofs.Cheapest.{cheapest_on}
use Rattle.planner.proofs.choice.cheapest.Given as goal

abbrev pub invariant-loop-row : goal.invariant-loop-row
invariant-loop-row g l = AllIn (length l.row-iterator.links.now) (ahead (λ r. r.next) row0 l.row-iterator) × AllIn l.grade.sound.now.table.rows (ahead (λ r. r.next) row0 l.row-iterator)
    × IfSome l.best (λ b. Within 1 l.grade.sound.now.table.rows b.row × Sized (scaling l.grade.sound.now.table * 10 ^ 10) b.cost)
    × (cheapest_on (g.R.Ranking.ranks l.ranking) l.grade.sound.now.table (figure_at l.figures.at) l.best (ahead (λ r. r.next) row0 l.row-iterator)
    ≡ cheapest_row (g.R.Ranking.ranks l.ranking) l.grade.sound.now.table (figure_at l.figures.at) l.grade.number)
