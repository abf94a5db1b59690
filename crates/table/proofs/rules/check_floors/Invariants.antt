use Rattle.std.proofs.Common.{◌≡◌, ◌+◌, ◌-◌}
use Rattle.table.specs.Chains.{rows_of}
use Rattle.table.specs.Walks.{rows_ahead}
use Rattle.table.specs.Lookahead.{figure_at}
use Rattle.table.specs.Rules.{breaks_floor, first_in, first_pair, first_floor}
use Rattle.table.proofs.rules.check_floors.Given as goal

abbrev pub invariant-loop-grade : goal.invariant-loop-grade
invariant-loop-grade g l = (l.grade-iterator.sound.now ≡ l.sound)
    × (first_pair (breaks_floor (g.R.Ranking.ranks l.ranking) l.sound.table (figure_at l.floors.at)) (rows_of l.sound.table) (l.sound.table.grades - l.grade-iterator.passed) (l.grade-iterator.passed + 1)
    ≡ first_floor (g.R.Ranking.ranks l.ranking) l.sound.table l.floors.at)

abbrev pub invariant-loop-row : goal.invariant-loop-row
invariant-loop-row g l =
    first_in (breaks_floor (g.R.Ranking.ranks l.ranking) l.sound.table (figure_at l.floors.at)) l.grade.number (rows_ahead l.row-iterator)
    (first_pair (breaks_floor (g.R.Ranking.ranks l.ranking) l.sound.table (figure_at l.floors.at)) (rows_of l.sound.table) (l.sound.table.grades - l.grade.number) (l.grade.number + 1))
    ≡ first_floor (g.R.Ranking.ranks l.ranking) l.sound.table l.floors.at
