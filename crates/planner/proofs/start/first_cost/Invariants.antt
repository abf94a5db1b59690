use Rattle.std.proofs.Common.{◌≡◌, ◌+◌, ◌-◌, Bool, take}
use Rattle.rankings.specs.Choice.{is_cheaper}
use Rattle.rankings.specs.Costs.{Cost, Within}
use Rattle.planner.specs.Start.{costs_from, cheapest_among, cheapest_cost}
use Rattle.planner.proofs.start.first_cost.Given as goal

abbrev pub invariant-loop-row : goal.invariant-loop-row
invariant-loop-row g l = (l.row-items ≡ take l.table.rows l.table.row) × Within 100000 l.first
    × ((le : Cost → Cost → Bool) → ((a b : Cost) (r : Bool) → goal.F-post g l.comes_before a b r → r ≡ is_cheaper le a b) → cheapest_among le l.first (costs_from l.table (l.table.rows - l.row-index) (l.row-index + 1)) ≡ cheapest_cost le l.table)
