use Rattle.planner.proofs.Figures.{floors_bound, ceilings_bound}
use Rattle.planner.proofs.bounds.bounds_stand.Goals as goal

pub returns : goal.returns
returns c = record { answer = tt; floors = floors_bound; ceilings = ceilings_bound }
