use Rattle.std.proofs.Common.{rules}
use Rattle.sheet.proofs.header_reading.header_of.Goals as goal

pub invariant_of-result : goal.invariant_of-result
invariant_of-result c =
    record { graded = search rules; rowed = search rules; arced = search rules; weighed = search rules; discounted = search rules; shrinking = search rules; fine = search rules }
