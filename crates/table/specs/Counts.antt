-- Counts of what is numbered from 1. Assumes nothing.
use Rattle.std.specs.Prelude.{ℕ, zero, suc, ◌+◌, List, slice_index, slice_set}

-- the count of a number goes up by one; 0 numbers nothing
abbrev pub one_more : ℕ → List ℕ → List ℕ
one_more zero counts = counts
one_more (suc i) counts = slice_set counts i (slice_index counts i + 1)
