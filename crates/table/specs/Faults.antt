-- The first fault of a table, and where it lies. Assumes nothing.
use Rattle.std.specs.Prelude.{ℕ, zero, suc, ◌+◌, ◌-◌, Bool, cond, not, ◌&&◌, List, [], ◌∷◌, ◌++◌, map, take, Some, None, Option, ◌==◌, nat_le, slice_index}
use Rattle.table.specs.declared.table.Table.{Table}
use Rattle.table.specs.declared.fault.TableFault.{TableFault}
use Rattle.table.specs.declared.fault.TableFault.TheVariants.{RowPointers, LooseRow, ArcPointers, LooseArc, Weights}
use Rattle.table.specs.Chains.{rows_of, arcs_of, weights}

-- how often k stands in a list
abbrev pub count : ℕ → List ℕ → ℕ
count k [] = 0
count k (x ∷ xs) = cond (x == k) 1 0 + count k xs

-- the first of the n numbers from k on of which the test holds
abbrev pub first_from : (ℕ → Bool) → ℕ → ℕ → Option ℕ
first_from bad zero k = None
first_from bad (suc n) k = cond (bad k) (Some k) (first_from bad n (k + 1))

-- the lowest of 1 to n of which the test holds
abbrev pub lowest : (ℕ → Bool) → ℕ → Option ℕ
lowest bad n = first_from bad n 1

-- whether the count of k, the entry k - 1 of a list, lies outside least to most
abbrev pub outside : ℕ → ℕ → List ℕ → ℕ → Bool
outside least most counts k = not (nat_le least (slice_index counts (k - 1)) && nat_le (slice_index counts (k - 1)) most)

-- f 1, then f 2, .. up to f n
abbrev pub gathered : (ℕ → List ℕ) → ℕ → List ℕ
gathered f zero = []
gathered f (suc n) = gathered f n ++ f (suc n)

-- each index that points at a row, and each that points at an arc
abbrev pub row_pointers : Table → List ℕ
row_pointers t = take t.grades t.first_row ++ map (λ r. r.next) (take t.rows t.row)

abbrev pub arc_pointers : Table → List ℕ
arc_pointers t = map (λ r. r.first_arc) (take t.rows t.row) ++ map (λ x. x.next) (take t.arcs t.arc)

-- what all chains together reach
abbrev pub reached_rows : Table → List ℕ
reached_rows t = gathered (rows_of t) t.grades

abbrev pub reached_arcs : Table → List ℕ
reached_arcs t = gathered (arcs_of t) t.rows

-- not exactly one index points at it; no chain reaches it; its weights miss the total
abbrev pub mispointed : List ℕ → ℕ → Bool
mispointed pointers k = not (count k pointers == 1)

abbrev pub loose : List ℕ → ℕ → Bool
loose reached k = count k reached == 0

abbrev pub unbalanced : Table → ℕ → Bool
unbalanced t k = not (weights t (arcs_of t k) == t.total)

-- a fault at a place, if there is one, and else what comes later
abbrev pub or_else : Option ℕ → (ℕ → TableFault) → Option TableFault → Option TableFault
or_else (Some k) at later = Some (at k)
or_else None at later = later

-- the first fault of the kinds from one on, each over the whole table before the next
abbrev pub weight_fault : Table → Option TableFault
weight_fault t = or_else (lowest (unbalanced t) t.rows) Weights None

abbrev pub loose_arc_fault : Table → Option TableFault
loose_arc_fault t = or_else (lowest (loose (reached_arcs t)) t.arcs) LooseArc (weight_fault t)

abbrev pub arc_pointer_fault : Table → Option TableFault
arc_pointer_fault t = or_else (lowest (mispointed (arc_pointers t)) t.arcs) ArcPointers (loose_arc_fault t)

abbrev pub loose_row_fault : Table → Option TableFault
loose_row_fault t = or_else (lowest (loose (reached_rows t)) t.rows) LooseRow (arc_pointer_fault t)

abbrev pub table_fault : Table → Option TableFault
table_fault t = or_else (lowest (mispointed (row_pointers t)) t.rows) RowPointers (loose_row_fault t)
