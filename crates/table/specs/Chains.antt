-- The chains of a table: a grade's rows and a row's arcs. Assumes nothing.
use Rattle.std.specs.Prelude.{ℕ, zero, suc, ◌+◌, ◌-◌, List, [], ◌∷◌, slice_index, slice_index_or}
use Rattle.table.specs.declared.rows.Row.{Row}
use Rattle.table.specs.declared.rows.Arc.{Arc}
use Rattle.table.specs.declared.table.Table.{Table}
use Rattle.table.specs.Ranges.{row0, arc0}

-- the numbers from k on, each the next of the one before, up to the first 0; at most as many as the fuel
abbrev pub walk : (ℕ → ℕ) → ℕ → ℕ → List ℕ
walk next zero k = []
walk next (suc f) zero = []
walk next (suc f) (suc k) = suc k ∷ walk next f (next (suc k))

-- the row k, and the arc x, which are numbered from 1
abbrev pub row_at : Table → ℕ → Row
row_at t k = slice_index_or t.row (k - 1) row0

abbrev pub arc_at : Table → ℕ → Arc
arc_at t x = slice_index_or t.arc (x - 1) arc0

abbrev pub first_row : Table → ℕ → ℕ
first_row t g = slice_index t.first_row (g - 1)

abbrev pub next_row : Table → ℕ → ℕ
next_row t k = (row_at t k).next

abbrev pub next_arc : Table → ℕ → ℕ
next_arc t x = (arc_at t x).next

-- the rows of the grade g, and the arcs of the row k, in chain order
abbrev pub rows_of : Table → ℕ → List ℕ
rows_of t g = walk (next_row t) t.rows (first_row t g)

abbrev pub arcs_of : Table → ℕ → List ℕ
arcs_of t k = walk (next_arc t) t.arcs (row_at t k).first_arc

-- what arcs weigh together
abbrev pub weights : Table → List ℕ → ℕ
weights t [] = 0
weights t (x ∷ xs) = (arc_at t x).weight + weights t xs
