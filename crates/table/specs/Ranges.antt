-- The ranges of a table's numbers. Assumes nothing.
use Rattle.std.specs.Prelude.{ℕ, ◌^◌, ◌<◌, ◌≤◌, List, ℤ, pos, slice_index, slice_index_or, unsigned_abs}
use Rattle.table.specs.declared.rows.Row.{Row}
use Rattle.table.specs.declared.rows.Arc.{Arc}

abbrev pub Within : ℕ → ℕ → ℕ → Type 0
Within low high n = (low ≤ n) × (n ≤ high)

-- what stands for a row or an arc past the end of a list
abbrev pub row0 : Row
row0 = record { next = 0; cost = (pos 0, pos 0); first_arc = 0 }

abbrev pub arc0 : Arc
arc0 = record { next = 0; destination = 0; weight = 0 }

-- each part of a row's cost
abbrev pub PartIn : ℤ → Type 0
PartIn z = unsigned_abs z ≤ 100000

abbrev pub RowIn : ℕ → ℕ → Row → Type 0
RowIn rows arcs r = (r.next ≤ rows) × Within 1 arcs r.first_arc × PartIn r.cost.0 × PartIn r.cost.1

abbrev pub ArcIn : ℕ → ℕ → ℕ → Arc → Type 0
ArcIn grades arcs total x = (x.next ≤ arcs) × Within 1 grades x.destination × Within 1 total x.weight

abbrev pub FirstsIn : ℕ → ℕ → List ℕ → Type 0
FirstsIn grades rows firsts = (i : ℕ) → i < grades → Within 1 rows (slice_index firsts i)

abbrev pub RowsIn : ℕ → ℕ → List Row → Type 0
RowsIn rows arcs rs = (i : ℕ) → i < rows → RowIn rows arcs (slice_index_or rs i row0)

abbrev pub ArcsIn : ℕ → ℕ → ℕ → List Arc → Type 0
ArcsIn grades arcs total xs = (i : ℕ) → i < arcs → ArcIn grades arcs total (slice_index_or xs i arc0)

-- each part of a figure
abbrev pub FigureIn : ℤ × ℤ → Type 0
FigureIn w = (unsigned_abs w.0 ≤ 10 ^ 10) × (unsigned_abs w.1 ≤ 10 ^ 10)

abbrev pub FiguresIn : List (ℤ × ℤ) → Type 0
FiguresIn ws = (i : ℕ) → i < 32 → FigureIn (slice_index_or ws i (pos 0, pos 0))
