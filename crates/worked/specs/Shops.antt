-- The two small shops of the worked cases. Assumes nothing.
use Rattle.std.specs.Prelude.{ℕ, zero, suc, List, ◌∷◌, replicate, pos, refl}
use Rattle.std.proofs.Common.{arith}
use Rattle.table.specs.declared.rows.Row.{Row}
use Rattle.table.specs.declared.rows.Arc.{Arc}
use Rattle.table.specs.declared.table.Table.{Table}
use Rattle.table.specs.Ranges.{FirstsIn, RowsIn, ArcsIn, row0, arc0}

-- a row: the grade's next row, money, minutes, and its first arc
abbrev pub row : ℕ → ℕ → ℕ → ℕ → Row
row next money minutes first = record { next = next; cost = (pos money, pos minutes); first_arc = first }

-- an arc: the row's next arc, the grade it leads to, and its weight
abbrev pub arc : ℕ → ℕ → ℕ → Arc
arc next destination weight = record { next = next; destination = destination; weight = weight }

-- a shop of two grades, the first with one row and the second with two; weights sum to 4, the discount is 1/2
abbrev pub two_firsts : List ℕ
two_firsts = 1 ∷ 2 ∷ replicate 30 0

abbrev pub two_rows : List Row
two_rows = row 0 0 0 1 ∷ row 3 20 0 3 ∷ row 0 27 0 4 ∷ replicate 93 row0

abbrev pub two_arcs : List Arc
two_arcs = arc 2 1 3 ∷ arc 0 2 1 ∷ arc 0 2 4 ∷ arc 0 1 4 ∷ replicate 508 arc0

-- its indices, costs and weights are in range
pub two_firsts_in : FirstsIn 2 3 two_firsts
two_firsts_in zero h = (omega arith, omega arith)
two_firsts_in (suc zero) h = (omega arith, omega arith)
two_firsts_in (suc (suc i)) h = absurd (omega arith)

pub two_rows_in : RowsIn 3 4 two_rows
two_rows_in zero h = (omega arith, (omega arith, omega arith), omega arith, omega arith)
two_rows_in (suc zero) h = (omega arith, (omega arith, omega arith), omega arith, omega arith)
two_rows_in (suc (suc zero)) h = (omega arith, (omega arith, omega arith), omega arith, omega arith)
two_rows_in (suc (suc (suc i))) h = absurd (omega arith)

pub two_arcs_in : ArcsIn 2 4 4 two_arcs
two_arcs_in zero h = (omega arith, (omega arith, omega arith), (omega arith, omega arith))
two_arcs_in (suc zero) h = (omega arith, (omega arith, omega arith), (omega arith, omega arith))
two_arcs_in (suc (suc zero)) h = (omega arith, (omega arith, omega arith), (omega arith, omega arith))
two_arcs_in (suc (suc (suc zero))) h = (omega arith, (omega arith, omega arith), (omega arith, omega arith))
two_arcs_in (suc (suc (suc (suc i)))) h = absurd (omega arith)

abbrev pub two_grades : Table
two_grades = record {
  grades = 2;
  rows = 3;
  arcs = 4;
  total = 4;
  numerator = 1;
  denominator = 2;
  fineness = 1;
  first_row = two_firsts;
  row = two_rows;
  arc = two_arcs;
  graded = (omega arith, omega arith);
  rowed = (omega arith, omega arith);
  arced = (omega arith, omega arith);
  weighed = (omega arith, omega arith);
  discounted = (omega arith, omega arith);
  shrinking = omega arith;
  fine = (omega arith, omega arith);
  firsts = two_firsts_in;
  rowsin = two_rows_in;
  arcsin = two_arcs_in;
  firstlong = refl;
  rowlong = refl;
  arclong = refl;
}

-- a shop of one grade, whose two rows cost the same money and not the same minutes; the discount is 0
abbrev pub one_firsts : List ℕ
one_firsts = 1 ∷ replicate 31 0

abbrev pub one_rows : List Row
one_rows = row 2 10 5 1 ∷ row 0 10 3 2 ∷ replicate 94 row0

abbrev pub one_arcs : List Arc
one_arcs = arc 0 1 1 ∷ arc 0 1 1 ∷ replicate 510 arc0

pub one_firsts_in : FirstsIn 1 2 one_firsts
one_firsts_in zero h = (omega arith, omega arith)
one_firsts_in (suc i) h = absurd (omega arith)

pub one_rows_in : RowsIn 2 2 one_rows
one_rows_in zero h = (omega arith, (omega arith, omega arith), omega arith, omega arith)
one_rows_in (suc zero) h = (omega arith, (omega arith, omega arith), omega arith, omega arith)
one_rows_in (suc (suc i)) h = absurd (omega arith)

pub one_arcs_in : ArcsIn 1 2 1 one_arcs
one_arcs_in zero h = (omega arith, (omega arith, omega arith), (omega arith, omega arith))
one_arcs_in (suc zero) h = (omega arith, (omega arith, omega arith), (omega arith, omega arith))
one_arcs_in (suc (suc i)) h = absurd (omega arith)

abbrev pub one_grade : Table
one_grade = record {
  grades = 1;
  rows = 2;
  arcs = 2;
  total = 1;
  numerator = 0;
  denominator = 1;
  fineness = 1;
  first_row = one_firsts;
  row = one_rows;
  arc = one_arcs;
  graded = (omega arith, omega arith);
  rowed = (omega arith, omega arith);
  arced = (omega arith, omega arith);
  weighed = (omega arith, omega arith);
  discounted = (omega arith, omega arith);
  shrinking = omega arith;
  fine = (omega arith, omega arith);
  firsts = one_firsts_in;
  rowsin = one_rows_in;
  arcsin = one_arcs_in;
  firstlong = refl;
  rowlong = refl;
  arclong = refl;
}
