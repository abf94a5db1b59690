-- What a row costs together with the figures of where it leads. Assumes nothing.
use Rattle.std.specs.Prelude.{ℕ, ◌-◌, ◌*◌, Bool, cond, ◌&&◌, List, [], ◌∷◌, Some, None, Option, nat_le, slice_index_or}
use Rattle.rankings.specs.Costs.{Cost, plus, times, zero}
use Rattle.table.specs.declared.table.Table.{Table}
use Rattle.table.specs.Chains.{row_at, arc_at, arcs_of}

-- the figure of the grade g, in a list that has one for each grade
abbrev pub figure_at : List Cost → ℕ → Cost
figure_at ws g = slice_index_or ws (g - 1) zero

-- the sum over arcs of weight times the destination's figure
abbrev pub mean : Table → (ℕ → Cost) → List ℕ → Cost
mean t w [] = zero
mean t w (x ∷ xs) = plus (times (arc_at t x).weight (w (arc_at t x).destination)) (mean t w xs)

-- b · D, which a figure is multiplied by where it is compared with X
abbrev pub scaling : Table → ℕ
scaling t = t.denominator * t.total

-- X(k, w) = q · b · D · C + a · the sum over the row's arcs of weight · w of the destination
abbrev pub X : Table → ℕ → (ℕ → Cost) → Cost
X t k w = plus (times (t.fineness * scaling t) (row_at t k).cost) (times t.numerator (mean t w (arcs_of t k)))

-- whether there is a row k
abbrev pub is_row : Table → ℕ → Bool
is_row t k = nat_le 1 k && nat_le k t.rows

abbrev pub lookahead_of : Table → ℕ → (ℕ → Cost) → Option Cost
lookahead_of t k w = cond (is_row t k) (Some (X t k w)) None
