-- The strict relations, and the first cheapest of costs that are read one after another. `le` is a ranking's relation.
-- Assumes nothing.
use Rattle.std.specs.Prelude.{◌≡◌, ℕ, ◌<◌, Bool, true, false, not, List, length, Some, None, Option, slice_index_or}
use Rattle.rankings.specs.Costs.{Cost, Modest, zero}

-- a is dearer than b: it is not no dearer than b
abbrev pub is_dearer : (Cost → Cost → Bool) → Cost → Cost → Bool
is_dearer le a b = not (le a b)

-- a is cheaper than b: b is dearer than a
abbrev pub is_cheaper : (Cost → Cost → Bool) → Cost → Cost → Bool
is_cheaper le a b = is_dearer le b a

-- Of the costs 0 to n - 1, that at r is the first cheapest: it is among them, it is no dearer than each, and each one
-- before it is dearer
pub record FirstCheapest (le : Cost → Cost → Bool) (cost : ℕ → Cost) (n r : ℕ) : Type 0 where
  pub among : r < n
  pub no_dearer : (k : ℕ) → k < n → le (cost r) (cost k) ≡ true
  pub dearer_before : (k : ℕ) → k < r → le (cost k) (cost r) ≡ false

-- the cost at a place of a list
abbrev pub at : List Cost → ℕ → Cost
at costs k = slice_index_or costs k zero

-- a ranking may be asked about each cost of a list
abbrev pub AllModest : List Cost → Type 0
AllModest costs = (k : ℕ) → k < length costs → Modest (at costs k)

-- what is answered for a list: the place of its first cheapest cost, or none where the list is empty
abbrev pub Chosen : (Cost → Cost → Bool) → List Cost → Option ℕ → Type 0
Chosen le costs (Some r) = FirstCheapest le (at costs) (length costs) r
Chosen le costs None = length costs ≡ 0
