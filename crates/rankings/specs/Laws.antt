-- What a ranking owes, and what a rounding owes, for a relation `le`: `le a b ≡ true` says that a is no dearer than b,
-- and `le a b ≡ false` that a is dearer than b. Assumes nothing.
use Rattle.std.specs.Prelude.{◌≡◌, ℕ, ◌<◌, ◌≤◌, Bool, true, false, ◌⊎◌, ℤ}
use Rattle.rankings.specs.Costs.{Cost, Modest, plus, times, zero, floor, ceil, largest_divisor}

-- of two costs one is no dearer than the other, and what is no dearer is so along a chain
pub record Ordered (le : Cost → Cost → Bool) : Type 0 where
  pub total : (a b : Cost) → le a b ≡ false → le b a ≡ true
  pub trans : (a b c : Cost) → le a b ≡ true → le b c ≡ true → le a c ≡ true

-- one cost added to both sides keeps the relation; one number above zero that multiplies both sides keeps it and keeps
-- its opposite
pub record Linear (le : Cost → Cost → Bool) : Type 0 where
  pub adds : (a b c : Cost) → le a b ≡ true → le (plus a c) (plus b c) ≡ true
  pub scales : (k : ℕ) (a b : Cost) → 0 < k → le a b ≡ true → le (times k a) (times k b) ≡ true
  pub scales_opposite : (k : ℕ) (a b : Cost) → 0 < k → le a b ≡ false → le (times k a) (times k b) ≡ false

-- some cost is dearer than zero
abbrev pub SomeDearer : (Cost → Cost → Bool) → Type 0
SomeDearer le = (c : Cost) × (le c zero ≡ false)

-- q is z / m taken down or up to a whole number
abbrev pub Whole : ℤ → ℕ → ℤ → Type 0
Whole z m q = (q ≡ floor z m) ⊎ (q ≡ ceil z m)

-- each part of r is that part of c / m, taken down or up to a whole number
pub record Rounded (c : Cost) (m : ℕ) (r : Cost) : Type 0 where
  pub first : Whole c.0 m r.0
  pub second : Whole c.1 m r.1

-- m times the cheap rounding is no dearer than the cost, and the cost no dearer than m times the dear one. All this is
-- owed only for the divisors and the costs that a rounding is asked about
pub record Rounds (le : Cost → Cost → Bool) (cheap dear : Cost → ℕ → Cost) : Type 0 where
  pub cheap_parts : (c : Cost) (m : ℕ) → 1 ≤ m → m ≤ largest_divisor → Modest c → Rounded c m (cheap c m)
  pub dear_parts : (c : Cost) (m : ℕ) → 1 ≤ m → m ≤ largest_divisor → Modest c → Rounded c m (dear c m)
  pub cheap_below : (c : Cost) (m : ℕ) → 1 ≤ m → m ≤ largest_divisor → Modest c → le (times m (cheap c m)) c ≡ true
  pub dear_above : (c : Cost) (m : ℕ) → 1 ≤ m → m ≤ largest_divisor → Modest c → le c (times m (dear c m)) ≡ true
