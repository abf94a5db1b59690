-- Costs, and what is reckoned with them. A cost is two whole numbers of any size and sign: the first part is money, in
-- cents, and the second is time, in minutes. Assumes nothing.
use Rattle.std.specs.Prelude.{ℕ, ◌/◌, ◌^◌, ◌≤◌, ℤ, pos, negsuc, ◌+ℤ◌, ◌-ℤ◌, ◌*ℤ◌, neg_ℤ, ◌≤ℤ◌, ◌<ℤ◌, unsigned_abs}

-- first part and second part
abbrev pub Cost : Type 0
Cost = ℤ × ℤ

-- the cost of nothing
abbrev pub zero : Cost
zero = (pos 0, pos 0)

-- the sum of two costs, part by part
abbrev pub plus : Cost → Cost → Cost
plus a b = (a.0 +ℤ b.0, a.1 +ℤ b.1)

-- k times a cost, part by part
abbrev pub times : ℕ → Cost → Cost
times k a = (pos k *ℤ a.0, pos k *ℤ a.1)

-- the cost that makes zero with a, part by part
abbrev pub negated : Cost → Cost
negated a = (neg_ℤ a.0, neg_ℤ a.1)

-- the largest magnitude of a part that a ranking is asked about
abbrev pub ranked_part : ℕ
ranked_part = 10 ^ 16

-- the largest number that a rounding divides by
abbrev pub largest_divisor : ℕ
largest_divisor = 1_000_000

-- each part is of a magnitude of at most b
abbrev pub Within : ℕ → Cost → Type 0
Within b c = (unsigned_abs c.0 ≤ b) × (unsigned_abs c.1 ≤ b)

-- a ranking may be asked about the cost
abbrev pub Modest : Cost → Type 0
Modest c = Within ranked_part c

-- z / m taken down to a whole number: below zero, to the one further from zero
abbrev pub floor : ℤ → ℕ → ℤ
floor (pos a) m = pos (a / m)
floor (negsuc a) m = negsuc (a / m)

-- z / m taken up to a whole number: below zero, to the one nearer to zero
abbrev pub ceil : ℤ → ℕ → ℤ
ceil z m = neg_ℤ (floor (neg_ℤ z) m)

-- q is z / m taken down: the largest whole number that m times comes to z or less
pub record Down (z : ℤ) (m : ℕ) (q : ℤ) : Type 0 where
  pub this : (pos m *ℤ q) ≤ℤ z
  pub next : z <ℤ (pos m *ℤ (q +ℤ pos 1))

-- q is z / m taken up: the smallest whole number that m times comes to z or more
pub record Up (z : ℤ) (m : ℕ) (q : ℤ) : Type 0 where
  pub this : z ≤ℤ (pos m *ℤ q)
  pub last : (pos m *ℤ (q -ℤ pos 1)) <ℤ z
