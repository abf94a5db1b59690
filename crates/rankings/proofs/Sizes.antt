-- How large the parts of a sum, a multiple and a rounding can be. Assumes nothing.
use Rattle.std.proofs.Common.{ℕ, ◌+◌, ◌*◌, ◌<◌, ◌≤◌, ℤ, pos, negsuc, ◌*ℤ◌, neg_ℤ, nat_abs, inl, inr, mul_comm, div-lt_iff_lt-mul, mul-le-mul, arith}
use native.Mathlib.Nat.{div-le_of_le-mul}
use borrow.Author.Differences.{ints}
use Rattle.rankings.specs.Costs.{Cost, Within, plus, times, negated, floor, ceil}
use Rattle.rankings.specs.Laws.{Rounded, Whole}

pub within_more : (b d : ℕ) (a : Cost) → b ≤ d → Within b a → Within d a
within_more b d a h w = (omega arith, omega arith)

pub plus_within : (p q : ℕ) (a b : Cost) → Within p a → Within q b → Within (p + q) (plus a b)
plus_within p q a b v w = (omega (arith, ints), omega (arith, ints))

pub negated_within : (b : ℕ) (a : Cost) → Within b a → Within b (negated a)
negated_within b a w = (omega (arith, ints), omega (arith, ints))

pub part_times : (k j b : ℕ) (x : ℤ) → k ≤ j → nat_abs x ≤ b → nat_abs (pos k *ℤ x) ≤ j * b
part_times k j b (pos n) p q = mul-le-mul p q
part_times k j b (negsuc n) p q = omega (arith, ints, mul-le-mul p q)

-- at most j times what is within b
pub times_within : (k j b : ℕ) (a : Cost) → k ≤ j → Within b a → Within (j * b) (times k a)
times_within k j b a h w = (part_times k j b a.0 h w.0, part_times k j b a.1 h w.1)

floor_share : (m b : ℕ) (x : ℤ) → 0 < m → nat_abs x ≤ m * b → nat_abs (floor x m) ≤ b
floor_share m b (pos a) h q = div-le_of_le-mul m q
floor_share m b (negsuc a) h q = (div-lt_iff_lt-mul h).1 (omega (arith, mul_comm m b))

ceil_share : (m b : ℕ) (x : ℤ) → 0 < m → nat_abs x ≤ m * b → nat_abs (ceil x m) ≤ b
ceil_share m b x h q = omega (arith, ints, floor_share m b (neg_ℤ x) h (omega (arith, ints)))

whole_share : (m b : ℕ) (x q : ℤ) → 0 < m → nat_abs x ≤ m * b → Whole x m q → nat_abs q ≤ b
whole_share m b x q h w (inl e) = rw e (floor_share m b x h w)
whole_share m b x q h w (inr e) = rw e (ceil_share m b x h w)

-- what is within m times b, rounded over m either way, is within b
pub rounded_within : (m b : ℕ) (c r : Cost) → 0 < m → Within (m * b) c → Rounded c m r → Within b r
rounded_within m b c r h w e = (whole_share m b c.0 r.0 h w.0 e.first, whole_share m b c.1 r.1 h w.1 e.second)
