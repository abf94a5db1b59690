-- The weight of a cost at a rate. Assumes nothing.
use Rattle.std.specs.Prelude.{◌≡◌, ℕ, ◌≤◌, ℤ, pos, negsuc, ◌+ℤ◌, ◌*ℤ◌, ◌≤ℤ◌}
use Rattle.std.proofs.Common.{sym, ap, ◌∙◌, mul-le-mul_left, arith}
use borrow.Author.Differences.{ints, le_out}
use Rattle.rankings.specs.Costs.{Cost, plus, times}
use Rattle.rankings.specs.Models.{counted_rate, weight}
use Rattle.rankings.specs.Algebra.{mul_sum, mul_swap}
use Rattle.rankings.specs.Orders.{scaled}

pub weight_plus : (r : ℕ) (a b : Cost) → weight r (plus a b) ≡ weight r a +ℤ weight r b
weight_plus r a b = omega (arith, ints, mul_sum r a.1 b.1)

pub weight_times : (r k : ℕ) (a : Cost) → weight r (times k a) ≡ pos k *ℤ weight r a
weight_times r k a = ap (λ (z : ℤ). pos k *ℤ a.0 +ℤ z) (mul_swap r k a.1) ∙ sym (mul_sum k a.0 (pos r *ℤ a.1))

-- what is no more in either part weighs no more
pub weight_mono : (r : ℕ) (a b : Cost) → a.0 ≤ℤ b.0 → a.1 ≤ℤ b.1 → weight r a ≤ℤ weight r b
weight_mono r a b p q = omega (arith, ints, scaled r a.1 b.1, scaled r b.1 a.1, mul-le-mul_left r (le_out a.1 b.1 q))

pub counted_small : (rate : ℤ) → counted_rate rate ≤ 200
counted_small (pos r) = omega arith
counted_small (negsuc r) = omega arith
