-- A quotient and a remainder by a divisor fit 64 bits, so that what the machine computes is what they are.
use Rattle.std.proofs.Common.{◌≡◌, ℕ, ◌≤◌, ℤ, pos, ◌+ℤ◌, ◌-ℤ◌, ◌≤ℤ◌, unsigned_abs, arith, w64, SFits}
use lib.Signed.{quot_z, rem_z}
use Rattle.std.proofs.lemmas.Int.{ints}
use Rattle.rankings.specs.Costs.{ranked_part, largest_divisor}
use Rattle.rankings.specs.Quotients.{quot_within, rem_within}

module _ (x m : ℤ) (by : ℕ) (most : unsigned_abs x ≤ ranked_part) (is : m ≡ pos by) (low : 1 ≤ by) (high : by ≤ largest_divisor) where
  pub positive : pos 1 ≤ℤ m
  positive = omega (arith, ints)

  pub divisor_fits : SFits w64 m
  divisor_fits = omega (arith, ints)

  pub quotient_fits : SFits w64 (quot_z x m)
  quotient_fits = omega (arith, ints, quot_within x m positive)

  pub less_fits : SFits w64 (quot_z x m -ℤ pos 1)
  less_fits = omega (arith, ints, quot_within x m positive)

  pub more_fits : SFits w64 (quot_z x m +ℤ pos 1)
  more_fits = omega (arith, ints, quot_within x m positive)

  pub remainder_fits : SFits w64 (rem_z x m)
  remainder_fits = omega (arith, ints, rem_within x m)
