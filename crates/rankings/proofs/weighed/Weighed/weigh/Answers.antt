-- Each need is stated over plain numbers first: there `simp` and `omega` see no more than they want.
use Rattle.std.proofs.Common.{◌≡◌, ℕ, ◌*◌, ◌≤◌, ℤ, pos, ◌+ℤ◌, ◌*ℤ◌, nat_abs, arith, w64, SFits, to_z, of_z}
use Rattle.std.proofs.lemmas.Int.{ints, to_z-of_z}
use Rattle.rankings.specs.Costs.{ranked_part}
use Rattle.rankings.specs.Models.{counted_rate, weight}
use Rattle.rankings.proofs.Sizes.{part_times}
use Rattle.rankings.specs.Weights.{counted_small}
use Rattle.rankings.proofs.weighed.Weighed.weigh.Goals as goal

-- a price p, which is the rate r, and the parts x and z of a cost
module _ (p x z : ℤ) (r : ℕ) (e : p ≡ pos r) (small : r ≤ 200) (h : nat_abs x ≤ ranked_part) (k : nat_abs z ≤ ranked_part) where
  within : nat_abs (p *ℤ z) ≤ 200 * ranked_part
  within = rw e (part_times r 200 ranked_part z small k)

  fits-x : SFits w64 x
  fits-x = omega (arith, ints)

  fits-z : SFits w64 z
  fits-z = omega (arith, ints)

  fits-p : SFits w64 p
  fits-p = omega (arith, ints)

  fits-product : SFits w64 (p *ℤ z)
  fits-product = omega (arith, ints, within)

  fits_sum : SFits w64 (x +ℤ p *ℤ z)
  fits_sum = omega (arith, ints, within)

  mul-fits : SFits w64 (to_z w64 (of_z w64 p) *ℤ to_z w64 (of_z w64 z))
  mul-fits = simp (to_z-of_z w64 p fits-p, to_z-of_z w64 z fits-z) fits-product

  add-fits : SFits w64 (to_z w64 (of_z w64 x) +ℤ to_z w64 (of_z w64 (to_z w64 (of_z w64 p) *ℤ to_z w64 (of_z w64 z))))
  add-fits = simp (to_z-of_z w64 p fits-p, to_z-of_z w64 z fits-z, to_z-of_z w64 x fits-x, to_z-of_z w64 (p *ℤ z) fits-product) fits_sum

  total-is : to_z w64 (of_z w64 (to_z w64 (of_z w64 x) +ℤ to_z w64 (of_z w64 (to_z w64 (of_z w64 p) *ℤ to_z w64 (of_z w64 z))))) ≡ weight r (x, z)
  total-is = simp (to_z-of_z w64 p fits-p, to_z-of_z w64 z fits-z, to_z-of_z w64 x fits-x, to_z-of_z w64 (p *ℤ z) fits-product, to_z-of_z w64 (x +ℤ p *ℤ z) fits_sum) (rw e)

pub overflow_mul-result : goal.overflow_mul-result
overflow_mul-result c =
    let rate = c.args.self.now.rate in
    mul-fits c.price.result c.args.cost.0 c.args.cost.1 (counted_rate rate) c.price.ensures (counted_small rate) c.requires.0 c.requires.1

pub overflow_add-result : goal.overflow_add-result
overflow_add-result c =
    let rate = c.args.self.now.rate in
    add-fits c.price.result c.args.cost.0 c.args.cost.1 (counted_rate rate) c.price.ensures (counted_small rate) c.requires.0 c.requires.1

pub returns : goal.returns
returns c =
    let rate = c.args.self.now.rate in
    total-is c.price.result c.args.cost.0 c.args.cost.1 (counted_rate rate) c.price.ensures (counted_small rate) c.requires.0 c.requires.1
