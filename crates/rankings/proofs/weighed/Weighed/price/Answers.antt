use Rattle.std.proofs.Common.{◌≡◌, ℤ, pos, negsuc, ◌∙◌, arith, w64, SFits, rules}
use Rattle.std.specs.Int.{int_max, int_min}
use Rattle.std.proofs.lemmas.Int.{ints, clamps, to_z-of_z}
use Rattle.rankings.specs.Models.{counted_rate}
use Rattle.rankings.proofs.weighed.Weighed.price.Goals as goal

-- the nearest of 1 to 200, of either sign
counted : (rate : ℤ) → int_max (pos 1) (int_min rate (pos 200)) ≡ pos (counted_rate rate)
counted (pos r) = omega (arith, ints, clamps)
counted (negsuc r) = omega (arith, ints, clamps)

pub returns : goal.returns
returns c =
    let rate = c.args.self.now.rate in
    let f : SFits w64 rate = search rules in
    let g : SFits w64 c.clamp.result = search rules in
    simp to_z-of_z (simp to_z-of_z at c.clamp.ensures.value ∙ counted rate)
