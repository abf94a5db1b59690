use Rattle.std.proofs.Common.{◌≡◌, ◌≤◌, ℤ, ◌+ℤ◌, nat_abs, refl, arith, w64, SFits, to_z, of_z, rules}
use Rattle.std.proofs.lemmas.Int.{ints}
use Rattle.rankings.specs.Costs.{ranked_part}
use Rattle.rankings.proofs.costs.add.Goals as goal

-- a sum that is small enough is what the machine makes of it
sum_is : (x y : ℤ) → SFits w64 x → SFits w64 y → nat_abs (x +ℤ y) ≤ ranked_part → to_z w64 (of_z w64 (to_z w64 (of_z w64 x) +ℤ to_z w64 (of_z w64 y))) ≡ x +ℤ y
sum_is x y fx fy h = omega (arith, ints)

pub returns : goal.returns
returns c =
    let a = c.args.a in
    let b = c.args.b in
    let e = sum_is a.0 b.0 (search rules) (search rules) c.requires.0 in
    let f = sum_is a.1 b.1 (search rules) (search rules) c.requires.1 in
    rw (e, f) (record { is = refl; modest = c.requires })
