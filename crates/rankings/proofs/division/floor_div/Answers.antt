-- The quotient and the remainder fit 64 bits, so what the machine computes is what they are; then the sign of the
-- remainder says which lemma applies.
use Rattle.std.proofs.Common.{◌≡◌, ◌<◌, ◌≤◌, ℤ, subst, nat_abs, pos, ◌-ℤ◌, ◌≤ℤ◌, ◌<ℤ◌, arith}
use lib.Signed.{quot_z, rem_z}
use Rattle.std.proofs.lemmas.Int.{ints, to_z-of_z}
use Rattle.rankings.specs.Costs.{floor}
use Rattle.rankings.specs.Quotients.{floor_less, floor_same, floor_within, floor_down}
use Rattle.rankings.proofs.Machine.{positive, divisor_fits, quotient_fits, less_fits, remainder_fits}
use Rattle.rankings.proofs.division.floor_div.Goals as goal

pub returns-then-x-m-lt0 : goal.returns-then-x-m-lt0
returns-then-x-m-lt0 c =
    let x = c.args.x in
    let m = c.from-m.result in
    let by = c.from-m.ensures in
    let fx = c.ranges.x in
    let b = c.args.m.by in
    let low = c.args.m.positive in
    let high = c.args.m.bounded in
    let p = positive x m b c.requires by low high in
    let fm = divisor_fits x m b c.requires by low high in
    let fq = quotient_fits x m b c.requires by low high in
    let fl = less_fits x m b c.requires by low high in
    let fr = remainder_fits x m b c.requires by low high in
    let t = simp to_z-of_z at c.if-x-m-lt0.true in
    let r : rem_z x m <ℤ pos 0 = omega (arith, ints) in
    let e = subst (λ (j : ℤ). quot_z x m -ℤ pos 1 ≡ floor x (nat_abs j)) by (floor_less x m p r) in
    let h : 0 < c.args.m.by = omega arith in
    record {
      is = simp to_z-of_z e;
      down = simp to_z-of_z (rw e (floor_down x c.args.m.by h));
      small = simp to_z-of_z (rw e (subst (λ (j : ℤ). nat_abs (floor x (nat_abs j)) ≤ nat_abs x) by (floor_within x m p)));
    }

pub returns-else-x-m-lt0 : goal.returns-else-x-m-lt0
returns-else-x-m-lt0 c =
    let x = c.args.x in
    let m = c.from-m.result in
    let by = c.from-m.ensures in
    let fx = c.ranges.x in
    let b = c.args.m.by in
    let low = c.args.m.positive in
    let high = c.args.m.bounded in
    let p = positive x m b c.requires by low high in
    let fm = divisor_fits x m b c.requires by low high in
    let fq = quotient_fits x m b c.requires by low high in
    let fr = remainder_fits x m b c.requires by low high in
    let t = simp to_z-of_z at c.if-x-m-lt0.false in
    let r : pos 0 ≤ℤ rem_z x m = omega (arith, ints) in
    let e = subst (λ (j : ℤ). quot_z x m ≡ floor x (nat_abs j)) by (floor_same x m p r) in
    let h : 0 < c.args.m.by = omega arith in
    record {
      is = simp to_z-of_z e;
      down = simp to_z-of_z (rw e (floor_down x c.args.m.by h));
      small = simp to_z-of_z (rw e (subst (λ (j : ℤ). nat_abs (floor x (nat_abs j)) ≤ nat_abs x) by (floor_within x m p)));
    }
