-- The quotient and the remainder fit 64 bits, so what the machine computes is what they are; then the sign of the
-- remainder says which lemma applies.
use Rattle.std.proofs.Common.{◌≡◌, ◌<◌, ◌≤◌, ℤ, subst, nat_abs, pos, ◌+ℤ◌, ◌≤ℤ◌, ◌<ℤ◌, arith}
use lib.Signed.{quot_z, rem_z}
use Rattle.std.proofs.lemmas.Int.{ints, to_z-of_z}
use Rattle.rankings.specs.Costs.{ceil}
use Rattle.rankings.specs.Quotients.{ceil_more, ceil_same, ceil_within, ceil_up}
use Rattle.rankings.proofs.Machine.{positive, divisor_fits, quotient_fits, more_fits, remainder_fits}
use Rattle.rankings.proofs.division.ceil_div.Goals as goal

pub returns-then-x-m-gt0 : goal.returns-then-x-m-gt0
returns-then-x-m-gt0 c =
    let x = c.args.x in
    let m = c.from-m.result in
    let by = c.from-m.ensures in
    let fx = c.ranges.x in
    let b = c.args.m.by in
    let low = c.args.m.positive in
    let high = c.args.m.bounded in
    let p = positive x m b c.requires by low high in
    let fm = divisor_fits x m b c.requires by low high in
    let fq = quotient_fits x m b c.requires by low high in
    let fl = more_fits x m b c.requires by low high in
    let fr = remainder_fits x m b c.requires by low high in
    let t = simp to_z-of_z at c.if-x-m-gt0.true in
    let r : pos 0 <ℤ rem_z x m = omega (arith, ints) in
    let e = subst (λ (j : ℤ). quot_z x m +ℤ pos 1 ≡ ceil x (nat_abs j)) by (ceil_more x m p r) in
    let h : 0 < c.args.m.by = omega arith in
    record {
      is = simp to_z-of_z e;
      up = simp to_z-of_z (rw e (ceil_up x c.args.m.by h));
      small = simp to_z-of_z (rw e (subst (λ (j : ℤ). nat_abs (ceil x (nat_abs j)) ≤ nat_abs x) by (ceil_within x m p)));
    }

pub returns-else-x-m-gt0 : goal.returns-else-x-m-gt0
returns-else-x-m-gt0 c =
    let x = c.args.x in
    let m = c.from-m.result in
    let by = c.from-m.ensures in
    let fx = c.ranges.x in
    let b = c.args.m.by in
    let low = c.args.m.positive in
    let high = c.args.m.bounded in
    let p = positive x m b c.requires by low high in
    let fm = divisor_fits x m b c.requires by low high in
    let fq = quotient_fits x m b c.requires by low high in
    let fr = remainder_fits x m b c.requires by low high in
    let t = simp to_z-of_z at c.if-x-m-gt0.false in
    let r : rem_z x m ≤ℤ pos 0 = omega (arith, ints) in
    let e = subst (λ (j : ℤ). quot_z x m ≡ ceil x (nat_abs j)) by (ceil_same x m p r) in
    let h : 0 < c.args.m.by = omega arith in
    record {
      is = simp to_z-of_z e;
      up = simp to_z-of_z (rw e (ceil_up x c.args.m.by h));
      small = simp to_z-of_z (rw e (subst (λ (j : ℤ). nat_abs (ceil x (nat_abs j)) ≤ nat_abs x) by (ceil_within x m p)));
    }
