-- Why the numbers fit: no part of X is larger than b · D · 10 ^ 10, and so than 10 ^ 16. Assumes nothing.
use Rattle.std.proofs.Common.{ℕ, ◌+◌, ◌-◌, ◌*◌, ◌^◌, ◌≤◌, mul_assoc, add-mul, mul-le-mul, arith}
use Rattle.rankings.specs.Costs.{Cost, Within, Modest, plus, times}
use Rattle.rankings.proofs.Sizes.{within_more, plus_within, times_within}
use Rattle.table.specs.declared.table.Table.{Table}
use Rattle.table.specs.Ranges.{Within as Between}
use Rattle.table.specs.Chains.{row_at}
use Rattle.table.specs.Lookahead.{scaling}

module _ (t : Table) where
  pub scaling-≤ : scaling t ≤ 10 ^ 6
  scaling-≤ = mul-le-mul t.discounted.1 t.weighed.1

  pub scaling_some : 1 ≤ scaling t
  scaling_some = mul-le-mul t.discounted.0 t.weighed.0

  fine : t.fineness * scaling t ≤ 100 * (1000 * t.total)
  fine = mul-le-mul t.fine.1 (mul-le-mul t.discounted.1 (omega arith))

  pub fine-≤ : t.fineness * scaling t ≤ 10 ^ 8
  fine-≤ = omega (arith, fine, t.weighed.1)

  -- the room that the discount leaves is wide enough for a row's own cost, since b ≤ 1,000
  room : (t.fineness * scaling t) * 100000 + t.numerator * (t.total * 10 ^ 10) ≤ scaling t * 10 ^ 10
  room =
      let more : t.numerator + 1 ≤ t.denominator = omega (arith, t.shrinking) in
      let one : (t.numerator + 1) * (t.total * 10 ^ 10) ≤ t.denominator * (t.total * 10 ^ 10) = mul-le-mul more (omega arith) in
      omega (arith, fine, one, add-mul t.numerator 1 (t.total * 10 ^ 10), mul_assoc t.denominator t.total (10 ^ 10))

  pub own_within : (k : ℕ) → Between 1 t.rows k → Within ((t.fineness * scaling t) * 100000) (times (t.fineness * scaling t) (row_at t k).cost)
  own_within k h =
      let here = t.rowsin (k - 1) (omega arith) in
      times_within (t.fineness * scaling t) (t.fineness * scaling t) 100000 (row_at t k).cost (omega arith) (here.2, here.3)

  pub later_within : (s : Cost) → Within (t.total * 10 ^ 10) s → Within (t.numerator * (t.total * 10 ^ 10)) (times t.numerator s)
  later_within s h = times_within t.numerator t.numerator (t.total * 10 ^ 10) s (omega arith) h

  pub both_within : (a b : Cost) → Within ((t.fineness * scaling t) * 100000) a → Within (t.numerator * (t.total * 10 ^ 10)) b → Within (scaling t * 10 ^ 10) (plus a b)
  both_within a b p q = within_more _ (scaling t * 10 ^ 10) (plus a b) room (plus_within _ _ a b p q)

  pub scaled_modest : (c : Cost) → Within (scaling t * 10 ^ 10) c → Modest c
  scaled_modest c h = within_more (scaling t * 10 ^ 10) (10 ^ 16) c (omega (arith, scaling-≤)) h

  pub own_modest : (c : Cost) → Within ((t.fineness * scaling t) * 100000) c → Modest c
  own_modest c h = within_more ((t.fineness * scaling t) * 100000) (10 ^ 16) c (omega (arith, fine-≤)) h

  pub later_modest : (c : Cost) → Within (t.numerator * (t.total * 10 ^ 10)) c → Modest c
  later_modest c h = within_more (t.numerator * (t.total * 10 ^ 10)) (10 ^ 16) c (omega (arith, room, scaling-≤)) h
