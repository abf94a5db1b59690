-- The three rankings keep the laws. Assumes nothing.
use Rattle.std.specs.Prelude.{◌≡◌, ℕ, true, pos, ◌≤ℤ◌, refl}
use Rattle.std.proofs.Common.{◌∙◌, arith}
use Rattle.std.proofs.lemmas.Int.{ints}
use Rattle.rankings.specs.Costs.{Cost}
use Rattle.rankings.specs.Laws.{Ordered, Linear, SomeDearer}
use Rattle.rankings.specs.Models.{by_money, by_money_then_minutes, by_weight}
use Rattle.rankings.specs.Orders.{le_z_adds, lt_z_adds, le_z_scales, lt_z_scales}
use Rattle.rankings.specs.Weights.{weight_plus, weight_times, weight_mono}

-- ---- money only
pub money_ordered : Ordered by_money
money_ordered = record {
  total = λ a b d. grind (arith, ints);
  trans = λ a b c p q. grind (arith, ints);
}

pub money_linear : Linear by_money
money_linear = record {
  adds = λ a b c e. le_z_adds a.0 b.0 c.0 ∙ e;
  scales = λ k a b h e. le_z_scales k a.0 b.0 h ∙ e;
  scales_opposite = λ k a b h e. le_z_scales k a.0 b.0 h ∙ e;
}

pub money_some : SomeDearer by_money
money_some = ((pos 1, pos 0), refl)

pub money_mono : (a b : Cost) → a.0 ≤ℤ b.0 → a.1 ≤ℤ b.1 → by_money a b ≡ true
money_mono a b p q = grind (arith, ints)

-- ---- money then minutes
pub minutes_ordered : Ordered by_money_then_minutes
minutes_ordered = record {
  total = λ a b d. grind (arith, ints);
  trans = λ a b c p q. grind (arith, ints);
}

pub minutes_linear : Linear by_money_then_minutes
minutes_linear = record {
  adds = λ a b c e. simp (lt_z_adds, le_z_adds) e;
  scales = λ k a b h e. simp (lt_z_scales, le_z_scales) e;
  scales_opposite = λ k a b h d. simp (lt_z_scales, le_z_scales) d;
}

pub minutes_some : SomeDearer by_money_then_minutes
minutes_some = ((pos 1, pos 0), refl)

pub minutes_mono : (a b : Cost) → a.0 ≤ℤ b.0 → a.1 ≤ℤ b.1 → by_money_then_minutes a b ≡ true
minutes_mono a b p q = grind (arith, ints)

-- ---- weighed minutes, at any rate
pub weight_ordered : (r : ℕ) → Ordered (by_weight r)
weight_ordered r = record {
  total = λ a b d. grind (arith, ints);
  trans = λ a b c p q. grind (arith, ints);
}

pub weight_linear : (r : ℕ) → Linear (by_weight r)
weight_linear r = record {
  adds = λ a b c e. simp (weight_plus, le_z_adds) e;
  scales = λ k a b h e. simp (weight_times, le_z_scales) e;
  scales_opposite = λ k a b h d. simp (weight_times, le_z_scales) d;
}

pub weight_some : (r : ℕ) → SomeDearer (by_weight r)
weight_some r = ((pos 1, pos 0), grind (arith, ints))

pub weight_le : (r : ℕ) (a b : Cost) → a.0 ≤ℤ b.0 → a.1 ≤ℤ b.1 → by_weight r a b ≡ true
weight_le r a b p q = grind (arith, ints, weight_mono r a b p q)
