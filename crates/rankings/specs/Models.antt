-- The three rankings, and the rounding that all three share. Assumes nothing.
use Rattle.std.specs.Prelude.{ℕ, min, max, Bool, true, false, cond, ℤ, pos, negsuc, ◌+ℤ◌, ◌*ℤ◌, int_le, int_lt}
use Rattle.rankings.specs.Costs.{Cost, floor, ceil}

-- money only: the first parts are compared
abbrev pub by_money : Cost → Cost → Bool
by_money a b = int_le a.0 b.0

-- money then minutes: the first parts, and where those are equal the second ones
abbrev pub by_money_then_minutes : Cost → Cost → Bool
by_money_then_minutes a b = cond (int_lt a.0 b.0) true (cond (int_lt b.0 a.0) false (int_le a.1 b.1))

-- the rate that a given one counts as: below 1 as 1, above 200 as 200
abbrev pub counted_rate : ℤ → ℕ
counted_rate (pos r) = max 1 (min r 200)
counted_rate (negsuc r) = 1

-- the first part, and r times the second
abbrev pub weight : ℕ → Cost → ℤ
weight r a = a.0 +ℤ pos r *ℤ a.1

-- weighed minutes: the weights are compared
abbrev pub by_weight : ℕ → Cost → Cost → Bool
by_weight r a b = int_le (weight r a) (weight r b)

-- each part over m, taken down
abbrev pub both_down : Cost → ℕ → Cost
both_down c m = (floor c.0 m, floor c.1 m)

-- each part over m, taken up
abbrev pub both_up : Cost → ℕ → Cost
both_up c m = (ceil c.0 m, ceil c.1 m)
