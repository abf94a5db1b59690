-- What improvement rounds make of plan rows and ceilings. Assumes nothing.
use Rattle.std.specs.Prelude.{ℕ, zero, suc, ◌+◌, Bool, cond, List, is_some, Some, None, Option}
use Rattle.rankings.specs.Costs.{Cost}
use Rattle.table.specs.declared.table.Table.{Table}
use Rattle.table.specs.Lookahead.{figure_at, scaling, lookahead_of}
use Rattle.table.specs.Rules.{plan_row}
use Rattle.planner.specs.declared.choice.Choice.{Choice}
use Rattle.planner.specs.Choices.{cheapest_row}
use Rattle.planner.specs.Sweeps.{Shown, applied}

-- of how many of 1 to n the test holds
abbrev pub count_of : (ℕ → Bool) → ℕ → ℕ
count_of p zero = 0
count_of p (suc n) = count_of p n + cond (p (n + 1)) 1 0

module _ (le : Cost → Cost → Bool) (dear : Cost → ℕ → Cost) (t : Table) where
  -- a ceiling that is cheaper than the old one, by X of the plan row
  abbrev pub ease : Cost → Option Cost → Option Cost
  ease old None = None
  ease old (Some x) = cond (le old (dear x (scaling t))) None (Some (dear x (scaling t)))

  abbrev pub eased : List ℕ → (ℕ → Cost) → ℕ → Option Cost
  eased rows w g = ease (w g) (lookahead_of t (plan_row rows g) w)

  -- all ceilings after a round
  abbrev pub eased_ceilings : Shown → List Cost
  eased_ceilings s = applied (eased s.rows (figure_at s.ceilings)) t.grades s.ceilings

  -- the row that a plan row gives way to: the grade's cheapest, if that is cheaper
  abbrev pub give : Option Cost → Option Choice → Option ℕ
  give None o = None
  give (Some x) None = None
  give (Some x) (Some c) = cond (le x c.cost) None (Some c.row)

  abbrev pub given : List ℕ → (ℕ → Cost) → ℕ → Option ℕ
  given rows w g = give (lookahead_of t (plan_row rows g) w) (cheapest_row le t w g)

  -- one round: ceilings from the figures before it, then rows over the new ceilings; floors stay
  abbrev pub round_of : Shown → Shown
  round_of s = record {
    rows = applied (given s.rows (figure_at (eased_ceilings s))) t.grades s.rows;
    floors = s.floors;
    ceilings = eased_ceilings s;
  }

  -- how many plan rows give way in a round
  abbrev pub giving_way : Shown → ℕ
  giving_way s = count_of (λ g. is_some (given s.rows (figure_at (eased_ceilings s)) g)) t.grades

  -- n rounds: the figures, and how many times a row gave way
  abbrev pub rounds : ℕ → Shown → Shown × ℕ
  rounds zero s = (s, 0)
  rounds (suc n) s = ((rounds n (round_of s)).0, giving_way s + (rounds n (round_of s)).1)
