-- Policies over the past, what they cost, and the bounds that figures give. Assumes nothing.
use Rattle.std.specs.Prelude.{◌≡◌, ℕ, zero as none, suc, ◌*◌, ◌^◌, Bool, true, List, [], ◌∷◌, ◌++◌}
use Rattle.rankings.specs.Costs.{Cost, plus, times, zero, negated}
use Rattle.rankings.specs.Laws.{Ordered, Linear}
use Rattle.table.specs.declared.table.Table.{Table}
use Rattle.table.specs.Ranges.{Within}
use Rattle.table.specs.Chains.{row_at, arcs_of}
use Rattle.table.specs.Sound.{Sound}
use Rattle.table.specs.Lookahead.{mean, scaling, X}
use Rattle.table.specs.Kept.{RowOf, FloorRule}
use Rattle.planner.specs.Start.{dearest_among}

-- a policy (a rule over the past) names, for every list of grades seen, the present one last, a row of the present grade
pub record Policy (t : Table) (names : List ℕ → ℕ) : Type 0 where
  pub row : (past : List ℕ) (g : ℕ) → Within 1 t.grades g → RowOf t g (names (past ++ g ∷ []))

-- E(n, past): the expected discounted cost of n steps under a policy, scaled to whole numbers
abbrev pub E : Table → (List ℕ → ℕ) → ℕ → List ℕ → Cost
E t names none past = zero
E t names (suc n) past =
    plus (times (t.fineness * scaling t ^ suc n) (row_at t (names past)).cost)
    (times t.numerator (mean t (λ d. E t names n (past ++ d ∷ [])) (arcs_of t (names past))))

-- the policy that always names the present grade's plan row
abbrev pub last : List ℕ → ℕ
last [] = 0
last (g ∷ []) = g
last (g ∷ h ∷ gs) = last (h ∷ gs)

abbrev pub always : (ℕ → ℕ) → List ℕ → ℕ
always plan past = plan (last past)

module _ (le : Cost → Cost → Bool) (t : Table) where
  -- ceiling rule: X(plan row, ceilings) is no dearer than b · D · the ceiling
  abbrev pub CeilingRule : (ℕ → ℕ) → (ℕ → Cost) → Type 0
  CeilingRule plan w = (g : ℕ) → Within 1 t.grades g → RowOf t g (plan g) × (le (X t (plan g) w) (times (scaling t) (w g)) ≡ true)

-- w 1, .., w n
abbrev pub up_to : (ℕ → Cost) → ℕ → List Cost
up_to w none = []
up_to w (suc n) = up_to w n ++ w (suc n) ∷ []

-- the dearest of zero and all figures
abbrev pub dearest_figure : (Cost → Cost → Bool) → Table → (ℕ → Cost) → Cost
dearest_figure le t w = dearest_among le zero (up_to w t.grades)

-- no policy costs less than the floors say, but for a tail that the discount wears away
abbrev pub FloorsBound : Type 0
FloorsBound = (le : Cost → Cost → Bool) → Ordered le → Linear le → (t : Table) → Sound t → (w : ℕ → Cost) → FloorRule le t w →
    (names : List ℕ → ℕ) → Policy t names → (n g : ℕ) → Within 1 t.grades g →
    le (times (scaling t ^ n) (w g)) (plus (E t names n (g ∷ [])) (times ((t.numerator * t.total) ^ n) (dearest_figure le t w))) ≡ true

-- the plan costs no more than the ceilings say, but for such a tail
abbrev pub CeilingsBound : Type 0
CeilingsBound = (le : Cost → Cost → Bool) → Ordered le → Linear le → (t : Table) → Sound t → (plan : ℕ → ℕ) (w : ℕ → Cost) → CeilingRule le t plan w →
    (n g : ℕ) → Within 1 t.grades g →
    le (E t (always plan) n (g ∷ [])) (plus (times (scaling t ^ n) (w g)) (times ((t.numerator * t.total) ^ n) (dearest_figure le t (λ h. negated (w h))))) ≡ true
