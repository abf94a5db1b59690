-- What sweeps make of figures. Assumes nothing.
use Rattle.std.specs.Prelude.{ℕ, zero, suc, ◌+◌, Bool, true, false, cond, ◌||◌, List, is_some, Some, None, Option, slice_set}
use Rattle.std.specs.Option.{option_map}
use Rattle.rankings.specs.Costs.{Cost}
use Rattle.table.specs.declared.table.Table.{Table}
use Rattle.table.specs.declared.figures.Figures.{Figures}
use Rattle.table.specs.Lookahead.{figure_at, scaling}
use Rattle.planner.specs.declared.choice.Choice.{Choice}
use Rattle.planner.specs.Choices.{cheapest_row}

-- the plan rows, floors and ceilings of all grades
pub record Shown : Type 0 where
  pub rows : List ℕ
  pub floors : List Cost
  pub ceilings : List Cost

abbrev pub shown : Figures → Shown
shown f = record { rows = f.row; floors = f.floor.at; ceilings = f.ceiling.at }

-- the entry i replaced, if there is something to replace it by
abbrev pub replaced : {A : Type 0} → ℕ → Option A → List A → List A
replaced i None xs = xs
replaced i (Some x) xs = slice_set xs i x

-- the entries of the first n grades replaced, each by what is given for its grade
abbrev pub applied : {A : Type 0} → (ℕ → Option A) → ℕ → List A → List A
applied f zero xs = xs
applied f (suc n) xs = replaced n (f (n + 1)) (applied f n xs)

-- whether the test holds of one of 1 to n
abbrev pub any_of : (ℕ → Bool) → ℕ → Bool
any_of p zero = false
any_of p (suc n) = any_of p n || p (n + 1)

module _ (le : Cost → Cost → Bool) (cheap dear : Cost → ℕ → Cost) (t : Table) where
  -- a floor that is dearer than the old one, by the cheapest row
  abbrev pub raise : Cost → Option Choice → Option Cost
  raise old None = None
  raise old (Some c) = cond (le (cheap c.cost (scaling t)) old) None (Some (cheap c.cost (scaling t)))

  -- a ceiling that is cheaper than the old one, by the cheapest row, with that row
  abbrev pub lower : Cost → Option Choice → Option Choice
  lower old None = None
  lower old (Some c) = cond (le old (dear c.cost (scaling t))) None (Some (record { row = c.row; cost = dear c.cost (scaling t) }))

  abbrev pub raised : (ℕ → Cost) → ℕ → Option Cost
  raised w g = raise (w g) (cheapest_row le t w g)

  abbrev pub lowered : (ℕ → Cost) → ℕ → Option Choice
  lowered w g = lower (w g) (cheapest_row le t w g)

  abbrev pub lowered_row : (ℕ → Cost) → ℕ → Option ℕ
  lowered_row w g = option_map (λ c. c.row) (lowered w g)

  abbrev pub lowered_cost : (ℕ → Cost) → ℕ → Option Cost
  lowered_cost w g = option_map (λ c. c.cost) (lowered w g)

  -- one sweep: every new figure comes from the figures before it
  abbrev pub sweep_of : Shown → Shown
  sweep_of s = record {
    rows = applied (lowered_row (figure_at s.ceilings)) t.grades s.rows;
    floors = applied (raised (figure_at s.floors)) t.grades s.floors;
    ceilings = applied (lowered_cost (figure_at s.ceilings)) t.grades s.ceilings;
  }

  -- whether a sweep changes some floor, or some ceiling
  abbrev pub floors_move : List Cost → ℕ → Bool
  floors_move ws n = any_of (λ g. is_some (raised (figure_at ws) g)) n

  abbrev pub ceilings_move : List Cost → ℕ → Bool
  ceilings_move ws n = any_of (λ g. is_some (lowered (figure_at ws) g)) n

  abbrev pub moves : Shown → Bool
  moves s = floors_move s.floors t.grades || ceilings_move s.ceilings t.grades

  -- n sweeps, or up to the first that changes nothing: the figures, the sweeps run, and whether the last changed none
  abbrev pub sweeps : ℕ → Shown → Shown × (ℕ × Bool)
  sweeps zero s = (s, (0, false))
  sweeps (suc n) s = cond (moves s) ((sweeps n (sweep_of s)).0, ((sweeps n (sweep_of s)).1.0 + 1, (sweeps n (sweep_of s)).1.1)) (sweep_of s, (1, true))
