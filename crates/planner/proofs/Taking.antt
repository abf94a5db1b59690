-- Filed lines and the figures made of them are one. Assumes nothing.
use Rattle.std.proofs.Common.{◌≡◌, ℕ, Bool, true, cond, List, Some, None, sym, subst}
use Rattle.std.specs.Option.{option_map}
use Rattle.rankings.specs.Costs.{Cost}
use Rattle.rankings.specs.Laws.{Ordered, Linear}
use Rattle.table.specs.declared.figures.Figures.{Figures}
use Rattle.table.specs.declared.filing.FiledLine.{FiledLine}
use Rattle.table.specs.declared.table.Table.{Table}
use Rattle.table.specs.Filing.{filed_rows, filed_floors, filed_ceilings, Says}
use Rattle.table.specs.Kept.{Kept}
use Rattle.table.specs.Lookahead.{figure_at}
use Rattle.table.specs.Rules.{plan_row}
use Rattle.table.specs.Sound.{Sound}
use Rattle.planner.specs.declared.choice.Choice.{Choice}
use Rattle.planner.specs.Sweeps.{Shown, shown, applied}
use Rattle.planner.specs.Keeping.{ShownKept, Nearer, Follows, nearer_of}
use Rattle.planner.specs.Takings.{filed_shown}
use Rattle.planner.proofs.Follow.{figures_in}
use Rattle.planner.proofs.NearerSteps.{nearer_keeps}

module _ (le : Cost → Cost → Bool) (ls : List FiledLine) (f : Figures) (says : Says f ls) where
  rows_same : plan_row f.row ≡ plan_row (filed_rows ls)
  rows_same = λ i g. says.rows g i

  floors_same : figure_at f.floor.at ≡ figure_at (filed_floors ls)
  floors_same = λ i g. says.floors g i

  ceilings_same : figure_at f.ceiling.at ≡ figure_at (filed_ceilings ls)
  ceilings_same = λ i g. says.ceilings g i

  pub nearer_same : (s : Shown) (n : ℕ) → nearer_of le s (shown f) n ≡ nearer_of le s (filed_shown ls) n
  nearer_same s n = λ i. record {
    rows = applied (λ g. option_map (λ (c : Choice). c.row) (cond (le (figure_at s.ceilings g) (ceilings_same i g)) None (Some (record { row = rows_same i g; cost = ceilings_same i g })))) n s.rows;
    floors = applied (λ g. cond (le (floors_same i g) (figure_at s.floors g)) None (Some (floors_same i g))) n s.floors;
    ceilings = applied (λ g. option_map (λ (c : Choice). c.cost) (cond (le (figure_at s.ceilings g) (ceilings_same i g)) None (Some (record { row = rows_same i g; cost = ceilings_same i g })))) n s.ceilings;
  }

  filed_kept : (t : Table) → ShownKept le t (filed_shown ls) → ShownKept le t (shown f)
  filed_kept t k =
      subst (λ plan. Kept le t plan (figure_at f.floor.at) (figure_at f.ceiling.at)) (sym rows_same)
      (subst (λ w. Kept le t (plan_row (filed_rows ls)) w (figure_at f.ceiling.at)) (sym floors_same)
      (subst (λ w. Kept le t (plan_row (filed_rows ls)) (figure_at (filed_floors ls)) w) (sym ceilings_same) k))

  -- what is taken follows the standing figures, and is as near as the filed ones
  pub taken_keeps : Ordered le → Linear le → (t : Table) → Sound t → (p : Figures) (after : Shown) → after ≡ nearer_of le (shown p) (shown f) t.grades → ShownKept le t (filed_shown ls) → ShownKept le t (shown p) → Follows le t (shown p) after × Nearer le t (filed_shown ls) after
  taken_keeps o l t s p after e filed standing =
      let both = nearer_keeps le o l t s (shown p) (shown f) (figures_in p) (figures_in f) standing (filed_kept t filed) in
      let near : Nearer le t (shown f) after = subst (Nearer le t (shown f)) (sym e) both.1 in (
        subst (Follows le t (shown p)) (sym e) both.0,
        record {
          floors = λ g h. subst (λ x. le x (figure_at after.floors g) ≡ true) (says.floors g) (near.floors g h);
          ceilings = λ g h. subst (λ x. le (figure_at after.ceilings g) x ≡ true) (says.ceilings g) (near.ceilings g h);
        },
      )
