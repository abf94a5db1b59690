-- Sweeps one after another keep the rules. Assumes nothing.
use Rattle.std.proofs.Common.{◌≡◌, ℕ, zero, suc, ◌+◌, Bool, true, sym, subst, ⊎_elim}
use Rattle.std.proofs.lemmas.Bool.{cases_Bool, cond-true, cond-false}
use Rattle.rankings.specs.Costs.{Cost}
use Rattle.rankings.specs.Laws.{Ordered, Linear, Rounds}
use Rattle.rankings.proofs.Derived.{reflexive}
use Rattle.table.specs.declared.table.Table.{Table}
use Rattle.table.specs.declared.page.Page.{Page}
use Rattle.table.proofs.Soundness.{sound_table}
use Rattle.table.specs.declared.figures.Figures.{Figures}
use Rattle.table.specs.Lookahead.{figure_at}
use Rattle.planner.specs.Sweeps.{Shown, shown, sweep_of, moves, sweeps}
use Rattle.planner.specs.Keeping.{ShownKept, InRange, Follows, Keeping, SweepsKeep}
use Rattle.planner.proofs.SweepSteps.{sweep_follows}

module _ {le : Cost → Cost → Bool} (o : Ordered le) (t : Table) where
  pub follows_none : (s : Shown) → InRange s → ShownKept le t s → Follows le t s s
  follows_none s r k = record { ranged = r; kept = k; nearer = record { floors = λ g h. reflexive o (figure_at s.floors g); ceilings = λ g h. reflexive o (figure_at s.ceilings g) } }

  pub follows_then : (a b c : Shown) → Follows le t a b → Follows le t b c → Follows le t a c
  follows_then a b c p q = record {
    ranged = q.ranged;
    kept = q.kept;
    nearer = record {
      floors = λ g h. o.trans (figure_at a.floors g) (figure_at b.floors g) (figure_at c.floors g) (p.nearer.floors g h) (q.nearer.floors g h);
      ceilings = λ g h. o.trans (figure_at c.ceilings g) (figure_at b.ceilings g) (figure_at a.ceilings g) (q.nearer.ceilings g h) (p.nearer.ceilings g h);
    };
  }

-- figures have their ranges by their type
pub figures_in : (f : Figures) → InRange (shown f)
figures_in f = record { rows_long = f.long; floors_long = f.floor.long; ceilings_long = f.ceiling.long; floors_in = f.floor.within; ceilings_in = f.ceiling.within }

pub sweeps_keep : SweepsKeep
sweeps_keep le cheap dear o l laws t sound zero s r k = follows_none o t s r k
sweeps_keep le cheap dear o l laws t sound (suc n) s r k =
    let after = sweep_of le cheap dear t s in
    let once = sweep_follows le cheap dear o l laws t sound s r k in
    let later = sweeps le cheap dear t n after in
    let on : Shown × (ℕ × Bool) = (later.0, (later.1.0 + 1, later.1.1)) in
    let off : Shown × (ℕ × Bool) = (after, (1, true)) in
    ⊎_elim
    (λ e. subst (λ x. Follows le t s x.0) (sym (cond-true (moves le cheap dear t s) on off e)) (follows_then o t s after later.0 once (sweeps_keep le cheap dear o l laws t sound n after once.ranged once.kept)))
    (λ e. subst (λ x. Follows le t s x.0) (sym (cond-false (moves le cheap dear t s) on off e)) once)
    (cases_Bool (moves le cheap dear t s))

-- the figures of a page that was swept
pub swept_keeps : (le : Cost → Cost → Bool) (cheap dear : Cost → ℕ → Cost) → Ordered le → Linear le → Rounds le cheap dear → (p : Page) (n : ℕ) (after : Shown) → after ≡ (sweeps le cheap dear p.sound.table n (shown p.figures)).0 → Keeping le p.sound.table (shown p.figures) after
swept_keeps le cheap dear o l laws p n after e k =
    subst (Follows le p.sound.table (shown p.figures)) (sym e) (sweeps_keep le cheap dear o l laws p.sound.table (sound_table p.sound) n (shown p.figures) (figures_in p.figures) k)
