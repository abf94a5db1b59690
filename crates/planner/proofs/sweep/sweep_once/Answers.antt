use Rattle.std.proofs.Common.{◌≡◌, ◌||◌, refl, sym, ◌∙◌, subst, arith, rules}
use Rattle.table.specs.Lookahead.{figure_at}
use Rattle.table.specs.Ranges.{FigureIn}
use Rattle.table.proofs.Soundness.{sound_table}
use Rattle.planner.specs.Grades.{ChoiceIn}
use Rattle.planner.specs.Keeping.{Follows}
use Rattle.planner.specs.Sweeps.{shown, raised, lowered, sweep_of}
use Rattle.planner.proofs.Follow.{figures_in}
use Rattle.planner.proofs.Givens.{given_all, given_applied, given_parts, given_any}
use Rattle.planner.proofs.SweepSteps.{sweep_follows}
use Rattle.planner.proofs.Tests.{any_given}
use Rattle.planner.proofs.sweep.sweep_once.Goals as goal

pub revised-figures-requires : goal.revised-figures-requires
revised-figures-requires g c =
    record {
      floors = given_all _ _ c.per_grade-raised.ensures FigureIn (λ grade o same r. search rules);
      choices = given_all _ _ c.per_grade-lowered.ensures (ChoiceIn c.args.page.now.sound.table.rows) (λ grade o same r. search rules);
    }

pub returns : goal.returns
returns g c =
    let p = c.args.page.now in
    let t = p.sound.table in
    let s = c.args.ranking.now in
    let le = g.R.Ranking.ranks s in
    let cheap = g.R.Rounding.cheap s in
    let dear = g.R.Rounding.dear s in
    let f = raised le cheap dear t (figure_at p.figures.floor.at) in
    let h = lowered le cheap dear t (figure_at p.figures.ceiling.at) in
    let raises = given_applied _ _ c.per_grade-raised.ensures f (λ grade o same r. search rules) t.grades (omega arith) p.figures.floor.at in
    let raises_any = given_any _ _ c.per_grade-raised.ensures f (λ grade o same r. search rules) t.grades (omega arith) in
    let lowers = given_parts _ _ c.per_grade-lowered.ensures h (λ grade o same r. search rules) (λ c. c.cost) t.grades (omega arith) p.figures.ceiling.at in
    let rows = given_parts _ _ c.per_grade-lowered.ensures h (λ grade o same r. search rules) (λ c. c.row) t.grades (omega arith) p.figures.row in
    let lowers_any = given_any _ _ c.per_grade-lowered.ensures h (λ grade o same r. search rules) t.grades (omega arith) in
    let raised_is = c.some_given.ensures ∙ any_given c.per_grade-raised.result c.per_grade-raised.ensures.long t.grades t.graded.1 ∙ raises_any in
    let lowered_is = c.some_given-2.ensures ∙ any_given c.per_grade-lowered.result c.per_grade-lowered.ensures.long t.grades t.graded.1 ∙ lowers_any in
    let after : shown c.revised-figures.result ≡ sweep_of le cheap dear t (shown p.figures) = c.revised-figures.ensures.after ∙ (λ i. record { rows = rows i; floors = raises i; ceilings = lowers i }) in
    record {
      table = refl;
      after = after;
      moved = λ i. raised_is i || lowered_is i;
      keeps = λ k. subst (Follows le t (shown p.figures)) (sym after) (sweep_follows le cheap dear (g.met.R.Ranking.ordered s) (g.met.R.Ranking.linear s) (g.met.R.Rounding.rounds s) t (sound_table p.sound) (shown p.figures) (figures_in p.figures) k);
    }
