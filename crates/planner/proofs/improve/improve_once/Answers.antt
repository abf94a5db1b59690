use Rattle.std.proofs.Common.{◌≡◌, get_or, length, is_some, None, refl, sym, ap, ◌∙◌, subst, arith, rules}
use Rattle.table.specs.Lookahead.{figure_at}
use Rattle.table.specs.Ranges.{Within, FirstsIn, FigureIn, FiguresIn}
use Rattle.table.proofs.Soundness.{sound_table}
use Rattle.planner.specs.Grades.{given_for}
use Rattle.planner.specs.Improvements.{count_of, eased, eased_ceilings, given, round_of}
use Rattle.planner.specs.Keeping.{Follows}
use Rattle.planner.specs.Sweeps.{shown, applied}
use Rattle.planner.proofs.Follow.{figures_in}
use Rattle.planner.proofs.Givens.{here, given_all, given_applied, given_count}
use Rattle.planner.proofs.Replacing.{applied_long, applied_figures, applied_rows}
use Rattle.planner.proofs.RoundSteps.{round_follows}
use Rattle.planner.proofs.Tests.{count_given}
use Rattle.planner.proofs.improve.improve_once.Goals as goal

pub invariant_of-improved : goal.invariant_of-improved
invariant_of-improved g c =
    let t = c.args.page.now.sound.table in
    let old = c.args.page.now.figures.ceiling in
    let eased = c.per_grade-eased.result in
    let is = c.replaced-ceilings.ensures (λ i. get_or eased i None) (λ i r h p. search rules) in
    let within = given_all _ _ c.per_grade-eased.ensures FigureIn (λ grade o same r. search rules) in
    record {
      within = subst FiguresIn (sym is) (applied_figures t.grades (given_for eased) old.at t.graded.1 old.long old.within (here FigureIn eased within));
      long = ap length is ∙ applied_long (given_for eased) t.grades old.at ∙ old.long;
    }

pub invariant_of-improved-5 : goal.invariant_of-improved-5
invariant_of-improved-5 g c =
    let old = c.args.page.now in
    let t = old.sound.table in
    let better = c.per_grade-better.result in
    let is = c.replaced-improved.ensures (λ i. get_or better i None) (λ i r h p. search rules) in
    let within = given_all _ _ c.per_grade-better.ensures (Within 1 t.rows) (λ grade o same r. search rules) in
    record { planned = subst (FirstsIn t.grades t.rows) (sym is) (applied_rows t.grades t.grades t.rows (given_for better) old.figures.row (omega arith) t.graded.1 old.figures.long old.planned (here (Within 1 t.rows) better within)) }

pub returns : goal.returns
returns g c =
    let p = c.args.page.now in
    let t = p.sound.table in
    let s = c.args.ranking.now in
    let le = g.R.Ranking.ranks s in
    let dear = g.R.Rounding.dear s in
    let old = shown p.figures in
    let f = eased le dear t p.figures.row (figure_at p.figures.ceiling.at) in
    let high = c.replaced-ceilings.ensures (λ i. get_or c.per_grade-eased.result i None) (λ i r h p. search rules) ∙ given_applied _ _ c.per_grade-eased.ensures f (λ grade o same r. search rules) t.grades (omega arith) p.figures.ceiling.at in
    let new = given le dear t p.figures.row (figure_at c.replaced-ceilings.result) in
    let gives = given le dear t p.figures.row (figure_at (eased_ceilings le dear t old)) in
    let same : new ≡ gives = ap (λ ws. given le dear t p.figures.row (figure_at ws)) high in
    let rows = c.replaced-improved.ensures (λ i. get_or c.per_grade-better.result i None) (λ i r h p. search rules) ∙ given_applied _ _ c.per_grade-better.ensures new (λ grade o same r. search rules) t.grades (omega arith) p.figures.row in
    let count = c.count_given.ensures ∙ count_given c.per_grade-better.result c.per_grade-better.ensures.long t.grades t.graded.1 ∙ given_count _ _ c.per_grade-better.ensures new (λ grade o same r. search rules) t.grades (omega arith) in
    let after : _ ≡ round_of le dear t old = (λ i. record { rows = (rows ∙ ap (λ h. applied h t.grades p.figures.row) same) i; floors = p.figures.floor.at; ceilings = high i }) in
    record {
      table = refl;
      after = after;
      gave_way = count ∙ ap (λ h. count_of (λ k. is_some (h k)) t.grades) same;
      keeps = λ k. subst (Follows le t old) (sym after) (round_follows le (g.R.Rounding.cheap s) dear (g.met.R.Ranking.ordered s) (g.met.R.Ranking.linear s) (g.met.R.Rounding.rounds s) t (sound_table p.sound) old (figures_in p.figures) k);
    }
