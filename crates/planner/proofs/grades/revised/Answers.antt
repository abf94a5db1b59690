use Rattle.std.proofs.Common.{get_or, length, None, sym, ap, ◌∙◌, subst, arith, rules}
use Rattle.std.specs.Option.{option_map}
use Rattle.table.specs.Ranges.{Within, FirstsIn, FigureIn, FiguresIn}
use Rattle.planner.specs.Grades.{ChoiceIn, given_for, ceiling_for, row_for}
use Rattle.planner.proofs.Givens.{here}
use Rattle.planner.proofs.Replacing.{applied_long, applied_figures, applied_rows, part_holds}
use Rattle.planner.proofs.grades.revised.Goals as goal

pub invariant_of-result : goal.invariant_of-result
invariant_of-result c =
    let t = c.args.page.now.sound.table in
    let old = c.args.page.now.figures.floor in
    let new = given_for c.args.floors.now in
    let is = c.replaced-floor.ensures (λ i. get_or c.args.floors.now i None) (λ i r h p. search rules) in
    record {
      within = subst FiguresIn (sym is) (applied_figures t.grades new old.at t.graded.1 old.long old.within (here FigureIn c.args.floors.now c.requires.floors));
      long = ap length is ∙ applied_long new t.grades old.at ∙ old.long;
    }

pub invariant_of-result-2 : goal.invariant_of-result-2
invariant_of-result-2 c =
    let old = c.args.page.now.figures.ceiling in
    let t = c.args.page.now.sound.table in
    let choices = c.args.choices.now in
    let new = ceiling_for choices in
    let is = c.replaced-ceiling.ensures (λ i. option_map (λ c. c.cost) (get_or choices i None)) (λ i r h p. search rules) in
    record {
      within = subst FiguresIn (sym is) (applied_figures t.grades new old.at t.graded.1 old.long old.within (λ i h. part_holds (λ c. c.cost) FigureIn (ChoiceIn t.rows) _ (λ c p. p.0) (here (ChoiceIn t.rows) choices c.requires.choices i h)));
      long = ap length is ∙ applied_long new t.grades old.at ∙ old.long;
    }

pub returns-clause-planned : goal.returns-clause-planned
returns-clause-planned c =
    let old = c.args.page.now in
    let t = old.sound.table in
    let choices = c.args.choices.now in
    let is = c.replaced-row.ensures (λ i. option_map (λ c. c.row) (get_or choices i None)) (λ i r h p. search rules) in
    subst (FirstsIn t.grades t.rows) (sym is)
    (applied_rows t.grades t.grades t.rows (row_for choices) old.figures.row (omega arith) t.graded.1 old.figures.long old.planned (λ i h. part_holds (λ c. c.row) (Within 1 t.rows) (ChoiceIn t.rows) _ (λ c p. p.1) (here (ChoiceIn t.rows) choices c.requires.choices i h)))

pub returns-clause-after : goal.returns-clause-after
returns-clause-after c =
    let choices = c.args.choices.now in
    let floors = c.replaced-floor.ensures (λ i. get_or c.args.floors.now i None) (λ i r h p. search rules) in
    let ceilings = c.replaced-ceiling.ensures (λ i. option_map (λ c. c.cost) (get_or choices i None)) (λ i r h p. search rules) in
    let rows = c.replaced-row.ensures (λ i. option_map (λ c. c.row) (get_or choices i None)) (λ i r h p. search rules) in
    λ i. record { rows = rows i; floors = floors i; ceilings = ceilings i }
