use Rattle.std.proofs.Common.{◌≡◌, ◌-◌, ◌≤◌, Some, None, Option, IfSome, sym, ◌∙◌, subst, arith, rules}
use Rattle.table.specs.declared.page.Page.{Page}
use Rattle.table.specs.declared.grade.Grade.{Grade}
use Rattle.table.specs.Ranges.{Within, FigureIn}
use Rattle.table.specs.Rules.{plan_row}
use Rattle.planner.specs.declared.choice.Choice.{Choice}
use Rattle.planner.specs.Grades.{ChoiceIn}
use Rattle.planner.specs.Keeping.{dearer_floor, cheaper_choice}
use Rattle.planner.specs.Sweeps.{shown}
use Rattle.planner.proofs.Givens.{given_all, given_applied, given_parts}
use Rattle.planner.proofs.filing.nearer_page.Goals as goal

-- a plan row that is filed for a grade of the same table is one of its rows
filed-in : (p q : Page) → q.sound ≡ p.sound → (grade : Grade) → grade.sound.now ≡ p.sound → (o : Option Choice) → IfSome o (λ c. FigureIn c.cost) → IfSome o (λ c. c.row ≡ plan_row q.figures.row grade.number) → IfSome o (ChoiceIn p.sound.table.rows)
filed-in p q one grade same None figure row = tt
filed-in p q one grade same (Some c) figure row =
    let last : grade.number ≤ q.sound.table.grades = subst (λ s. grade.number ≤ s.table.grades) (same ∙ sym one) grade.among.1 in
    let there = q.planned (grade.number - 1) (omega (arith, grade.among.0)) in
    (figure, subst (Within 1 p.sound.table.rows) (sym row) (subst (λ s. Within 1 s.table.rows (plan_row q.figures.row grade.number)) one there))

pub revised-figures-requires : goal.revised-figures-requires
revised-figures-requires g c =
    let p = c.args.standing.now in
    let q = c.args.filed.now in
    record {
      floors = given_all _ _ c.per_grade-floors.ensures FigureIn (λ grade o same r. search rules);
      choices = given_all _ _ c.per_grade-choices.ensures (ChoiceIn p.sound.table.rows) (λ grade o same r.
          let figure : IfSome o (λ c. FigureIn c.cost) = search rules in
          let row : IfSome o (λ c. c.row ≡ plan_row q.figures.row grade.number) = search rules in
          filed-in p q c.requires grade same o figure row);
    }

pub returns-clause-after : goal.returns-clause-after
returns-clause-after g c =
    let p = c.args.standing.now in
    let q = c.args.filed.now in
    let t = p.sound.table in
    let le = g.R.Ranking.ranks c.args.ranking.now in
    let f = dearer_floor le (shown p.figures) (shown q.figures) in
    let h = cheaper_choice le (shown p.figures) (shown q.figures) in
    let floors = given_applied _ _ c.per_grade-floors.ensures f (λ grade o same r. search rules) t.grades (omega arith) p.figures.floor.at in
    let ceilings = given_parts _ _ c.per_grade-choices.ensures h (λ grade o same r. search rules) (λ c. c.cost) t.grades (omega arith) p.figures.ceiling.at in
    let rows = given_parts _ _ c.per_grade-choices.ensures h (λ grade o same r. search rules) (λ c. c.row) t.grades (omega arith) p.figures.row in
    c.revised-figures.ensures.after ∙ (λ i. record { rows = rows i; floors = floors i; ceilings = ceilings i })
