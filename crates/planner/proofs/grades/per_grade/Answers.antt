use Rattle.std.proofs.Common.{◌≡◌, ◌+◌, ◌≤◌, ap, ◌∙◌, subst, arith}
use Rattle.planner.proofs.Givens.{given_more, given_none}
use Rattle.planner.proofs.grades.per_grade.Goals as goal

pub loop-grade-init : goal.loop-grade-init
loop-grade-init g c =
    let same = c.into_iter-grade-iterator.ensures.into_iter_gives in
    let none : c.into_iter-grade-iterator.result.passed ≡ 0 = ap (λ x. x.passed) same ∙ c.grades-grade-items.ensures.start in
    (ap (λ x. x.sound.now) same ∙ c.grades-grade-items.ensures.sound, omega (arith, none), given_none _ none)

pub loop-grade-preserved : goal.loop-grade-preserved
loop-grade-preserved g c =
    let steps = c.in-Some.ensures.steps in
    let grade = c.in-Some.grade in
    let t = c.args.sound.now.table in
    let before = c.loop-grade.grade-iterator.passed in
    let sound = ap (λ x. x.now) steps.0 ∙ c.loop-grade.invariant.0 in
    let here = ap (λ x. x.now) steps.1.0 ∙ c.loop-grade.invariant.0 in
    let number : grade.number ≡ before + 1 = steps.1.1 in
    let last : grade.number ≤ t.grades = subst (λ s. grade.number ≤ s.table.grades) here grade.among.1 in
    let passed : c.next.new.self.passed ≡ before + 1 = steps.1.2 in (
      sound,
      omega (arith, passed, number, last),
      given_more before c.loop-grade.given c.loop-grade.invariant.2 (omega (arith, number, last, t.graded.1)) grade c.give.result here number c.give.ensures _ passed,
    )
