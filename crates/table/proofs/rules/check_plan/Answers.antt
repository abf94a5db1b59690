use Rattle.std.proofs.Common.{not, sym, ap, ◌∙◌}
use Rattle.table.specs.declared.fault.FiguresFault.TheVariants.{PlanRow}
use Rattle.table.specs.Rules.{strays, first_stray}
use Rattle.table.proofs.Pairs.{one_here, one_later}
use Rattle.table.proofs.rules.check_plan.Goals as goal

pub returns-then-not-has_row : goal.returns-then-not-has_row
returns-then-not-has_row c =
    one_here strays c.args.rows.now c.in-Some.grade c.loop-grade.grade-iterator.sound c.args.sound.now c.in-Some.ensures.steps.1.0 c.loop-grade.invariant.0 c.loop-grade.grade-iterator.passed c.in-Some.ensures.steps.1.1
    c.plan_row-row.result c.plan_row-row.ensures (first_stray c.args.sound.now.table c.args.rows.now) c.loop-grade.invariant.1 PlanRow (ap not (sym c.if-not-has_row.ensures))

pub loop-grade-preserved : goal.loop-grade-preserved
loop-grade-preserved c = (
  ap (λ b. b.now) c.in-Some.ensures.steps.0 ∙ c.loop-grade.invariant.0,
  one_later strays c.args.rows.now c.in-Some.grade c.loop-grade.grade-iterator.sound c.args.sound.now c.in-Some.ensures.steps.1.0 c.loop-grade.invariant.0 c.loop-grade.grade-iterator.passed c.in-Some.ensures.steps.1.1
      c.plan_row-row.result c.plan_row-row.ensures (first_stray c.args.sound.now.table c.args.rows.now) c.loop-grade.invariant.1 c.next.new.self.passed c.in-Some.ensures.steps.1.2 (ap not (sym c.if-not-has_row.ensures)),
)
