use Rattle.std.proofs.Common.{not, sym, ap, ◌∙◌}
use Rattle.table.specs.declared.fault.FiguresFault.TheVariants.{Ceiling}
use Rattle.table.specs.Lookahead.{figure_at}
use Rattle.table.specs.Rules.{breaks_ceiling, first_ceiling}
use Rattle.table.proofs.Pairs.{one_here, one_later}
use Rattle.table.proofs.rules.check_ceilings.Goals as goal

pub returns-then-not-keeps_ceiling : goal.returns-then-not-keeps_ceiling
returns-then-not-keeps_ceiling g c =
    let le = g.R.Ranking.ranks c.args.ranking.now in
    one_here (λ t. breaks_ceiling le t (figure_at c.args.ceilings.now.at)) c.args.rows.now c.in-Some.grade c.loop-grade.grade-iterator.sound c.args.sound.now c.in-Some.ensures.steps.1.0 c.loop-grade.invariant.0
    c.loop-grade.grade-iterator.passed c.in-Some.ensures.steps.1.1 c.plan_row-row.result c.plan_row-row.ensures (first_ceiling le c.args.sound.now.table c.args.rows.now c.args.ceilings.now.at) c.loop-grade.invariant.1 Ceiling
    (ap not (sym c.if-not-keeps_ceiling.ensures))

pub loop-grade-preserved : goal.loop-grade-preserved
loop-grade-preserved g c =
    let le = g.R.Ranking.ranks c.args.ranking.now in (
      ap (λ b. b.now) c.in-Some.ensures.steps.0 ∙ c.loop-grade.invariant.0,
      one_later (λ t. breaks_ceiling le t (figure_at c.args.ceilings.now.at)) c.args.rows.now c.in-Some.grade c.loop-grade.grade-iterator.sound c.args.sound.now c.in-Some.ensures.steps.1.0 c.loop-grade.invariant.0
          c.loop-grade.grade-iterator.passed c.in-Some.ensures.steps.1.1 c.plan_row-row.result c.plan_row-row.ensures (first_ceiling le c.args.sound.now.table c.args.rows.now c.args.ceilings.now.at) c.loop-grade.invariant.1
          c.next.new.self.passed c.in-Some.ensures.steps.1.2 (ap not (sym c.if-not-keeps_ceiling.ensures)),
    )
