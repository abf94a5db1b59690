use Rattle.std.proofs.Common.{◌+◌, ◌-◌, sym, ap, ◌∙◌}
use Rattle.table.specs.Chains.{rows_of}
use Rattle.table.specs.Walks.{rows_ahead}
use Rattle.table.specs.Lookahead.{figure_at}
use Rattle.table.specs.Rules.{breaks_floor, first_in, first_pair}
use Rattle.table.proofs.Giving.{grade_is}
use Rattle.table.proofs.Pairs.{pair_open}
use Rattle.table.proofs.rules.check_floors.Goals as goal

pub loop-row-init : goal.loop-row-init
loop-row-init g c =
    let t = c.args.sound.now.table in
    let bad = breaks_floor (g.R.Ranking.ranks c.args.ranking.now) t (figure_at c.args.floors.now.at) in
    let n = c.in-Some.grade.number in
    let of = grade_is c.in-Some.grade c.loop-grade.grade-iterator.sound c.args.sound.now c.in-Some.ensures.steps.1.0 c.loop-grade.invariant.0 in
    let list = ap rows_ahead c.into_iter-row-iterator.ensures.into_iter_gives ∙ c.rows-row-items.ensures.is ∙ ap (λ s. rows_of s.table n) of.0 in
    ap (λ ks. first_in bad n ks (first_pair bad (rows_of t) (t.grades - n) (n + 1))) list
    ∙ sym (pair_open bad (rows_of t) t.grades c.loop-grade.grade-iterator.passed n c.in-Some.ensures.steps.1.1 of.1) ∙ c.loop-grade.invariant.1
