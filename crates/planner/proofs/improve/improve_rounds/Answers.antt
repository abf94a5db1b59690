use Rattle.std.proofs.Common.{◌≡◌, ◌+◌, ◌-◌, sym, ap, ◌∙◌, subst, arith}
use Rattle.planner.specs.Sweeps.{shown}
use Rattle.planner.specs.Improvements.{round_of, giving_way, rounds}
use Rattle.table.proofs.Soundness.{sound_table}
use Rattle.planner.specs.Keeping.{Follows}
use Rattle.planner.proofs.Follow.{figures_in}
use Rattle.planner.proofs.RoundSteps.{rounds_keep}
use Rattle.planner.proofs.Rounds.{further, giving-≤, rounds_on, rounds_spent}
use Rattle.planner.proofs.improve.improve_rounds.Goals as goal

pub overflow_add-gave_way : goal.overflow_add-gave_way
overflow_add-gave_way g c =
    let s = c.args.ranking.now in
    let few = giving-≤ (g.R.Ranking.ranks s) (g.R.Rounding.dear s) c.loop-turn.page.sound.table (shown c.loop-turn.page.figures) in
    omega (arith, few, c.improve_once-round.ensures.gave_way, c.loop-turn.invariant.1)

pub loop-turn-preserved : goal.loop-turn-preserved
loop-turn-preserved g c =
    let s = c.args.ranking.now in
    let le = g.R.Ranking.ranks s in
    let dear = g.R.Rounding.dear s in
    let t = c.args.page.now.sound.table in
    let turn = c.loop-turn._turn in
    let n = c.args.n in
    let count = c.loop-turn.gave_way in
    let old = shown c.loop-turn.page.figures in
    let same = ap (λ x. x.table) c.loop-turn.invariant.0 in
    let gave : c.improve_once-round.result.gave_way ≡ giving_way le dear t old = c.improve_once-round.ensures.gave_way ∙ ap (λ u. giving_way le dear u old) same in
    let few = giving-≤ le dear t old in (
      c.improve_once-round.ensures.table ∙ c.loop-turn.invariant.0,
      omega (arith, few, gave, c.loop-turn.invariant.1),
      ap (λ f. further (count + c.improve_once-round.result.gave_way) (rounds le dear t (n - (turn + 1)) f)) (c.improve_once-round.ensures.after ∙ ap (λ u. round_of le dear u old) same)
          ∙ ap (λ k. further (count + k) (rounds le dear t (n - (turn + 1)) (round_of le dear t old))) gave
          ∙ sym (rounds_on le dear t old (n - turn) (n - (turn + 1)) count (omega arith)) ∙ c.loop-turn.invariant.2,
    )

pub returns : goal.returns
returns g c =
    let s = c.args.ranking.now in
    let p = c.args.page.now in
    let le = g.R.Ranking.ranks s in
    let dear = g.R.Rounding.dear s in
    let t = p.sound.table in
    let here = shown c.loop-turn.page.figures in
    let after = sym (rounds_spent le dear t here (c.args.n - c.loop-turn._turn) c.loop-turn.gave_way (omega arith)) ∙ c.loop-turn.invariant.2 in
    record {
      table = c.loop-turn.invariant.0;
      after = after;
      keeps = λ k. subst (Follows le t (shown p.figures)) (sym (ap (λ x. x.0) after))
          (rounds_keep le (g.R.Rounding.cheap s) dear (g.met.R.Ranking.ordered s) (g.met.R.Ranking.linear s) (g.met.R.Rounding.rounds s) t (sound_table p.sound) c.args.n (shown p.figures) (figures_in p.figures) k);
    }
