use Rattle.std.proofs.Common.{◌≡◌, ◌+◌, ◌-◌, true, false, sym, ap, ◌∙◌, arith}
use Rattle.std.proofs.lemmas.Bool.{not-true, not-false}
use Rattle.planner.specs.Sweeps.{shown, sweep_of, moves, sweeps}
use Rattle.planner.proofs.Follow.{swept_keeps}
use Rattle.planner.proofs.Repeats.{after, sweeps_on, sweeps_settle, sweeps_spent}
use Rattle.planner.proofs.sweep.sweep_up_to.Goals as goal

pub returns-then-not-sweep : goal.returns-then-not-sweep
returns-then-not-sweep g c =
    let s = c.args.ranking.now in
    let le = g.R.Ranking.ranks s in
    let cheap = g.R.Rounding.cheap s in
    let dear = g.R.Rounding.dear s in
    let t = c.args.page.now.sound.table in
    let turn = c.loop-turn.turn in
    let n = c.args.n in
    let old = shown c.loop-turn.page.figures in
    let same = ap (λ x. x.table) c.loop-turn.invariant.0 in
    let no : c.sweep_once-sweep.result.moved ≡ false = not-true c.sweep_once-sweep.result.moved c.if-not-sweep.true in
    let still : moves le cheap dear t old ≡ false = ap (λ u. moves le cheap dear u old) (sym same) ∙ sym c.sweep_once-sweep.ensures.moved ∙ no in
    let after =
    ap (λ f. (f, (turn + 1, true))) (c.sweep_once-sweep.ensures.after ∙ ap (λ u. sweep_of le cheap dear u old) same)
    ∙ sym (sweeps_settle le cheap dear t old (n - turn) (n - (turn + 1)) turn (omega arith) still) ∙ c.loop-turn.invariant.1 in
    record {
      table = c.sweep_once-sweep.ensures.table ∙ c.loop-turn.invariant.0;
      after = after;
      keeps = swept_keeps le cheap dear (g.met.R.Ranking.ordered s) (g.met.R.Ranking.linear s) (g.met.R.Rounding.rounds s) c.args.page.now n _ (ap (λ p. p.0) after);
    }

pub returns : goal.returns
returns g c =
    let s = c.args.ranking.now in
    let le = g.R.Ranking.ranks s in
    let cheap = g.R.Rounding.cheap s in
    let dear = g.R.Rounding.dear s in
    let t = c.args.page.now.sound.table in
    let n = c.args.n in
    let end : c.loop-turn.turn ≡ n = omega arith in
    let spent = sweeps_spent le cheap dear t (shown c.loop-turn.page.figures) (n - c.loop-turn.turn) c.loop-turn.turn (omega arith) in
    let after = ap (λ k. (shown c.loop-turn.page.figures, (k, false))) (sym end) ∙ sym spent ∙ c.loop-turn.invariant.1 in
    record {
      table = c.loop-turn.invariant.0;
      after = after;
      keeps = swept_keeps le cheap dear (g.met.R.Ranking.ordered s) (g.met.R.Ranking.linear s) (g.met.R.Rounding.rounds s) c.args.page.now n _ (ap (λ p. p.0) after);
    }

pub loop-turn-preserved : goal.loop-turn-preserved
loop-turn-preserved g c =
    let s = c.args.ranking.now in
    let le = g.R.Ranking.ranks s in
    let cheap = g.R.Rounding.cheap s in
    let dear = g.R.Rounding.dear s in
    let t = c.args.page.now.sound.table in
    let turn = c.loop-turn.turn in
    let n = c.args.n in
    let old = shown c.loop-turn.page.figures in
    let same = ap (λ x. x.table) c.loop-turn.invariant.0 in
    let yes : c.sweep_once-sweep.result.moved ≡ true = not-false c.sweep_once-sweep.result.moved c.if-not-sweep.false in
    let moved : moves le cheap dear t old ≡ true = ap (λ u. moves le cheap dear u old) (sym same) ∙ sym c.sweep_once-sweep.ensures.moved ∙ yes in (
      c.sweep_once-sweep.ensures.table ∙ c.loop-turn.invariant.0,
      ap (λ f. after (turn + 1) (sweeps le cheap dear t (n - (turn + 1)) f)) (c.sweep_once-sweep.ensures.after ∙ ap (λ u. sweep_of le cheap dear u old) same)
          ∙ sym (sweeps_on le cheap dear t old (n - turn) (n - (turn + 1)) turn (omega arith) moved) ∙ c.loop-turn.invariant.1,
    )
