use Rattle.std.proofs.Common.{◌≡◌, Some, subst, arith, rules}
use Rattle.text.specs.Writing.{Writes}
use Rattle.lines.specs.Lines.{line_text}
use Rattle.sheet.specs.Render.{series}
use Rattle.sheet.proofs.Series.{writes_nothing, line_more, line_short}
use Rattle.sheet.proofs.writing.write_lines.Goals as goal

pub loop-i-init : goal.loop-i-init
loop-i-init g c = (c.requires.room, λ e says. writes_nothing c.args.out.now c.args.at c.requires.room)

pub returns-in_err-at-clause-lines : goal.returns-in_err-at-clause-lines
returns-in_err-at-clause-lines g c = λ e says.
    rw c.from_residual.ensures
    (line_short e c.args.out.now c.args.at c.loop-i.i c.loop-i.at c.loop-i.out (c.loop-i.invariant.1 e says) _ (says c.loop-i.i c.line.result (omega arith) c.line.ensures) c.args.n _ (omega arith) c.in_err-at.ensures)

pub loop-i-preserved : goal.loop-i-preserved
loop-i-preserved g c = (
  search rules,
  λ e says.
      line_more e c.args.out.now c.args.at c.loop-i.i c.loop-i.at c.loop-i.out (c.loop-i.invariant.1 e says) _ (says c.loop-i.i c.line.result (omega arith) c.line.ensures) (Some c.in_ok-at.at) _ c.in_ok-at.ensures,
)

pub returns-clause-lines : goal.returns-clause-lines
returns-clause-lines g c = λ e says.
    let all : c.loop-i.i ≡ c.args.n = omega arith in
    subst (λ n. Writes c.args.out.now c.args.at (series (λ i. line_text (e i)) n) (Some c.loop-i.at) c.loop-i.out) all (c.loop-i.invariant.1 e says)
