use Rattle.std.proofs.Common.{◌≡◌, ℕ, length, get_or, drop, refl, sym, ◌∙◌, subst, inl, inr, ⊎_elim, arith, length-set}
use Rattle.sheet.specs.Halts.{counts_of}
use Rattle.sheet.proofs.Keeps.{all_same}
use Rattle.sheet.proofs.Halting.{err_is}
use Rattle.sheet.proofs.GroupSteps.{group_none, group_more, group_through}
use Rattle.sheet.proofs.group.read_group.Goals as goal
use Rattle.sheet.proofs.group.read_group.Goals.{then-i-labels, else-i-labels}

pub loop-i-init : goal.loop-i-init
loop-i-init g c =
    let e = g.G.Group.EMPTY in
    let empty = λ (k : ℕ). subst (λ xs. get_or xs k e ≡ e) (sym c.requires.empty) (all_same (λ x. x ≡ e) (length c.args.kept.now) e k refl) in
    (refl, refl, group_none (counts_of c.args.header.now) g.G.Group.slot g.G.Group.said c.args.sheet.now e c.args.at _ _ c.requires.place empty)

pub loop-i-preserved : goal.loop-i-preserved
loop-i-preserved g c =
    let l = c.loop-i in
    let inv = l.invariant in
    let read = c.in_ok-read in
    let few = c.requires.few in (
      simp length-set inv.0,
      c.if-i-labels.auto.labels ∙ inv.1,
      group_more (counts_of c.args.header.now) g.G.Group.slot g.G.Group.said c.args.sheet.now g.G.Group.EMPTY c.args.at l.at l.i l.kept l.labels c.if-i-labels.labels read.read read.label read.next (omega (arith, inv.0))
          (elim c.if-i-labels.branch [
            | then-i-labels w ↦ inl (w.if-i-labels.true, w.labels-is)
            | else-i-labels w ↦ inr (⊎_elim (λ all. let no : ⊥ = omega (arith, inv.1) in absurd no) (λ none. none) c.requires.labels, w.if-i-labels.false, w.labels-is)
          ])
          inv.2 read.ensures,
    )

pub returns-in_err-read : goal.returns-in_err-read
returns-in_err-read g c =
    let i = c.loop-i.i in
    let at = c.loop-i.at in
    rw (err_is _ _ c.from_residual.ensures.1)
    (record {
      i = i;
      below = omega arith;
      rest = drop at c.args.sheet.now;
      through = group_through (counts_of c.args.header.now) g.G.Group.slot g.G.Group.said c.args.sheet.now g.G.Group.EMPTY c.args.at i c.loop-i.kept c.loop-i.labels at c.loop-i.invariant.2;
      faulty = c.in_err-read.ensures;
    })
