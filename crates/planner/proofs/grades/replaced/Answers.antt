use Rattle.std.proofs.Common.{◌≡◌, ◌+◌, ◌-◌, ◌<◌, length, take, refl, ap, ◌∙◌, arith}
use Rattle.std.proofs.lemmas.List.{length-set, length-take-le, get_or-take}
use Rattle.planner.specs.Sweeps.{applied}
use Rattle.planner.proofs.Replacing.{applied_entry}
use Rattle.planner.proofs.grades.replaced.Goals as goal

pub loop-i-init : goal.loop-i-init
loop-i-init g c = (c.told-entries, λ f h. refl)

pub loop-i-preserved : goal.loop-i-preserved
loop-i-preserved g c =
    let i = c.loop-i.i in
    let n = c.args.n in
    let old = c.args.entries.now in
    let entry = c.entry-item in
    let place : i ≡ i + 1 - 1 = omega arith in
    let long : length (take n old) ≡ n = length-take-le n old (omega (arith, c.told-entries, c.requires.few)) in
    let inside : i < n = omega (arith, c.loop-i-test.true, long) in
    let new = c.loop-i.new in (
      length-set new i _ ∙ c.loop-i.invariant.0,
      λ f h. applied_entry (λ k. f (k - 1)) i old new c.by.result entry.result c.unwrap_or.result c.unwrap_or.ensures (entry.is ∙ get_or-take n old i entry.result inside) (c.loop-i.invariant.1 f h) (h i c.by.result inside c.by.ensures ∙ ap f place),
    )

pub returns : goal.returns
returns g c =
    let n = c.args.n in
    let long : length (take n c.args.entries.now) ≡ n = length-take-le n c.args.entries.now (omega (arith, c.told-entries, c.requires.few)) in
    let end : c.loop-i.i ≡ n = omega (arith, long) in
    λ f h. c.loop-i.invariant.1 f h ∙ ap (λ m. applied (λ k. f (k - 1)) m c.args.entries.now) end
