-- Roundings by b · D: what they may be asked, and that they give figures in range. Assumes nothing.
use Rattle.std.proofs.Common.{◌≡◌, ℕ, ◌*◌, ◌^◌, Bool, true, false, Option, sym, ap, ◌∙◌, subst, IfSome}
use Rattle.std.specs.Bool.{then_some}
use Rattle.rankings.specs.Costs.{Cost, Within}
use Rattle.rankings.specs.Laws.{Rounds}
use Rattle.rankings.proofs.Sizes.{rounded_within}
use Rattle.table.specs.declared.table.Table.{Table}
use Rattle.table.specs.Ranges.{FigureIn}
use Rattle.table.specs.Lookahead.{scaling}
use Rattle.table.proofs.Magnitudes.{scaling-≤, scaling_some, scaled_modest}

module _ (le : Cost → Cost → Bool) (cheap dear : Cost → ℕ → Cost) (laws : Rounds le cheap dear) (t : Table) (c : Cost) (h : Within (scaling t * 10 ^ 10) c) where
  pub cheap_within : Within (10 ^ 10) (cheap c (scaling t))
  cheap_within = rounded_within (scaling t) (10 ^ 10) c (cheap c (scaling t)) (scaling_some t) h (laws.cheap_parts c (scaling t) (scaling_some t) (scaling-≤ t) (scaled_modest t c h))

  pub dear_within : Within (10 ^ 10) (dear c (scaling t))
  dear_within = rounded_within (scaling t) (10 ^ 10) c (dear c (scaling t)) (scaling_some t) h (laws.dear_parts c (scaling t) (scaling_some t) (scaling-≤ t) (scaled_modest t c h))

  -- the same of what a call answered, by the divisor that it took
  pub cheap_figure : (v : Cost) (m : ℕ) → v ≡ cheap c m → m ≡ scaling t → FigureIn v
  cheap_figure v m is by = subst FigureIn (sym (is ∙ ap (cheap c) by)) cheap_within

  pub dear_figure : (v : Cost) (m : ℕ) → v ≡ dear c m → m ≡ scaling t → FigureIn v
  dear_figure v m is by = subst FigureIn (sym (is ∙ ap (dear c) by)) dear_within

-- what holds of a value holds of it where it is given on a condition
pub some_holds : {A : Type 0} (P : A → Type 0) (b : Bool) (v : A) (o : Option A) → o ≡ then_some b v → P v → IfSome o P
some_holds P b v o e p = subst (λ x. IfSome x P) (sym e) (given b)
  where
    given : (b : Bool) → IfSome (then_some b v) P
    given true = p
    given false = tt
