use Rattle.std.proofs.Common.{length, take, sym, ap, ◌∙◌}
use Rattle.std.proofs.lemmas.Bool.Decides.{Decides-eqb}
use Rattle.std.proofs.lemmas.List.{take_rest}
use Rattle.std.proofs.lemmas.Slice.Eq.{slice_eq-Decides}
use Rattle.cases.proofs.edit.stands_at.Goals as goal

pub returns : goal.returns
returns c =
    let old = c.args.old.now in
    let rest = ap (take (length old)) (take_rest c.args.text.now c.args.place) in
    let is = slice_eq-Decides Decides-eqb _ _ _ c.starts_with.ensures.value in
    (λ yes. sym rest ∙ sym (is.0 yes), λ stands. is.1 (sym stands ∙ sym rest))
