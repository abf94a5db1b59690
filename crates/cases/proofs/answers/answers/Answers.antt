use Rattle.std.proofs.Common.{subst}
use Rattle.std.proofs.lemmas.Bool.Decides.{Decides-eqb}
use Rattle.std.proofs.lemmas.Slice.Eq.{slice_eq-Decides}
use Rattle.cases.specs.Shows.{Prints}
use Rattle.std.proofs.lemmas.Bool.{OnTrue_from}
use Rattle.cases.proofs.answers.answers.Goals as goal

pub returns : goal.returns
returns c =
    let sheet = c.args.sheet.now in
    OnTrue_from c.eq.result (Prints sheet c.args.expected.now)
    (λ yes. subst (Prints sheet) ((slice_eq-Decides Decides-eqb _ _ _ c.eq.ensures).0 yes) c.printed.ensures)
