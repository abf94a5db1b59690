use Rattle.std.proofs.Common.{length, drop, subst}
use Rattle.std.proofs.lemmas.Bool.Decides.{Decides-eqb}
use Rattle.std.proofs.lemmas.Slice.Eq.{starts_is}
use Rattle.cases.specs.Shows.{Prints, Begins}
use Rattle.std.proofs.lemmas.Bool.{OnTrue_from}
use Rattle.cases.proofs.answers.begins.Goals as goal

pub returns : goal.returns
returns c =
    let sheet = c.args.sheet.now in
    let text = c.printed.result.now in
    let bytes = c.args.expected.now in
    OnTrue_from c.starts_with.result (Begins sheet bytes)
    (λ yes. record { rest = drop (length bytes) text; prints = subst (Prints sheet) ((starts_is Decides-eqb text bytes _ c.starts_with.ensures.value).0 yes) c.printed.ensures })
