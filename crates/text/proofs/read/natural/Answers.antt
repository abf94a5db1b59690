use Rattle.std.proofs.Common.{rules, refl}
use Rattle.text.proofs.Numbers.{natural_none, natural_zero, natural_some}
use Rattle.text.proofs.read.natural.Goals as goal
use Rattle.text.proofs.read.natural.Goals.{then-digits-lt2, else-digits-lt2+in_default-1}

pub returns-in_err-digits : goal.returns-in_err-digits
returns-in_err-digits c =
    let bs = c.args.bytes.now in
    rw c.from_residual.ensures (natural_none _ bs (rw c.byte.ensures at c.in_err-digits.ensures))

pub returns-in-48 : goal.returns-in-48
returns-in-48 c = natural_zero _ c.args.bytes.now _ _ (rw c.byte.ensures at c.in_ok-digits.ensures) (search rules) (search rules)

pub value-requires : goal.value-requires
value-requires c = (c.in_ok-digits.ensures.was c.in_ok-digits.digits.now c.in_ok-digits.rest.now refl).0

pub returns : goal.returns
returns c =
    let ds = c.in_ok-digits.digits.now in
    let us = c.in_ok-digits.rest.now in
    rw c.value.ensures
    (natural_some _ c.args.bytes.now ds us (rw c.byte.ensures at c.in_ok-digits.ensures) (λ two zero. elim c.if-digits-lt2.branch [ then-digits-lt2 w ↦ search rules | else-digits-lt2+in_default-1 w ↦ search rules ]))
