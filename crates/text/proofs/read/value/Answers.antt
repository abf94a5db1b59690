use Rattle.std.proofs.Common.{◌≡◌, ◌+◌, ◌*◌, ◌^◌, get_or, ap, ◌∙◌, pow-suc, add-one, arith}
use Rattle.std.specs.Str.Parse.{digits_value}
use Rattle.std.proofs.lemmas.Int.Digits.{digits_value_more}
use Rattle.std.proofs.lemmas.List.{take_all}
use Rattle.text.proofs.Numbers.{digit_is}
use Rattle.text.proofs.read.value.Goals as goal

pub overflow_sub-n : goal.overflow_sub-n
overflow_sub-n c = let d = c.requires.all c.loop-b.b-index (omega arith) in omega arith

pub loop-b-preserved : goal.loop-b-preserved
loop-b-preserved c =
    let ds = c.args.digits.now in
    let i = c.loop-b.b-index in
    let d = c.requires.all i (omega arith) in
    let more = digits_value_more 10 ds i (omega arith) in
    let is = digit_is (get_or ds i 0) d in
    let grown : 10 ^ (i + 1) ≡ 10 ^ i * 10 = ap (λ k. 10 ^ k) (add-one i) ∙ pow-suc 10 i in
    (omega arith, omega arith)

pub returns : goal.returns
returns c = c.loop-b.invariant.0 ∙ ap (digits_value 10) (take_all c.loop-b.b-index c.args.digits.now (omega arith))
