use Rattle.std.proofs.Common.{◌∙◌, rules}
use Rattle.book.proofs.Recounts.{line_written, refusal_short}
use Rattle.book.proofs.printing.write_refusal.Goals as goal

pub returns-in_err-at-clause-short : goal.returns-in_err-at-clause-short
returns-in_err-at-clause-short c = refusal_short _ c.places-first.result c.places-first.ensures (search rules) (search rules)

pub returns-in_err-at-2-clause-short : goal.returns-in_err-at-2-clause-short
returns-in_err-at-2-clause-short c = refusal_short _ c.places-first.result c.places-first.ensures (search rules) (search rules)

pub returns-in_err-at-3-clause-short : goal.returns-in_err-at-3-clause-short
returns-in_err-at-3-clause-short c = refusal_short _ c.places-first.result c.places-first.ensures (search rules) (search rules)

pub returns-in_err-at-4-clause-short : goal.returns-in_err-at-4-clause-short
returns-in_err-at-4-clause-short c = refusal_short _ c.places-first.result c.places-first.ensures (search rules) (search rules)

pub returns : goal.returns
returns c =
    record {
      writes = line_written _ _ _ _ (c.from-number.ensures ∙ c.number.ensures) (c.from.ensures ∙ c.from-layer.ensures ∙ c.layer.ensures) c.places-first.ensures _ _ _ _ _ _ _ _ _ _ _ c.in_ok-at.ensures c.in_ok-at-2.ensures c.in_ok-at-3.ensures c.in_ok-at-4.ensures c.write_count-4.ensures;
      short = refusal_short _ c.places-first.result c.places-first.ensures (search rules) (search rules);
    }
