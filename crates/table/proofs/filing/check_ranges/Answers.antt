use Rattle.std.proofs.Common.{◌≡◌, ◌+◌, true, false, not, ◌&&◌, None, option_map, refl, ap, ◌∙◌, rules, tests}
use Rattle.std.proofs.lemmas.Iterator.{YieldsList-from_slice, IsFirst-from_position}
use Rattle.std.specs.Result.{result_err}
use Rattle.table.specs.Filing.{no_line, is_figure, outsized, or_part}
use Rattle.table.specs.declared.filing.FiledLine.{FiledLine}
use Rattle.table.proofs.Searches.{lowest_place}
use Rattle.table.proofs.Filings.{outsized_at}
use Rattle.table.proofs.filing.check_ranges.Goals as goal

pub returns : goal.returns
returns c =
    let ls = c.args.lines.now in
    let test = λ (l : FiledLine). not (is_figure l.floor && is_figure l.ceiling) in
    let read : result_err c.map_or.result ≡ or_part (option_map (λ i. i + 1) c.position-outsized.result) None = search rules in
    read ∙ ap (λ o. or_part o None)
    (lowest_place test no_line (outsized ls) ls (λ i h. outsized_at ls i _ h refl) c.position-outsized.result
    (IsFirst-from_position c.position-outsized.new.self _ c.position-outsized.result (λ l. test l ≡ true) (λ l. test l ≡ false) c.position-outsized.ensures.ran (YieldsList-from_slice ls cc) (λ x q k. search (rules, tests)) (λ x q k. search (rules, tests))))
