use Rattle.table.proofs.Filings.{filing_tells}
use Rattle.table.proofs.filing.check_filing.Goals as goal

pub returns : goal.returns
returns g c =
    let is = c.filed_page.ensures in
    record { answer = is; kept = filing_tells (g.R.Ranking.ranks c.args.ranking.now) c.args.sound.now c.args.lines.now c.filed_page.result is }
