use Rattle.std.proofs.Common.{ap, ◌∙◌}
use Rattle.cases.proofs.plans.started.Goals as goal

pub returns : goal.returns
returns g c =
    record {
      says = c.in_ok-sheet.sheet;
      reads = c.in_ok-sheet.ensures.answered;
      table = ap (λ s. s.table) c.start_page.ensures.table ∙ c.in_ok-sound.ensures.answer.1;
      start = c.start_page.ensures.start;
    }
