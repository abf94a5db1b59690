use Rattle.std.proofs.Common.{Err, refl, sym, ap, ◌∙◌, subst}
use Rattle.std.proofs.lemmas.Result.{err_from_is_err_and}
use Rattle.table.specs.Rules.{figures_fault}
use Rattle.book.specs.Calls.{Opens, FiguresOpen, FiguresBreak}
use Rattle.book.proofs.calls.read_page.Goals as goal

pub returns-in_err-sound-clause-opens : goal.returns-in_err-sound-clause-opens
returns-in_err-sound-clause-opens g c =
    let (e, is, of) = err_from_is_err_and _ c.from_residual-in_err-sound.ensures.1 in
    subst (Opens (g.R.Ranking.ranks c.args.ranking.now) c.args.text.now) (sym (is ∙ ap Err of)) (c.in_ok-sheet.sheet, record { reads = c.in_ok-sheet.ensures.answered; fault = c.in_err-sound.ensures.answer })

pub returns-in_default-clause-opens : goal.returns-in_default-clause-opens
returns-in_default-clause-opens g c = (
  c.in_ok-sheet.sheet,
  record {
    reads = c.in_ok-sheet.ensures.answered;
    table = ap (λ s. s.table) c.start_page.ensures.table ∙ c.in_ok-sound.ensures.answer.1;
    faultless = c.in_ok-sound.ensures.answer.0;
    figures = subst (FiguresOpen (g.R.Ranking.ranks c.args.ranking.now) c.args.text.now c.start_page.result) (sym c.in_default.is) c.start_page.ensures.start;
  },
)

pub returns-in_err-check_figures-clause-opens : goal.returns-in_err-check_figures-clause-opens
returns-in_err-check_figures-clause-opens g c =
    let le = g.R.Ranking.ranks c.args.ranking.now in
    let s = c.in_ok-sheet.sheet in
    let (e, is, of) = err_from_is_err_and _ c.from_residual-in_err-check_figures.ensures.1 in
    subst (Opens le c.args.text.now) (sym (is ∙ ap Err of)) (
      s,
      record {
        reads = c.in_ok-sheet.ensures.answered;
        faultless = c.in_ok-sound.ensures.answer.0;
        fault = subst (FiguresBreak le c.args.text.now _ s) (sym c.in-Some.is) (ap (λ t. figures_fault le t c.in-Some.figures) (sym c.in_ok-sound.ensures.answer.1) ∙ sym c.in_err-check_figures.ensures.is);
      },
    )

pub returns-clause-opens : goal.returns-clause-opens
returns-clause-opens g c = (
  c.in_ok-sheet.sheet,
  record {
    reads = c.in_ok-sheet.ensures.answered;
    table = c.in_ok-sound.ensures.answer.1;
    faultless = c.in_ok-sound.ensures.answer.0;
    figures = subst (FiguresOpen (g.R.Ranking.ranks c.args.ranking.now) c.args.text.now _) (sym c.in-Some.is) (refl, sym c.in_ok-check_figures.ensures.is);
  },
)
