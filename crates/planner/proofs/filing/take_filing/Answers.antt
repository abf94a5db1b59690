use Rattle.std.proofs.Common.{◌∙◌}
use Rattle.table.proofs.Soundness.{sound_table}
use Rattle.planner.specs.Sweeps.{shown}
use Rattle.planner.proofs.Taking.{nearer_same, taken_keeps}
use Rattle.planner.proofs.filing.take_filing.Goals as goal

pub returns : goal.returns
returns g c =
    let s = c.args.ranking.now in
    let le = g.R.Ranking.ranks s in
    let p = c.args.page.now in
    let t = p.sound.table in
    let ls = c.args.lines.now in
    let filed = c.in_ok-filed.ensures.answer in
    let kept = c.in_ok-filed.ensures.kept in
    let f = c.in_ok-filed.filed.figures in
    let after = c.nearer_page.ensures.after in
    record {
      answer = (filed.0, filed.1, c.nearer_page.ensures.table, after ∙ nearer_same le ls f filed.3 (shown p.figures) t.grades);
      kept = kept;
      keeps = taken_keeps le ls f filed.3 (g.met.R.Ranking.ordered s) (g.met.R.Ranking.linear s) t (sound_table p.sound) p.figures (shown c.nearer_page.result.figures) after kept.kept;
    }
