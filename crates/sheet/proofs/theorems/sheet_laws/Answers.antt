use Rattle.sheet.proofs.Accepted.{rendering_read}
use Rattle.sheet.proofs.Lengths.{render_short}
use Rattle.sheet.proofs.Once.{refused_once}
use Rattle.sheet.proofs.OneRendering.{rendering_one}
use Rattle.sheet.proofs.RefusedLines.{refused_lines}
use Rattle.sheet.proofs.RoundTrips.{rendering_same, read_exactly, read_once, written_text, written_same}
use Rattle.sheet.proofs.theorems.sheet_laws.Goals as goal

pub returns : goal.returns
returns c = record {
  stands = tt;
  once = refused_once;
  lines = refused_lines;
  one = rendering_one;
  same = rendering_same;
  short = λ t f gl rl c. render_short t f gl rl c.grade_labels c.row_labels c.plans;
  read = rendering_read;
  exactly = read_exactly;
  answer = read_once;
  written = written_text;
  unchanged = written_same;
}
