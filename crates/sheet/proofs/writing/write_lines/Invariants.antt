use Rattle.std.proofs.Common.{◌≡◌, ℕ, ◌<◌, ◌≤◌, length, Some}
use Rattle.text.specs.Writing.{Writes}
use Rattle.lines.specs.declared.records.Line.{Line}
use Rattle.lines.specs.Lines.{Entry, entry_of, line_text}
use Rattle.sheet.specs.Render.{series}
use Rattle.sheet.proofs.writing.write_lines.Given as goal

abbrev pub invariant-loop-i : goal.invariant-loop-i
invariant-loop-i g l = (l.at ≤ length l.out) × ((e : ℕ → Entry) → ((i : ℕ) (x : Line) → i < l.n → goal.F-post g l.line i x → entry_of x ≡ e i) → Writes l.initial.out l.initial.at (series (λ i. line_text (e i)) l.i) (Some l.at) l.out)
