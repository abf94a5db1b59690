-- What a sheet opens to can always be written over it. Assumes nothing.
use Rattle.std.proofs.Common.{◌≡◌, ℕ, ◌<◌, Bool, List, length, Some, Err, Option, sym, ap, ◌∙◌, subst, ⊎_elim, arith}
use Rattle.rankings.specs.Costs.{Cost}
use Rattle.text.specs.Fields.{Label}
use Rattle.table.specs.declared.figures.Figures.{Figures}
use Rattle.table.specs.declared.page.Page.{Page}
use Rattle.table.specs.declared.table.Table.{Table}
use Rattle.sheet.specs.declared.whole.Sheet.{Sheet}
use Rattle.sheet.specs.declared.write_fault.WriteFault.{WriteFault}
use Rattle.sheet.specs.declared.write_fault.WriteFault.TheVariants.{OldSheet, Room}
use Rattle.sheet.specs.Render.{labels_of}
use Rattle.sheet.specs.Written.{Wrote, OldTold}
use Rattle.sheet.proofs.Accepted.{rendering_read}
use Rattle.sheet.proofs.Lengths.{render_short}
use Rattle.sheet.proofs.OneRendering.{rendering_one}
use Rattle.sheet.proofs.RoundTrips.{content}
use Rattle.book.specs.Calls.{PageOf}

pub written_over : (le : Cost → Cost → Bool) (text out after : List ℕ) (p q : Page) (s : Sheet) (f : WriteFault) → length out ≡ 32768 → PageOf le text p s → q.sound ≡ p.sound → Wrote out text q.sound.table (Some q.figures) (Err f) after → OldTold text q.sound.table (Err f) → ⊥
written_over le text out after p q s (OldSheet l) long of same w told =
    let table : q.sound.table ≡ s.table = ap (λ x. x.table) same ∙ of.table in
    ⊎_elim
    (λ r. rendering_read text s.table s.figures (labels_of text s.labels.grade) (labels_of text s.labels.row) (content text s of.reads) of.reads.text r.0 r.1.0)
    (λ r.
    let u = r.0 in
    let reads = r.1.0.reads in
    let one = rendering_one u.table s.table u.figures s.figures (labels_of text u.labels.grade) (labels_of text s.labels.grade) (labels_of text u.labels.row) (labels_of text s.labels.row) (content text u reads) (content text s of.reads) (sym reads.text ∙ of.reads.text) in
    r.1.0.differs (one.grades ∙ ap (λ t. t.grades) (sym table)) (one.rows ∙ ap (λ t. t.rows) (sym table)))
    told
written_over le text out after p q s (Room n) long of same w told =
    let u = w.0 in
    let old = w.1.0 in
    let gl : (i : ℕ) → i < q.sound.table.grades → Label (labels_of text u.labels.grade i) = λ i h. old.reads.grade_labels i (subst (λ k. i < k) (sym old.grades) h) in
    let rl : (i : ℕ) → i < q.sound.table.rows → Label (labels_of text u.labels.row i) = λ i h. old.reads.row_labels i (subst (λ k. i < k) (sym old.rows) h) in
    omega (arith, long, w.1.1, w.1.2, render_short q.sound.table (Some q.figures) (labels_of text u.labels.grade) (labels_of text u.labels.row) gl rl q.planned)

-- a refused writing leaves the buffer
pub left_over : (out old after : List ℕ) (t : Table) (f : Option Figures) (e : WriteFault) → Wrote out old t f (Err e) after → after ≡ out
left_over out old after t f (OldSheet l) w = w.1
left_over out old after t f (Room n) w = w.1.3
