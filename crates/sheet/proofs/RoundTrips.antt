-- What is written is read back, and what is read is written back.
use Rattle.std.proofs.Common.{◌≡◌, ℕ, ◌+◌, ◌<◌, List, ◌++◌, length, take, drop, pos, Some, None, Ok, Err, Option, sym, refl, ap, ◌∙◌, arith}
use Rattle.std.proofs.lemmas.List.{take_at}
use Rattle.text.specs.Writing.{put}
use Rattle.table.specs.declared.figures.Figures.{Figures}
use Rattle.table.specs.declared.table.Table.{Table}
use Rattle.sheet.specs.declared.whole.Sheet.{Sheet}
use Rattle.lines.specs.Lines.{line_text}
use Rattle.lines.specs.Lines as line
use Rattle.sheet.specs.Render.{series, counts_entry, figure_entry, grades_text, rows_text, arcs_text, figure_part, figures_of, labels_of, render}
use Rattle.sheet.specs.Whole.{SheetIn}
use Rattle.sheet.specs.Written.{relabelled}
use Rattle.sheet.specs.Laws.{Content, Same, SameFigures, RenderingSame, ReadExactly, ReadOnce, WrittenText, WrittenSame, WrittenKept, WrittenBack}
use Rattle.sheet.proofs.Accepted.{rendering_read}
use Rattle.sheet.proofs.Once.{refused_once}
use Rattle.sheet.proofs.OneRendering.{rendering_one}
use Rattle.sheet.proofs.Parts.{series_same}

-- as many lines that agree make one text
series_alike : (f g : ℕ → List ℕ) (n m : ℕ) → n ≡ m → ((k : ℕ) → k < n → f k ≡ g k) → series f n ≡ series g m
series_alike f g n m is same = series_same f g n same ∙ ap (series g) is

figures_alike : (n m : ℕ) (f g : Option Figures) → n ≡ m → SameFigures n f g → (figures_of n f ≡ figures_of m g) × (figure_part n f ≡ figure_part m g)
figures_alike n m None None is same = (refl, refl)
figures_alike n m None (Some g) is same = absurd same
figures_alike n m (Some f) None is same = absurd same
figures_alike n m (Some f) (Some g) is same = (
  is,
  series_alike (λ i. line_text (figure_entry f.row f.floor.at f.ceiling.at i)) (λ i. line_text (figure_entry g.row g.floor.at g.ceiling.at i)) n m is
      (λ i lt.
      let p = same i lt in
      λ j. line_text (line.figure (pos (i + 1), (pos (p.plan j), ((p.floor j).0, ((p.floor j).1, ((p.ceiling j).0, (p.ceiling j).1))))))),
)

pub rendering_same : RenderingSame
unfolding render
rendering_same t u f g gl gl' rl rl' same =
    let figs = figures_alike t.grades u.grades f g same.grades same.figures in
    let gs : grades_text t.first_row gl t.grades ≡ grades_text u.first_row gl' u.grades = series_alike _ _ t.grades u.grades same.grades (λ i lt j. line_text (line.grade (pos (i + 1), (pos (same.firsts i lt j), same.grade_labels i lt j)))) in
    let rs : rows_text t.row rl t.rows ≡ rows_text u.row rl' u.rows = series_alike _ _ t.rows u.rows same.rows (λ i lt j. let r = same.row i lt j in line_text (line.row ((pos (i + 1), (pos r.next, (r.cost.0, r.cost.1))), (pos r.first_arc, same.row_labels i lt j)))) in
    let xs : arcs_text t.arc t.arcs ≡ arcs_text u.arc u.arcs = series_alike _ _ t.arcs u.arcs same.arcs (λ i lt j. let a = same.arc i lt j in line_text (line.arc (pos (i + 1), (pos a.next, (pos a.destination, pos a.weight))))) in
    λ j. ((((line_text (counts_entry (same.grades j) (same.rows j) (same.arcs j) (same.total j) (same.numerator j) (same.denominator j) (same.fineness j) (figs.0 j)) ++ gs j) ++ rs j) ++ xs j) ++ figs.1 j) ++ line_text line.end

-- what was read is a content
pub content : (bs : List ℕ) (s : Sheet) → SheetIn bs s → Content s.table s.figures (labels_of bs s.labels.grade) (labels_of bs s.labels.row)
content bs s a = record { grade_labels = a.grade_labels; row_labels = a.row_labels; plans = a.plans }

pub read_exactly : ReadExactly
read_exactly bs (Ok s) a t f gl rl one is = rendering_one s.table t s.figures f _ gl _ rl (content bs s a) one (sym a.text ∙ is)
read_exactly bs (Err e) a t f gl rl one is = rendering_read bs t f gl rl one is e a

pub read_once : ReadOnce
read_once bs r a (Ok s) b = read_exactly bs r a s.table s.figures _ _ (content bs s b) b.text
read_once bs (Ok s) a (Err e) b = absurd (rendering_read bs s.table s.figures _ _ (content bs s a) a.text e b)
read_once bs (Err d) a (Err e) b = ap Err (refused_once bs d e a b)

figures_refl : (n : ℕ) (f : Option Figures) → SameFigures n f f
figures_refl n None = tt
figures_refl n (Some f) = λ i lt. record { plan = refl; floor = refl; ceiling = refl }

-- labels that agree make one text
labels_alike : (t : Table) (f : Option Figures) (gl gl' rl rl' : ℕ → List ℕ) → ((i : ℕ) → i < t.grades → gl i ≡ gl' i) → ((i : ℕ) → i < t.rows → rl i ≡ rl' i) → render t f gl rl ≡ render t f gl' rl'
labels_alike t f gl gl' rl rl' gs rs =
    rendering_same t t f f gl gl' rl rl' (record {
      grades = refl;
      rows = refl;
      arcs = refl;
      total = refl;
      numerator = refl;
      denominator = refl;
      fineness = refl;
      firsts = λ i lt. refl;
      row = λ i lt. refl;
      arc = λ i lt. refl;
      figures = figures_refl t.grades f;
      grade_labels = gs;
      row_labels = rs;
    })

-- two readings of one sheet
sheets_same : (bs : List ℕ) (s u : Sheet) → SheetIn bs s → SheetIn bs u → Same s.table u.table s.figures u.figures (labels_of bs s.labels.grade) (labels_of bs u.labels.grade) (labels_of bs s.labels.row) (labels_of bs u.labels.row)
sheets_same bs s u a b = read_exactly bs (Ok s) a u.table u.figures _ _ (content bs u b) b.text

-- text that was put at the front of a buffer
front_is : (out text after : List ℕ) (n : ℕ) → n ≡ length text → after ≡ put out 0 text → take n after ≡ text
front_is out text after n long is = ap (take n) is ∙ take_at text (drop (0 + length text) out) n (sym long)

pub written_text : WrittenText
written_text out old after t f n s a w =
    let u = w.0 in
    let b = w.1.0 in
    let same = sheets_same old u s b.reads a in
    let text : relabelled old t f u ≡ relabelled old t f s = labels_alike t f _ _ _ _ (λ i lt. same.grade_labels i (omega (arith, b.grades))) (λ i lt. same.row_labels i (omega (arith, b.rows))) in
    let long = w.1.1 ∙ ap length text in
    let is = w.1.3 ∙ ap (put out 0) text in
    (long, is, front_is out (relabelled old t f s) after n long is)

pub written_same : WrittenSame
written_same out bs after s n a w =
    let p = written_text out bs after s.table s.figures n s a w in
    let text : relabelled bs s.table s.figures s ≡ bs = sym a.text in
    (p.0 ∙ ap length text, p.1 ∙ ap (put out 0) text, p.2 ∙ text)

pub written_kept : WrittenKept
written_kept out old after t f (Err e) w = tt
written_kept out old after t f (Ok n) w =
    λ s a says.
    let text : relabelled old s.table s.figures s ≡ relabelled old t f s = rendering_same s.table t s.figures f _ _ _ _ says in
    (written_text out old after t f n s a w).2 ∙ sym text ∙ sym a.text

pub written_back : WrittenBack
written_back out old after t f (Err e) plans w = tt
written_back out old after t f (Ok n) plans w =
    λ s a r reads.
    let b = w.1.0 in
    let same = sheets_same old s w.0 a b.reads in
    let g : s.table.grades ≡ t.grades = same.grades ∙ b.grades in
    let k : s.table.rows ≡ t.rows = same.rows ∙ b.rows in
    let one : Content t f (labels_of old s.labels.grade) (labels_of old s.labels.row) = record {
      grade_labels = λ i lt. a.grade_labels i (omega arith);
      row_labels = λ i lt. a.row_labels i (omega arith);
      plans = plans;
    } in
    read_exactly (take n after) r reads t f _ _ one (written_text out old after t f n s a w).2
