-- The text of a whole sheet: what is written, and what is read. Assumes nothing.
use Rattle.std.specs.Prelude.{ℕ, zero, suc, ◌+◌, ◌-◌, List, [], ◌++◌, get_or, take, drop, ℤ, pos, Some, None, Option, slice_index, slice_index_or}
use Rattle.table.specs.declared.figures.Figures.{Figures}
use Rattle.table.specs.declared.rows.Arc.{Arc}
use Rattle.table.specs.declared.rows.Row.{Row}
use Rattle.table.specs.declared.table.Table.{Table}
use Rattle.table.specs.Ranges.{row0, arc0}
use Rattle.sheet.specs.declared.labels.Span.{Span}
use Rattle.lines.specs.Lines.{Entry, header, grade, row, arc, figure, end, line_text}
use Rattle.sheet.specs.Spans.{span0}

-- f 0, f 1 and so on, n of them, one after another
abbrev pub series : (ℕ → List ℕ) → ℕ → List ℕ
series f zero = []
series f (suc n) = series f n ++ f n

-- the bytes of a sheet that a label's place marks
abbrev pub part_of : List ℕ → Span → List ℕ
part_of sheet s = take (s.end - s.start) (drop s.start sheet)

-- the labels that places mark, the first at 0
abbrev pub labels_of : List ℕ → List Span → ℕ → List ℕ
labels_of sheet spans i = part_of sheet (slice_index_or spans i span0)

-- how many figure lines there are
abbrev pub figures_of : ℕ → Option Figures → ℕ
figures_of grades (Some f) = grades
figures_of grades None = 0

-- the first line, from its eight numbers
abbrev pub counts_entry : ℕ → ℕ → ℕ → ℕ → ℕ → ℕ → ℕ → ℕ → Entry
counts_entry grades rows arcs total numerator denominator fineness figures = header ((pos grades, (pos rows, (pos arcs, pos total))), (pos numerator, (pos denominator, (pos fineness, pos figures))))

-- the first line of a table, with the number of figure lines that follow
abbrev pub header_entry : Table → ℕ → Entry
header_entry t = counts_entry t.grades t.rows t.arcs t.total t.numerator t.denominator t.fineness

-- the line of the grade i + 1, from the first rows and its label
abbrev pub grade_entry : List ℕ → List ℕ → ℕ → Entry
grade_entry firsts label i = grade (pos (i + 1), (pos (slice_index firsts i), label))

-- the line of the row i + 1
abbrev pub row_entry : List Row → List ℕ → ℕ → Entry
row_entry rs label i =
    let r = get_or rs i row0 in
    row ((pos (i + 1), (pos r.next, (r.cost.0, r.cost.1))), (pos r.first_arc, label))

-- the line of the arc i + 1
abbrev pub arc_entry : List Arc → ℕ → Entry
arc_entry xs i =
    let a = get_or xs i arc0 in
    arc (pos (i + 1), (pos a.next, (pos a.destination, pos a.weight)))

-- the figure line of the grade i + 1, from the plan rows, the floors and the ceilings
abbrev pub figure_entry : List ℕ → List (ℤ × ℤ) → List (ℤ × ℤ) → ℕ → Entry
figure_entry plan floors ceilings i =
    let low = get_or floors i (pos 0, pos 0) in
    let high = get_or ceilings i (pos 0, pos 0) in
    figure (pos (i + 1), (pos (slice_index plan i), (low.0, (low.1, (high.0, high.1)))))

-- the lines of each kind
abbrev pub grades_text : List ℕ → (ℕ → List ℕ) → ℕ → List ℕ
grades_text firsts label = series (λ i. line_text (grade_entry firsts (label i) i))

abbrev pub rows_text : List Row → (ℕ → List ℕ) → ℕ → List ℕ
rows_text rs label = series (λ i. line_text (row_entry rs (label i) i))

abbrev pub arcs_text : List Arc → ℕ → List ℕ
arcs_text xs = series (λ i. line_text (arc_entry xs i))

abbrev pub figures_text : List ℕ → List (ℤ × ℤ) → List (ℤ × ℤ) → ℕ → List ℕ
figures_text plan floors ceilings = series (λ i. line_text (figure_entry plan floors ceilings i))

-- a figure line for each grade, where there are figures
abbrev pub figure_part : ℕ → Option Figures → List ℕ
figure_part grades (Some f) = figures_text f.row f.floor.at f.ceiling.at grades
figure_part grades None = []

-- the whole sheet of a table, with figures or without, and the labels of grades and rows
unfoldable pub render : Table → Option Figures → (ℕ → List ℕ) → (ℕ → List ℕ) → List ℕ
render t f grade_label row_label =
    ((((line_text (header_entry t (figures_of t.grades f))
    ++ grades_text t.first_row grade_label t.grades)
    ++ rows_text t.row row_label t.rows)
    ++ arcs_text t.arc t.arcs)
    ++ figure_part t.grades f)
    ++ line_text end
