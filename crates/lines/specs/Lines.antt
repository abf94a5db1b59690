-- The lines of a sheet, and how each is written.
use Rattle.std.specs.Prelude.{ℕ, List, [], ◌∷◌, ℤ}
use Rattle.text.specs.Reading.{both, Each, Alone}
use Rattle.text.specs.Fields.{Small, Label, number_text, label_text}
use Rattle.lines.specs.declared.records.HeaderLine.{HeaderLine}
use Rattle.lines.specs.declared.records.GradeLine.{GradeLine}
use Rattle.lines.specs.declared.records.RowLine.{RowLine}
use Rattle.lines.specs.declared.records.ArcLine.{ArcLine}
use Rattle.lines.specs.declared.records.FigureLine.{FigureLine}
use Rattle.lines.specs.declared.records.Line.{Line}
use Rattle.lines.specs.declared.records.Line.TheVariants as line

-- four numbers in a row
abbrev pub FourOf : Type 0
FourOf = ℤ × (ℤ × (ℤ × ℤ))

-- grades, rows, arcs, total; numerator, denominator, fineness, figures
abbrev pub HeaderOf : Type 0
HeaderOf = FourOf × FourOf

-- number, first row, label
abbrev pub GradeOf : Type 0
GradeOf = ℤ × (ℤ × List ℕ)

-- number, next, first part, second part; first arc; label
abbrev pub RowOf : Type 0
RowOf = FourOf × (ℤ × List ℕ)

-- number, next, destination, weight
abbrev pub ArcOf : Type 0
ArcOf = FourOf

-- grade; row; the parts of the floor and of the ceiling
abbrev pub FigureOf : Type 0
FigureOf = ℤ × (ℤ × FourOf)

-- what a line says
pub data Entry : Type 0 where
  header : HeaderOf → Entry
  grade : GradeOf → Entry
  row : RowOf → Entry
  arc : ArcOf → Entry
  figure : FigureOf → Entry
  end : Entry

-- a number with another field after it
abbrev pub blank : ℤ → List ℕ
blank = number_text 32

-- four numbers, and the byte that ends the last of them
abbrev pub four_text : ℕ → FourOf → List ℕ
four_text stop = both blank (both blank (both blank (number_text stop)))

-- eight numbers
abbrev pub header_text : HeaderOf → List ℕ
header_text = both (four_text 32) (four_text 10)

-- two numbers and a label
abbrev pub grade_text : GradeOf → List ℕ
grade_text = both blank (both blank label_text)

-- five numbers and a label
abbrev pub row_text : RowOf → List ℕ
row_text = both (four_text 32) (both blank label_text)

-- four numbers
abbrev pub arc_text : ArcOf → List ℕ
arc_text = four_text 10

-- six numbers
abbrev pub figure_text : FigureOf → List ℕ
figure_text = both blank (both blank (four_text 10))

-- the first word and a blank, then the fields: `sheet`, `g`, `r`, `t`, `f`; and `end` alone
abbrev pub line_text : Entry → List ℕ
line_text (header h) = 115 ∷ 104 ∷ 101 ∷ 101 ∷ 116 ∷ 32 ∷ header_text h
line_text (grade g) = 103 ∷ 32 ∷ grade_text g
line_text (row r) = 114 ∷ 32 ∷ row_text r
line_text (arc a) = 116 ∷ 32 ∷ arc_text a
line_text (figure f) = 102 ∷ 32 ∷ figure_text f
line_text end = 101 ∷ 110 ∷ 100 ∷ 10 ∷ []

-- each number of at most eleven digits
abbrev pub GoodFour : FourOf → Type 0
GoodFour = Each Small (Each Small (Each Small Small))

-- each number of at most eleven digits
abbrev pub GoodHeader : HeaderOf → Type 0
GoodHeader = Each GoodFour GoodFour

-- the same, and a label of 1 to 24 bytes
abbrev pub GoodGrade : GradeOf → Type 0
GoodGrade = Each Small (Each Small Label)

-- the same, and a label of 1 to 24 bytes
abbrev pub GoodRow : RowOf → Type 0
GoodRow = Each GoodFour (Each Small Label)

-- each number of at most eleven digits
abbrev pub GoodArc : ArcOf → Type 0
GoodArc = GoodFour

-- each number of at most eleven digits
abbrev pub GoodFigure : FigureOf → Type 0
GoodFigure = Each Small (Each Small GoodFour)

-- a line of good form
abbrev pub Good : Entry → Type 0
Good (header h) = GoodHeader h
Good (grade g) = GoodGrade g
Good (row r) = GoodRow r
Good (arc a) = GoodArc a
Good (figure f) = GoodFigure f
Good end = Unit {0}

-- four numbers that the program has together
abbrev pub four_of : ℤ × ℤ × ℤ × ℤ → FourOf
four_of t = (t.0, (t.1, (t.2, t.3)))

-- what the program's records say
abbrev pub header_of : HeaderLine → HeaderOf
header_of h = ((h.grades, (h.rows, (h.arcs, h.total))), (h.numerator, (h.denominator, (h.fineness, h.figures))))

-- what the program's records say
abbrev pub grade_of : GradeLine → GradeOf
grade_of g = (g.number, (g.first_row, g.label.now))

-- what the program's records say
abbrev pub row_of : RowLine → RowOf
row_of r = ((r.number, (r.next, (r.first_part, r.second_part))), (r.first_arc, r.label.now))

-- what the program's records say
abbrev pub arc_of : ArcLine → ArcOf
arc_of a = (a.number, (a.next, (a.destination, a.weight)))

-- what the program's records say
abbrev pub figure_of : FigureLine → FigureOf
figure_of f = (f.grade, (f.row, (f.floor_first, (f.floor_second, (f.ceiling_first, f.ceiling_second)))))

-- what a line of the program says
abbrev pub entry_of : Line → Entry
entry_of (line.Header h) = header (header_of h)
entry_of (line.Grade g) = grade (grade_of g)
entry_of (line.Row r) = row (row_of r)
entry_of (line.Arc a) = arc (arc_of a)
entry_of (line.Figure f) = figure (figure_of f)
entry_of line.End = end

-- the text of a line is the front of no other's
abbrev pub PrefixFree : Type 0
PrefixFree = Alone Good line_text
