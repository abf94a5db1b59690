-- The number, the layer and the places of each refusal. Assumes nothing.
use Rattle.std.specs.Prelude.{ℕ, List, ◌++◌, codes, decimal}
use Rattle.lines.specs.declared.fault.TextFault.{TextFault}
use Rattle.lines.specs.declared.fault.TextFault.TheVariants.{TooLong, Form, Range, NoLine}
use Rattle.sheet.specs.declared.write_fault.WriteFault.{WriteFault}
use Rattle.sheet.specs.declared.write_fault.WriteFault.TheVariants.{OldSheet, Room}
use Rattle.table.specs.declared.fault.TableFault.{TableFault}
use Rattle.table.specs.declared.fault.TableFault.TheVariants.{RowPointers, LooseRow, ArcPointers, LooseArc, Weights}
use Rattle.table.specs.declared.fault.FiguresFault.{FiguresFault}
use Rattle.table.specs.declared.fault.FiguresFault.TheVariants.{PlanRow, Part, Floor, Ceiling}
use Rattle.book.specs.declared.layer.Layer.{Layer}
use Rattle.book.specs.declared.layer.Layer.TheVariants as layer
use Rattle.book.specs.declared.refusal.Refusal.{Refusal}
use Rattle.book.specs.declared.refusal.Refusal.TheVariants.{Text, Table, Figures, NoTable, Sweeps, Write}

abbrev pub number_of : Refusal → ℕ
number_of (Text TooLong) = 1
number_of (Text (Form l)) = 2
number_of (Text (Range l)) = 3
number_of (Text (NoLine p)) = 23
number_of (Table (RowPointers k)) = 4
number_of (Table (LooseRow k)) = 5
number_of (Table (ArcPointers x)) = 6
number_of (Table (LooseArc x)) = 7
number_of (Table (Weights k)) = 8
number_of (Figures (PlanRow g k)) = 9
number_of (Figures (Part g)) = 17
number_of (Figures (Floor g k)) = 10
number_of (Figures (Ceiling g k)) = 11
number_of NoTable = 12
number_of Sweeps = 15
number_of (Write (OldSheet l)) = 21
number_of (Write (Room n)) = 22

-- the number by which a layer is known
abbrev pub layer_number : Layer → ℕ
layer_number layer.Text = 1
layer_number layer.Table = 2
layer_number layer.Figures = 3
layer_number layer.Book = 4

-- 1 text, 2 table, 3 figures, 4 book
abbrev pub layer_of : Refusal → ℕ
layer_of (Text f) = 1
layer_of (Table f) = 2
layer_of (Figures f) = 3
layer_of NoTable = 4
layer_of Sweeps = 4
layer_of (Write f) = 4

-- a line or a byte; a row or an arc; a grade and a row; a line or a length
abbrev pub text_place : TextFault → ℕ
text_place TooLong = 0
text_place (Form l) = l
text_place (Range l) = l
text_place (NoLine p) = p

abbrev pub table_place : TableFault → ℕ
table_place (RowPointers k) = k
table_place (LooseRow k) = k
table_place (ArcPointers x) = x
table_place (LooseArc x) = x
table_place (Weights k) = k

abbrev pub figures_places : FiguresFault → ℕ × ℕ
figures_places (PlanRow g k) = (g, k)
figures_places (Part g) = (g, 0)
figures_places (Floor g k) = (g, k)
figures_places (Ceiling g k) = (g, k)

abbrev pub write_place : WriteFault → ℕ
write_place (OldSheet l) = l
write_place (Room n) = n

-- a place that is not named is 0
abbrev pub places_of : Refusal → ℕ × ℕ
places_of (Text f) = (text_place f, 0)
places_of (Table f) = (table_place f, 0)
places_of (Figures f) = figures_places f
places_of NoTable = (0, 0)
places_of Sweeps = (0, 0)
places_of (Write f) = (write_place f, 0)

-- `no`, the number, the layer and both places, with blanks between
abbrev pub refusal_words : Refusal → List ℕ
refusal_words e = codes "no " ++ decimal (number_of e) ++ codes " " ++ decimal (layer_of e) ++ codes " " ++ decimal (places_of e).0 ++ codes " " ++ decimal (places_of e).1
