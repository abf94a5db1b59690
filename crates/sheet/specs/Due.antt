-- The lines that a sheet is due to have, in their order, and the ranges of what they say. Assumes nothing.
use Rattle.std.specs.Prelude.{◌≡◌, ℕ, zero, suc, ◌+◌, ◌<◌, ◌⊎◌, List, [], ◌∷◌, ◌++◌, ℤ, pos}
use Rattle.table.specs.Ranges.{Within, PartIn, FigureIn}
use Rattle.lines.specs.Lines.{Entry, HeaderOf, GradeOf, RowOf, ArcOf, FigureOf}
use Rattle.lines.specs.Lines as line

-- the numbers of the first line: G R A D a b q F
pub record Counts : Type 0 where
  pub grades : ℕ
  pub rows : ℕ
  pub arcs : ℕ
  pub total : ℕ
  pub numerator : ℕ
  pub denominator : ℕ
  pub fineness : ℕ
  pub figures : ℕ

abbrev pub header_said : Counts → HeaderOf
header_said c = ((pos c.grades, (pos c.rows, (pos c.arcs, pos c.total))), (pos c.numerator, (pos c.denominator, (pos c.fineness, pos c.figures))))

-- their ranges
pub record Counted (c : Counts) : Type 0 where
  pub grades : Within 1 32 c.grades
  pub rows : Within 1 96 c.rows
  pub arcs : Within 1 512 c.arcs
  pub total : Within 1 1000 c.total
  pub denominator : Within 1 1000 c.denominator
  pub numerator : c.numerator < c.denominator
  pub fineness : Within 1 100 c.fineness
  pub figures : (c.figures ≡ 0) ⊎ (c.figures ≡ c.grades)

-- what is due after the first line: the line i + 1 of a group, or the last line
pub data Slot : Type 0 where
  grade : ℕ → Slot
  row : ℕ → Slot
  arc : ℕ → Slot
  figure : ℕ → Slot
  end : Slot

-- what a line of the form that is due there says, and the line
abbrev pub Said : Slot → Type 0
Said (grade i) = GradeOf
Said (row i) = RowOf
Said (arc i) = ArcOf
Said (figure i) = FigureOf
Said end = Unit {0}

abbrev pub entry : (s : Slot) → Said s → Entry
entry (grade i) x = line.grade x
entry (row i) x = line.row x
entry (arc i) x = line.arc x
entry (figure i) x = line.figure x
entry end x = line.end

-- a number from low to high
abbrev pub Count : ℕ → ℕ → ℤ → Type 0
Count low high z = (n : ℕ) × (z ≡ pos n) × Within low high n

-- the line's own number is the next of its group, and each other number is in its range
abbrev pub Ranged : Counts → (s : Slot) → Said s → Type 0
Ranged c (grade i) x = (x.0 ≡ pos (i + 1)) × Count 1 c.rows x.1.0
Ranged c (row i) x = (x.0.0 ≡ pos (i + 1)) × Count 0 c.rows x.0.1.0 × PartIn x.0.1.1.0 × PartIn x.0.1.1.1 × Count 1 c.arcs x.1.0
Ranged c (arc i) x = (x.0 ≡ pos (i + 1)) × Count 0 c.arcs x.1.0 × Count 1 c.grades x.1.1.0 × Count 1 c.total x.1.1.1
Ranged c (figure i) x = (x.0 ≡ pos (i + 1)) × Count 1 c.rows x.1.0 × FigureIn (x.1.1.0, x.1.1.1.0) × FigureIn (x.1.1.1.1.0, x.1.1.1.1.1)
Ranged c end x = Unit {0}

-- the lines 1 to n of a group
abbrev pub group : (ℕ → Slot) → ℕ → List Slot
group f zero = []
group f (suc n) = group f n ++ f n ∷ []

-- all that is due after the first line
abbrev pub slots : Counts → List Slot
slots c = group grade c.grades ++ (group row c.rows ++ (group arc c.arcs ++ (group figure c.figures ++ end ∷ [])))
