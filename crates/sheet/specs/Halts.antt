-- Where the reading of a group of lines stops. Assumes nothing.
use Rattle.std.specs.Prelude.{◌≡◌, ℕ, ◌+◌, ◌<◌, cond, ◌⊎◌, List, [], ◌∷◌}
use Rattle.lines.specs.declared.fault.TextFault.{TextFault}
use Rattle.lines.specs.declared.fault.TextFault.TheVariants as fault
use Rattle.sheet.specs.declared.header.Header.{Header}
use Rattle.sheet.specs.Due.{Counts, Slot, end, group}
use Rattle.sheet.specs.Refused.{Missing, Wrong, Through, Stops, Headless, HeaderWrong}

-- the numbers of the first line, as the program has them
abbrev pub counts_of : Header → Counts
counts_of h =
    record {
      grades = h.grades;
      rows = h.rows;
      arcs = h.arcs;
      total = h.total;
      numerator = h.numerator;
      denominator = h.denominator;
      fineness = h.fineness;
      figures = cond h.figured h.grades 0;
    }

-- the first line is missing or out of range, and the fault says which
abbrev pub HeaderFault : List ℕ → TextFault → Type 0
HeaderFault bs e = (Headless bs × (e ≡ fault.Form 1)) ⊎ (HeaderWrong bs × (e ≡ fault.Range 1))

-- the line that is due is missing or out of range, and the fault says which, and its number l
abbrev pub LineFault : Counts → Slot → ℕ → List ℕ → TextFault → Type 0
LineFault c s l bs e = (Missing s bs × (e ≡ fault.Form l)) ⊎ (Wrong c s bs × (e ≡ fault.Range l))

-- of a group's n lines, of which the first is the sheet's line l, i are there, and the next one has the fault
pub record Halted (c : Counts) (f : ℕ → Slot) (n l : ℕ) (bs : List ℕ) (e : TextFault) : Type 0 where
  pub i : ℕ
  pub below : i < n
  pub rest : List ℕ
  pub through : Through c (group f i) bs rest
  pub faulty : LineFault c (f i) (l + i) rest e

-- the last line is missing, or a byte follows it
abbrev pub EndFault : ℕ → List ℕ → TextFault → Type 0
EndFault l bs e = (c : Counts) → Stops c (end ∷ []) l bs e
