-- The first refusal of a sheet's text: its number and its line, for every byte string. Assumes nothing.
use Rattle.std.specs.Prelude.{◌≡◌, ℕ, ◌+◌, ◌<◌, ◌≤◌, ◌⊎◌, List, [], ◌∷◌, ◌++◌, length, ◌≢◌}
use Rattle.lines.specs.declared.fault.TextFault.{TextFault}
use Rattle.lines.specs.declared.fault.TextFault.TheVariants as fault
use Rattle.lines.specs.Lines.{HeaderOf, header, line_text, Good}
use Rattle.sheet.specs.Due.{Counts, Counted, header_said, Slot, Said, entry, Ranged, slots}

-- no line of the form that is due begins the bytes
abbrev pub Missing : Slot → List ℕ → Type 0
Missing s bs = (x : Said s) (rest : List ℕ) → Good (entry s x) → bs ≢ line_text (entry s x) ++ rest

-- one does, with a number out of its range or order
pub record Wrong (c : Counts) (s : Slot) (bs : List ℕ) : Type 0 where
  pub said : Said s
  pub rest : List ℕ
  pub good : Good (entry s said)
  pub text : bs ≡ line_text (entry s said) ++ rest
  pub out : Ranged c s said → ⊥

-- one does, with each number in range, and rest are the bytes after it
pub record Taken (c : Counts) (s : Slot) (bs rest : List ℕ) : Type 0 where
  pub said : Said s
  pub good : Good (entry s said)
  pub text : bs ≡ line_text (entry s said) ++ rest
  pub ranged : Ranged c s said

-- the lines that are due are there one after another, and rest are the bytes after them
abbrev pub Through : Counts → List Slot → List ℕ → List ℕ → Type 0
Through c [] bs rest = bs ≡ rest
Through c (s ∷ ss) bs rest = (next : List ℕ) × Taken c s bs next × Through c ss next rest

-- the lines are read one by one from the line l on, up to the first that is missing or out of range; after the last, any byte counts as a line that is not due
abbrev pub Stops : Counts → List Slot → ℕ → List ℕ → TextFault → Type 0
Stops c [] l bs f = (0 < length bs) × (f ≡ fault.Form l)
Stops c (s ∷ ss) l bs f = (Missing s bs × (f ≡ fault.Form l)) ⊎ ((Wrong c s bs × (f ≡ fault.Range l)) ⊎ ((next : List ℕ) × Taken c s bs next × Stops c ss (l + 1) next f))

-- no first line is there
abbrev pub Headless : List ℕ → Type 0
Headless bs = (h : HeaderOf) (rest : List ℕ) → Good (header h) → bs ≢ line_text (header h) ++ rest

-- the first line has a number out of its range
pub record HeaderWrong (bs : List ℕ) : Type 0 where
  pub said : HeaderOf
  pub rest : List ℕ
  pub good : Good (header said)
  pub text : bs ≡ line_text (header said) ++ rest
  pub out : (c : Counts) → Counted c → said ≢ header_said c

-- the first line says c, and rest are the bytes after it
pub record HeaderTaken (bs : List ℕ) (c : Counts) (rest : List ℕ) : Type 0 where
  pub text : bs ≡ line_text (header (header_said c)) ++ rest
  pub ranged : Counted c

-- 1 where the sheet is too long; else line by line, from the first
abbrev pub FirstRefused : List ℕ → TextFault → Type 0
FirstRefused bs f =
    ((32768 < length bs) × (f ≡ fault.TooLong))
    ⊎ ((length bs ≤ 32768) × ((Headless bs × (f ≡ fault.Form 1))
    ⊎ ((HeaderWrong bs × (f ≡ fault.Range 1))
    ⊎ ((c : Counts) × (rest : List ℕ) × HeaderTaken bs c rest × Stops c (slots c) 2 rest f))))
