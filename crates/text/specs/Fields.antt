-- Numbers and labels, and how each is written.
use Rattle.std.specs.Prelude.{ℕ, ◌^◌, ◌<◌, ◌≤◌, List, [], ◌∷◌, ◌++◌, length, ℤ, decimal, slice_index, unsigned_abs}
use Rattle.std.specs.Int.{IsInRange}
use Rattle.std.specs.Fmt.{signed_decimal}
use Rattle.text.specs.declared.end.End.{End}
use Rattle.text.specs.declared.end.End.TheVariants as field

-- the byte that ends a field: a blank, or the line's end
abbrev pub byte_of : End → ℕ
byte_of field.Blank = 32
byte_of field.Line = 10

-- a byte that can end a field: no digit and no byte of a label
abbrev pub Ends : ℕ → Type 0
Ends b = b < 33

-- 1 to limit bytes, each from low to high
pub record Filled (low high limit : ℕ) (bs : List ℕ) : Type 0 where
  pub some : 0 < length bs
  pub most : length bs ≤ limit
  pub all : (k : ℕ) → k < length bs → IsInRange low high (slice_index bs k)

-- bytes, and the one that ends them
abbrev pub ended : ℕ → List ℕ → List ℕ
ended end bs = bs ++ end ∷ []

-- a natural number of at most eleven digits
abbrev pub Short : ℕ → Type 0
Short n = n < 10 ^ 11

-- an integer of at most eleven digits
abbrev pub Small : ℤ → Type 0
Small z = unsigned_abs z < 10 ^ 11

-- a natural number in decimal, and the byte that ends it
abbrev pub natural_text : ℕ → ℕ → List ℕ
natural_text end n = decimal n ++ end ∷ []

-- an integer in decimal, with a minus where it is negative, and the byte that ends it
abbrev pub number_text : ℕ → ℤ → List ℕ
number_text end z = signed_decimal z ++ end ∷ []

-- 1 to 24 bytes from 33 to 126
abbrev pub Label : List ℕ → Type 0
Label = Filled 33 126 24

-- a label, and the line's end
abbrev pub label_text : List ℕ → List ℕ
label_text bs = bs ++ 10 ∷ []
