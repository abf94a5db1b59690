-- What a writer leaves in its bytes.
use Rattle.std.specs.Prelude.{◌≡◌, ℕ, ◌+◌, ◌<◌, ◌≤◌, List, ◌++◌, length, take, drop, ℤ, Some, None, Option}
use Rattle.text.specs.Reading.{Reads}
use Rattle.text.specs.Fields.{Small, number_text}

-- xs with ys written over it from the place at on
abbrev pub put : List ℕ → ℕ → List ℕ → List ℕ
put xs at ys = take at xs ++ (ys ++ drop (at + length ys) xs)

-- the place after ys where they have room in xs, and none where they have not; what stands before at stays in any case
abbrev pub Writes : List ℕ → ℕ → List ℕ → Option ℕ → List ℕ → Type 0
Writes xs at ys (Some j) zs = (j ≡ at + length ys) × (j ≤ length xs) × (zs ≡ put xs at ys)
Writes xs at ys None zs = (length xs < at + length ys) × (length zs ≡ length xs) × (take at zs ≡ take at xs)

-- a number was written from at up to j: its text lies there, all other bytes stay, and what reads at that place reads the number
pub record Placed (xs : List ℕ) (at end : ℕ) (z : ℤ) (j : ℕ) (zs : List ℕ) : Type 0 where
  pub before : take at zs ≡ take at xs
  pub here : drop at zs ≡ number_text end z ++ drop j zs
  pub after : drop j zs ≡ drop j xs
  pub read : (o : Option (ℤ × List ℕ)) → Small z → Reads Small (number_text end) (drop at zs) o → o ≡ Some (z, drop j zs)

-- the same of what a writer returned
abbrev pub ReadsBack : List ℕ → ℕ → ℕ → ℤ → Option ℕ → List ℕ → Type 0
ReadsBack xs at end z (Some j) zs = Placed xs at end z j zs
ReadsBack xs at end z None zs = Unit {0}
