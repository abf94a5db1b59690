-- What it is to read: the value whose text is at the front of some bytes, and the bytes after it.
use Rattle.std.specs.Prelude.{◌≡◌, ℕ, List, ◌++◌, Some, None, Option}
use Rattle.std.specs.Borrow.{Bor}

-- o is the good value whose text begins bs, with the bytes after it, and is none where no good value's text does
pub record Reads {A : Type 0} (Good : A → Type 0) (text : A → List ℕ) (bs : List ℕ) (o : Option (A × List ℕ)) : Type 0 where
  pub was : (a : A) (rest : List ℕ) → o ≡ Some (a, rest) → Good a × (bs ≡ text a ++ rest)
  pub must : (a : A) (rest : List ℕ) → Good a → bs ≡ text a ++ rest → o ≡ Some (a, rest)

-- what a reader returned: the value by f, and the bytes after it
abbrev pub seen : {A B : Type 0} → (A → B) → Option (A × Bor (List ℕ)) → Option (B × List ℕ)
seen f (Some p) = Some (f p.0, p.1.now)
seen f None = None

-- one text after another
abbrev pub both : {A B : Type 0} → (A → List ℕ) → (B → List ℕ) → A × B → List ℕ
both f g p = f p.0 ++ g p.1

-- each of two is good in its own way
abbrev pub Each : {A B : Type 0} → (A → Type 0) → (B → Type 0) → A × B → Type 0
Each P Q p = P p.0 × Q p.1

-- the text of a good value is the front of no other's
abbrev pub Alone : {A : Type 0} → (A → Type 0) → (A → List ℕ) → Type 0
Alone {A} G f = (a b : A) (x y : List ℕ) → G a → G b → f a ++ x ≡ f b ++ y → (a ≡ b) × (x ≡ y)
