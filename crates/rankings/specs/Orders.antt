-- Comparisons of integers keep a sum and a positive multiple. Assumes nothing.
use Rattle.std.specs.Prelude.{◌≡◌, ℕ, ◌+◌, ◌*◌, ◌<◌, Bool, true, false, ℤ, pos, ◌+ℤ◌, ◌*ℤ◌, int_le, int_lt, refl}
use Rattle.std.proofs.Common.{sym, mul-add, mul-le-mul_left, arith}
use Rattle.std.proofs.Math.Nat.{mul-lt-mul_of_pos_left}
use borrow.Author.Differences.{up, down, ints, le-true, le-false, lt-true, lt-false, true_is_le, false_is_le, true_is_lt, false_is_lt, product_is}

pub le_z_adds : (x y z : ℤ) → int_le (x +ℤ z) (y +ℤ z) ≡ int_le x y
le_z_adds x y z = grind (arith, ints)

pub lt_z_adds : (x y z : ℤ) → int_lt (x +ℤ z) (y +ℤ z) ≡ int_lt x y
lt_z_adds x y z = grind (arith, ints)

-- k times the difference of two integers
pub scaled : (k : ℕ) (x y : ℤ) → k * (up x + down y) ≡ up (pos k *ℤ x) + down (pos k *ℤ y)
scaled k x y = omega (arith, mul-add k (up x) (down y), product_is (pos k) x, product_is (pos k) y)

-- both answers of a comparison, at once
module _ (k : ℕ) (x y : ℤ) (h : 0 < k) where
  at_most : (t : Bool) → int_le x y ≡ t → t ≡ int_le (pos k *ℤ x) (pos k *ℤ y)
  at_most true e = true_is_le (pos k *ℤ x) (pos k *ℤ y) (omega (arith, scaled k x y, scaled k y x, mul-le-mul_left k (le-true x y e)))
  at_most false e = false_is_le (pos k *ℤ x) (pos k *ℤ y) (omega (arith, scaled k x y, scaled k y x, mul-lt-mul_of_pos_left (le-false x y e) h))

  below : (t : Bool) → int_lt x y ≡ t → t ≡ int_lt (pos k *ℤ x) (pos k *ℤ y)
  below true e = true_is_lt (pos k *ℤ x) (pos k *ℤ y) (omega (arith, scaled k x y, scaled k y x, mul-lt-mul_of_pos_left (lt-true x y e) h))
  below false e = false_is_lt (pos k *ℤ x) (pos k *ℤ y) (omega (arith, scaled k x y, scaled k y x, mul-le-mul_left k (lt-false x y e)))

  pub le_z_scales : int_le (pos k *ℤ x) (pos k *ℤ y) ≡ int_le x y
  le_z_scales = sym (at_most (int_le x y) refl)

  pub lt_z_scales : int_lt (pos k *ℤ x) (pos k *ℤ y) ≡ int_lt x y
  lt_z_scales = sym (below (int_lt x y) refl)
