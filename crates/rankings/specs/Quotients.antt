-- The quotient taken down and up: what the code computes it by, and what a multiple of it comes to. Assumes nothing.
use Rattle.std.specs.Prelude.{◌≡◌, ℕ, zero, suc, ◌*◌, ◌/◌, ◌%◌, ◌<◌, ◌≤◌, Bool, true, ℤ, pos, negsuc, ◌+ℤ◌, ◌-ℤ◌, ◌*ℤ◌, neg_ℤ, ◌≤ℤ◌, ◌<ℤ◌, int_div, int_rem, unsigned_abs, refl}
use Rattle.std.proofs.Common.{sym, ap, inl, inr, mul-add, add-mul, mod-lt, div-add-mod', div-le_self, arith}
use Rattle.std.proofs.Math.Nat.{mul-div-le, div-add-mod, div-eq_of_lt-le, zero-div, zero-mod, mod-le}
use Rattle.std.proofs.Math.IntN.{neg_ℤ-neg_ℤ}
use Rattle.std.proofs.lemmas.Int.{ints}
use Rattle.rankings.specs.Costs.{Cost, times, Down, Up, floor, ceil}
use Rattle.rankings.specs.Laws.{Rounds}
use Rattle.rankings.specs.Models.{both_down, both_up}
use Rattle.rankings.specs.Algebra.{mul_neg, mul_sum}

-- where the next number is no multiple of b, its quotient is the same
div_between : (a b : ℕ) → 0 < b → 0 < suc a % b → a / b ≡ suc a / b
div_between a b h r =
    let d = div-add-mod' (suc a) b in
    div-eq_of_lt-le b (omega arith) (omega (arith, mod-lt (suc a) h, add-mul (suc a / b) 1 b))

-- and where it is one, the quotient is one less
div_at : (a b q : ℕ) → 0 < b → suc a ≡ q * b → suc (a / b) ≡ q
div_at a b zero h e = omega arith
div_at a b (suc p) h e = ap suc (div-eq_of_lt-le b (omega (arith, add-mul p 1 b)) (omega (arith, add-mul p 1 b)))

-- a remainder below zero: the machine's quotient is one too high
pub floor_less : (x m : ℤ) → pos 1 ≤ℤ m → int_rem x m <ℤ pos 0 → int_div x m -ℤ pos 1 ≡ floor x (unsigned_abs m)
floor_less (pos a) (pos b) h r = absurd (omega (arith, ints))
floor_less (negsuc a) (pos b) h r =
    let p : 0 < b = omega (arith, ints) in
    let s : 0 < suc a % b = omega (arith, ints) in
    let e = div_between a b p s in
    omega (arith, ints)
floor_less x (negsuc b) h r = absurd (omega (arith, ints))

-- no such remainder: it is right
pub floor_same : (x m : ℤ) → pos 1 ≤ℤ m → pos 0 ≤ℤ int_rem x m → int_div x m ≡ floor x (unsigned_abs m)
floor_same (pos a) (pos b) h r = refl
floor_same (negsuc a) (pos b) h r =
    let p : 0 < b = omega (arith, ints) in
    let s : suc a % b ≡ 0 = omega (arith, ints) in
    let e = div_at a b (suc a / b) p (omega (arith, div-add-mod' (suc a) b)) in
    omega (arith, ints)
floor_same x (negsuc b) h r = absurd (omega (arith, ints))

-- m times the quotient taken down is at most z, and m times the next number is more
pub floor_below : (z : ℤ) (m : ℕ) → 0 < m → (pos m *ℤ floor z m) ≤ℤ z
floor_below (pos a) m h = omega (arith, ints, mul-div-le a m)
floor_below (negsuc a) m h = omega (arith, ints, div-add-mod a m, mod-lt a h, mul-add m (a / m) 1)

floor_next : (z : ℤ) (m : ℕ) → 0 < m → z <ℤ (pos m *ℤ (floor z m +ℤ pos 1))
floor_next (pos a) m h = omega (arith, ints, mul_sum m (pos (a / m)) (pos 1), div-add-mod a m, mod-lt a h)
floor_next (negsuc a) m h = omega (arith, ints, mul_sum m (negsuc (a / m)) (pos 1), mul-add m (a / m) 1, mul-div-le a m)

pub floor_down : (z : ℤ) (m : ℕ) → 0 < m → Down z m (floor z m)
floor_down z m h = record { this = floor_below z m h; next = floor_next z m h }

-- m times the quotient taken up is at least z, and m times the number before it is less
pub ceil_above : (z : ℤ) (m : ℕ) → 0 < m → z ≤ℤ (pos m *ℤ ceil z m)
ceil_above z m h = omega (arith, ints, floor_below (neg_ℤ z) m h, mul_neg m (floor (neg_ℤ z) m))

back : (z : ℤ) → neg_ℤ (z +ℤ pos 1) ≡ neg_ℤ z -ℤ pos 1
back z = omega (arith, ints)

pub ceil_up : (z : ℤ) (m : ℕ) → 0 < m → Up z m (ceil z m)
ceil_up z m h =
    let f = floor (neg_ℤ z) m in
    let n : neg_ℤ z <ℤ (pos m *ℤ (f +ℤ pos 1)) = floor_next (neg_ℤ z) m h in
    let e : pos m *ℤ (neg_ℤ f -ℤ pos 1) ≡ neg_ℤ (pos m *ℤ (f +ℤ pos 1)) = rw (← back f) (mul_neg m (f +ℤ pos 1)) in
    record { this = ceil_above z m h; last = rw e (omega (arith, ints)) }

-- the quotient and the remainder of the opposite are the opposites: what holds downward holds upward
neg_quot : (x m : ℤ) → pos 1 ≤ℤ m → (int_div (neg_ℤ x) m ≡ neg_ℤ (int_div x m)) × (int_rem (neg_ℤ x) m ≡ neg_ℤ (int_rem x m))
neg_quot (pos zero) (pos b) h = (simp zero-div, simp zero-mod)
neg_quot (pos (suc a)) (pos b) h = (refl, refl)
neg_quot (negsuc a) (pos b) h = (sym (neg_ℤ-neg_ℤ (pos (suc a / b))), sym (neg_ℤ-neg_ℤ (pos (suc a % b))))
neg_quot x (negsuc b) h = absurd (omega (arith, ints))

-- neither the quotient nor the remainder is larger than what is divided
pub quot_within : (x m : ℤ) → pos 1 ≤ℤ m → unsigned_abs (int_div x m) ≤ unsigned_abs x
quot_within (pos a) (pos b) h = div-le_self a b
quot_within (negsuc a) (pos b) h = omega (arith, ints, div-le_self (suc a) b)
quot_within x (negsuc b) h = absurd (omega (arith, ints))

pub rem_within : (x m : ℤ) → unsigned_abs (int_rem x m) ≤ unsigned_abs x
rem_within (pos a) m = mod-le a (unsigned_abs m)
rem_within (negsuc a) m = omega (arith, ints, mod-le (suc a) (unsigned_abs m))

-- a remainder above zero: the machine's quotient is one too low
pub ceil_more : (x m : ℤ) → pos 1 ≤ℤ m → pos 0 <ℤ int_rem x m → int_div x m +ℤ pos 1 ≡ ceil x (unsigned_abs m)
ceil_more x m h r = let n = neg_quot x m h in omega (arith, ints, floor_less (neg_ℤ x) m h (omega (arith, ints)))

-- no such remainder: it is right
pub ceil_same : (x m : ℤ) → pos 1 ≤ℤ m → int_rem x m ≤ℤ pos 0 → int_div x m ≡ ceil x (unsigned_abs m)
ceil_same x m h r = let n = neg_quot x m h in omega (arith, ints, floor_same (neg_ℤ x) m h (omega (arith, ints)))

-- nor is either quotient
pub floor_within : (x m : ℤ) → pos 1 ≤ℤ m → unsigned_abs (floor x (unsigned_abs m)) ≤ unsigned_abs x
floor_within (pos a) (pos b) h = div-le_self a b
floor_within (negsuc a) (pos b) h = omega (arith, ints, div-le_self a b)
floor_within x (negsuc b) h = absurd (omega (arith, ints))

pub ceil_within : (x m : ℤ) → pos 1 ≤ℤ m → unsigned_abs (ceil x (unsigned_abs m)) ≤ unsigned_abs x
ceil_within x m h = omega (arith, ints, floor_within (neg_ℤ x) m h)

-- Taken down and up, both parts round for any relation by which what is no more in either part is no dearer
pub rounds_by_parts : (le : Cost → Cost → Bool) → ((a b : Cost) → a.0 ≤ℤ b.0 → a.1 ≤ℤ b.1 → le a b ≡ true) → Rounds le both_down both_up
rounds_by_parts le mono = record {
  cheap_parts = λ c m h k f. record { first = inl refl; second = inl refl };
  dear_parts = λ c m h k f. record { first = inr refl; second = inr refl };
  cheap_below = λ c m h k f. mono (times m (both_down c m)) c (floor_below c.0 m h) (floor_below c.1 m h);
  dear_above = λ c m h k f. mono c (times m (both_up c m)) (ceil_above c.0 m h) (ceil_above c.1 m h);
}
