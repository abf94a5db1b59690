-- The laws of sums and multiples, of integers and then of costs. Assumes nothing.
use Rattle.std.specs.Prelude.{◌≡◌, ℕ, ◌+◌, ◌*◌, ℤ, pos, ◌+ℤ◌, ◌*ℤ◌, neg_ℤ}
use Rattle.std.proofs.Common.{sym, ap, ◌∙◌, mul-add, add-mul, mul_assoc, mul_comm, arith}
use Rattle.std.proofs.Math.IntN.{+ℤ_comm, +ℤ_assoc}
use borrow.Author.Differences.{up, down, ints, same_in, neg_is, product_is, sum_is_lem}
use Rattle.rankings.specs.Costs.{Cost, plus, times, zero, negated}

-- ---- integers
pub up_mul : (k : ℕ) (x : ℤ) → up (pos k *ℤ x) ≡ k * up x
up_mul k x = omega (arith, product_is (pos k) x)

pub down_mul : (k : ℕ) (x : ℤ) → down (pos k *ℤ x) ≡ k * down x
down_mul k x = omega (arith, product_is (pos k) x)

up_neg : (z : ℤ) → up (neg_ℤ z) ≡ down z
up_neg z = (neg_is z).0

down_neg : (z : ℤ) → down (neg_ℤ z) ≡ up z
down_neg z = (neg_is z).1

pub mul_neg : (k : ℕ) (z : ℤ) → pos k *ℤ neg_ℤ z ≡ neg_ℤ (pos k *ℤ z)
mul_neg k z = same_in (pos k *ℤ neg_ℤ z) (neg_ℤ (pos k *ℤ z)) (simp (up_neg, down_neg, up_mul, down_mul) (omega arith))

pub mul_sum : (k : ℕ) (x y : ℤ) → pos k *ℤ (x +ℤ y) ≡ pos k *ℤ x +ℤ pos k *ℤ y
mul_sum k x y = omega (arith, ints, simp mul-add at (ap (λ (n : ℕ). k * n) (sum_is_lem x y)))

pub sum_mul : (j k : ℕ) (x : ℤ) → pos (j + k) *ℤ x ≡ pos j *ℤ x +ℤ pos k *ℤ x
sum_mul j k x = omega (arith, ints, add-mul j k (up x), add-mul j k (down x))

pub mul_mul : (j k : ℕ) (x : ℤ) → pos (j * k) *ℤ x ≡ pos j *ℤ (pos k *ℤ x)
mul_mul j k x = same_in (pos (j * k) *ℤ x) (pos j *ℤ (pos k *ℤ x)) (simp (up_mul, down_mul, mul_assoc) (omega arith))

pub mul_swap : (j k : ℕ) (x : ℤ) → pos j *ℤ (pos k *ℤ x) ≡ pos k *ℤ (pos j *ℤ x)
mul_swap j k x = sym (mul_mul j k x) ∙ ap (λ (n : ℕ). pos n *ℤ x) (mul_comm j k) ∙ mul_mul k j x

-- ---- costs
pub plus_comm : (a b : Cost) → plus a b ≡ plus b a
plus_comm a b = λ i. (+ℤ_comm a.0 b.0 i, +ℤ_comm a.1 b.1 i)

pub plus_assoc : (a b c : Cost) → plus (plus a b) c ≡ plus a (plus b c)
plus_assoc a b c = λ i. (+ℤ_assoc a.0 b.0 c.0 i, +ℤ_assoc a.1 b.1 c.1 i)

part_zero : (x : ℤ) → x +ℤ pos 0 ≡ x
part_zero x = omega (arith, ints)

pub plus_zero : (a : Cost) → plus a zero ≡ a
plus_zero a = λ i. (part_zero a.0 i, part_zero a.1 i)

pub zero_plus : (a : Cost) → plus zero a ≡ a
zero_plus a = plus_comm zero a ∙ plus_zero a

part_back : (x y : ℤ) → (x +ℤ y) +ℤ neg_ℤ y ≡ x
part_back x y = omega (arith, ints)

-- what was added is taken away again
pub plus_back : (a b : Cost) → plus (plus a b) (negated b) ≡ a
plus_back a b = λ i. (part_back a.0 b.0 i, part_back a.1 b.1 i)

part_none : (x : ℤ) → x +ℤ neg_ℤ x ≡ pos 0
part_none x = omega (arith, ints)

pub plus_negated : (a : Cost) → plus a (negated a) ≡ zero
plus_negated a = λ i. (part_none a.0 i, part_none a.1 i)

pub times_plus : (k : ℕ) (a b : Cost) → times k (plus a b) ≡ plus (times k a) (times k b)
times_plus k a b = λ i. (mul_sum k a.0 b.0 i, mul_sum k a.1 b.1 i)

pub sum_times : (j k : ℕ) (a : Cost) → times (j + k) a ≡ plus (times j a) (times k a)
sum_times j k a = λ i. (sum_mul j k a.0 i, sum_mul j k a.1 i)

pub product_times : (j k : ℕ) (a : Cost) → times (j * k) a ≡ times j (times k a)
product_times j k a = λ i. (mul_mul j k a.0 i, mul_mul j k a.1 i)

pub times_swap : (j k : ℕ) (a : Cost) → times j (times k a) ≡ times k (times j a)
times_swap j k a = λ i. (mul_swap j k a.0 i, mul_swap j k a.1 i)

part_one : (x : ℤ) → pos 1 *ℤ x ≡ x
part_one x = omega (arith, ints)

pub one_times : (a : Cost) → times 1 a ≡ a
one_times a = λ i. (part_one a.0 i, part_one a.1 i)

part_nothing : (x : ℤ) → pos 0 *ℤ x ≡ pos 0
part_nothing x = omega (arith, ints)

pub zero_times : (a : Cost) → times 0 a ≡ zero
zero_times a = λ i. (part_nothing a.0 i, part_nothing a.1 i)

of_nothing : (k : ℕ) → pos k *ℤ pos 0 ≡ pos 0
of_nothing k = omega (arith, ints)

pub times_zero : (k : ℕ) → times k zero ≡ zero
times_zero k = λ i. (of_nothing k i, of_nothing k i)

pub times_negated : (k : ℕ) (a : Cost) → times k (negated a) ≡ negated (times k a)
times_negated k a = λ i. (mul_neg k a.0 i, mul_neg k a.1 i)
