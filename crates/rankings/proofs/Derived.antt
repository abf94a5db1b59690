-- What follows from the laws of a ranking, for every one. `le a b ≡ true` says that a is no dearer than b, and
-- `le a b ≡ false` that a is dearer. Assumes nothing.
use Rattle.std.proofs.Common.{◌≡◌, ℕ, zero, suc, ◌+◌, ◌-◌, ◌<◌, ◌≤◌, Bool, true, false, sym, ◌∙◌, ⊎_elim, arith}
use Rattle.std.proofs.lemmas.Bool.{both_ways, cases_Bool}
use Rattle.rankings.specs.Costs.{Cost, Modest, plus, times, negated, largest_divisor}
use Rattle.rankings.specs.Costs as costs
use Rattle.rankings.specs.Laws.{Ordered, Linear, Rounds}
use Rattle.rankings.specs.Algebra.{plus_comm, plus_back, plus_zero, sum_times, times_zero, zero_times}

module _ {le : Cost → Cost → Bool} (order : Ordered le) where
  -- what is dearer is not no dearer: the other is no dearer than it
  pub opposite : (a b : Cost) → le a b ≡ false → le b a ≡ true
  opposite a b d = order.total a b d

  pub reflexive : (a : Cost) → le a a ≡ true
  reflexive a = ⊎_elim (λ e. e) (λ d. order.total a a d) (cases_Bool (le a a))

  -- equal costs are no dearer than each other
  pub equal : (a b : Cost) → a ≡ b → le a b ≡ true
  equal a b e = rw e (reflexive b)

  -- a is dearer than c, and b is no cheaper than a
  pub dearer_up : (a b c : Cost) → le a b ≡ true → le a c ≡ false → le b c ≡ false
  dearer_up a b c p d = ⊎_elim (λ e. absurd (both_ways (le a c) d (order.trans a b c p e))) (λ e. e) (cases_Bool (le b c))

  -- a is dearer than c, and b is no dearer than c
  pub dearer_down : (a b c : Cost) → le b c ≡ true → le a c ≡ false → le a b ≡ false
  dearer_down a b c p d = ⊎_elim (λ e. absurd (both_ways (le a c) d (order.trans a b c e p))) (λ e. e) (cases_Bool (le a b))

  -- a is dearer than b, and b than c
  pub dearer_trans : (a b c : Cost) → le a b ≡ false → le b c ≡ false → le a c ≡ false
  dearer_trans a b c p q = dearer_up b a c (opposite a b p) q

module _ {le : Cost → Cost → Bool} (linear : Linear le) where
  -- one cost added to both sides keeps the relation and its opposite
  pub adds_same : (a b c : Cost) → le (plus a c) (plus b c) ≡ le a b
  adds_same a b c = ⊎_elim
      (λ e. linear.adds a b c e ∙ sym e)
      (λ d. ⊎_elim
      (λ e. absurd (both_ways (le a b) d (rw (plus_back a c, plus_back b c) at (linear.adds (plus a c) (plus b c) (negated c) e))))
      (λ e. e ∙ sym d)
      (cases_Bool (le (plus a c) (plus b c))))
      (cases_Bool (le a b))

  -- the same, on the left
  pub adds_left : (a b c : Cost) → le a b ≡ true → le (plus c a) (plus c b) ≡ true
  adds_left a b c e = rw (plus_comm c a, plus_comm c b) (linear.adds a b c e)

  -- one number above zero that multiplies both sides keeps the relation and its opposite
  pub scales_same : (k : ℕ) (a b : Cost) → 0 < k → le (times k a) (times k b) ≡ le a b
  scales_same k a b h = ⊎_elim
      (λ e. linear.scales k a b h e ∙ sym e)
      (λ d. linear.scales_opposite k a b h d ∙ sym d)
      (cases_Bool (le a b))

module _ {le : Cost → Cost → Bool} (order : Ordered le) (linear : Linear le) where
  -- two inequalities added
  pub adds_both : (a b c d : Cost) → le a b ≡ true → le c d ≡ true → le (plus a c) (plus b d) ≡ true
  adds_both a b c d p q = order.trans (plus a c) (plus b c) (plus b d) (linear.adds a b c p) (adds_left linear c d b q)

  -- any number that multiplies both sides keeps the relation: times 0 they are equal
  pub scales_any : (k : ℕ) (a b : Cost) → le a b ≡ true → le (times k a) (times k b) ≡ true
  scales_any zero a b e = equal order (times 0 a) (times 0 b) (zero_times a ∙ sym (zero_times b))
  scales_any (suc k) a b e = linear.scales (suc k) a b (omega arith) e

  -- of a cost that is no dearer than zero, more is no dearer than less
  pub more_is_cheaper : (j k : ℕ) (a : Cost) → j ≤ k → le a costs.zero ≡ true → le (times k a) (times j a) ≡ true
  more_is_cheaper j k a h e =
      let rest = k - j in
      let whole : j + rest ≡ k = omega arith in
      let below : le (times rest a) costs.zero ≡ true = rw (times_zero rest) at (scales_any rest a costs.zero e) in
      let sum : le (plus (times j a) (times rest a)) (plus (times j a) costs.zero) ≡ true = adds_left linear (times rest a) costs.zero (times j a) below in
      rw (← whole, sum_times j rest a) (rw (plus_zero (times j a)) at sum)

  -- of a cost that zero is no dearer than, less is no dearer than more
  pub more_is_dearer : (j k : ℕ) (a : Cost) → j ≤ k → le costs.zero a ≡ true → le (times j a) (times k a) ≡ true
  more_is_dearer j k a h e =
      let rest = k - j in
      let whole : j + rest ≡ k = omega arith in
      let above : le costs.zero (times rest a) ≡ true = rw (times_zero rest) at (scales_any rest costs.zero a e) in
      let sum : le (plus (times j a) costs.zero) (plus (times j a) (times rest a)) ≡ true = adds_left linear costs.zero (times rest a) (times j a) above in
      rw (← whole, sum_times j rest a) (rw (plus_zero (times j a)) at sum)

  -- the cheap rounding is no dearer than the dear one
  pub cheap_dear : {cheap dear : Cost → ℕ → Cost} → Rounds le cheap dear → (c : Cost) (m : ℕ) → 1 ≤ m → m ≤ largest_divisor → Modest c → le (cheap c m) (dear c m) ≡ true
  cheap_dear {cheap} {dear} rounds c m h k f =
      sym (scales_same linear m (cheap c m) (dear c m) h)
      ∙ order.trans (times m (cheap c m)) c (times m (dear c m)) (rounds.cheap_below c m h k f) (rounds.dear_above c m h k f)
