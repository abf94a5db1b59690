-- One step of a walk along a chain, and its ends. Assumes nothing.
use Rattle.std.proofs.Common.{◌≡◌, ℕ, zero, suc, ◌+◌, ◌-◌, ◌*◌, ◌<◌, ◌≤◌, List, [], ◌∷◌, length, get_or, take, eqb, Some, None, Option, sym, refl, ap, ◌∙◌, arith, rules}
use Rattle.std.proofs.lemmas.Iterator.{YieldsList}
use Rattle.std.proofs.lemmas.Iterator.Consumers.{YieldsList-from_first, YieldsList-turn, YieldsList-end}
use Rattle.std.proofs.lemmas.List.{map-id, get_or-take, length-take-le}
use Rattle.std.proofs.lemmas.List.Sums.{sum_by-cons}
use Rattle.table.specs.declared.walk.Walk.{Walk}
use Rattle.table.specs.declared.table.Table.{Table}
use Rattle.table.specs.Ranges.{Within, row0, arc0}
use Rattle.table.specs.Chains.{walk, row_at, next_row, next_arc, arc_at, arcs_of, weights}
use Rattle.table.specs.Walks.{ahead, chain_from, AllIn, Along}
use Rattle.table.specs.Rules.{has}
use Rattle.std.specs.Iterator.{Yields, YieldsFirst}
use Rattle.std.specs.List.{All, list_any, sum_by}

module _ (next : ℕ → ℕ) where
  -- at a number that is not 0, with fuel left
  pub walk_in : (k f h : ℕ) → f ≡ h + 1 → 0 < k → walk next f k ≡ k ∷ walk next h (next k)
  walk_in k zero h fuel lo = absurd (omega arith)
  walk_in zero (suc f) h fuel lo = absurd (omega arith)
  walk_in (suc k) (suc f) h fuel lo =
      let less : f ≡ h = omega arith in
      ap (λ n. suc k ∷ walk next n (next (suc k))) less

  pub walk_end : (k f : ℕ) → k ≡ 0 → walk next f k ≡ []
  walk_end k zero e = refl
  walk_end zero (suc f) e = refl
  walk_end (suc k) (suc f) e = absurd (omega arith)

  pub walk_spent : (k f : ℕ) → f ≡ 0 → walk next f k ≡ []
  walk_spent k zero e = refl
  walk_spent k (suc f) e = absurd (omega arith)

pub walk-≤ : (next : ℕ → ℕ) (f k : ℕ) → length (walk next f k) ≤ f
walk-≤ next zero k = omega arith
walk-≤ next (suc f) zero = omega arith
walk-≤ next (suc f) (suc k) = let h = walk-≤ next f (next (suc k)) in omega arith

-- where no number leads out of range, a walk stays in range
walk_all : (next : ℕ → ℕ) (n : ℕ) → ((k : ℕ) → Within 1 n k → next k ≤ n) → (f k : ℕ) → k ≤ n → AllIn n (walk next f k)
walk_all next n most zero k h = tt
walk_all next n most (suc f) zero h = tt
walk_all next n most (suc f) (suc k) h = let here : Within 1 n (suc k) = (omega arith, h) in (here, walk_all next n most f (next (suc k)) (most (suc k) here))

walk_same : (next other : ℕ → ℕ) (n : ℕ) → ((k : ℕ) → Within 1 n k → next k ≡ other k) → ((k : ℕ) → Within 1 n k → other k ≤ n) → (f k : ℕ) → k ≤ n → walk next f k ≡ walk other f k
walk_same next other n same most zero k h = refl
walk_same next other n same most (suc f) zero h = refl
walk_same next other n same most (suc f) (suc k) h =
    let here : Within 1 n (suc k) = (omega arith, h) in
    (λ i. suc k ∷ walk next f (same (suc k) here i)) ∙ ap (λ ks. suc k ∷ ks) (walk_same next other n same most f (other (suc k)) (most (suc k) here))

module _ {T : Type 0} (next : T → ℕ) (none : T) where
  pub chain_all : (links : List T) (first : ℕ) → first ≤ length links → All (λ x. next x ≤ length links) links → AllIn (length links) (chain_from next none links first)
  chain_all links first h linked = walk_all (λ k. next (get_or links (k - 1) none)) (length links) (λ k w. linked (k - 1) none (omega (arith, w.0, w.1))) (length links) first h

  -- links past the first n are never read
  pub chain_cut : (xs : List T) (n first : ℕ) → n ≤ length xs → first ≤ n → ((i : ℕ) → i < n → next (get_or xs i none) ≤ n) →
      chain_from next none (take n xs) first ≡ walk (λ k. next (get_or xs (k - 1) none)) n first
  chain_cut xs n first fit h most =
      ap (λ f. walk (λ k. next (get_or (take n xs) (k - 1) none)) f first) (length-take-le n xs fit)
      ∙ walk_same (λ k. next (get_or (take n xs) (k - 1) none)) (λ k. next (get_or xs (k - 1) none)) n
      (λ k w. ap next (get_or-take n xs (k - 1) none (omega (arith, w.0, w.1)))) (λ k w. most (k - 1) (omega (arith, w.0, w.1))) n first h

module _ (t : Table) where
  pub row_chain : (first : ℕ) → first ≤ t.rows → chain_from (λ r. r.next) row0 (take t.rows t.row) first ≡ walk (next_row t) t.rows first
  row_chain first h = chain_cut (λ r. r.next) row0 t.row t.rows first (omega (arith, t.rowlong, t.rowed.1)) h (λ i lt. (t.rowsin i lt).0)

  pub arc_chain : (first : ℕ) → first ≤ t.arcs → chain_from (λ x. x.next) arc0 (take t.arcs t.arc) first ≡ walk (next_arc t) t.arcs first
  arc_chain first h = chain_cut (λ x. x.next) arc0 t.arc t.arcs first (omega (arith, t.arclong, t.arced.1)) h (λ i lt. (t.arcsin i lt).0)

  pub row_walk : (first : ℕ) → first ≤ t.rows → AllIn t.rows (walk (next_row t) t.rows first)
  row_walk first h = walk_all (next_row t) t.rows (λ k w. (t.rowsin (k - 1) (omega (arith, w.0, w.1))).0) t.rows first h

  pub arc_walk : (first : ℕ) → first ≤ t.arcs → AllIn t.arcs (walk (next_arc t) t.arcs first)
  arc_walk first h = walk_all (next_arc t) t.arcs (λ x w. (t.arcsin (x - 1) (omega (arith, w.0, w.1))).0) t.arcs first h

  -- no arcs of a row weigh too much for 32 bits
  weights-≤ : (xs : List ℕ) → AllIn t.arcs xs → weights t xs ≤ 1000 * length xs
  weights-≤ [] h = omega arith
  weights-≤ (x ∷ xs) h =
      let here = t.arcsin (x - 1) (omega (arith, h.0.0, h.0.1)) in
      omega (arith, weights-≤ xs h.1, t.weighed.1)

  pub row_weights-≤ : (k : ℕ) → AllIn t.arcs (arcs_of t k) → weights t (arcs_of t k) ≤ 512000
  row_weights-≤ k all = omega (arith, weights-≤ (arcs_of t k) all, walk-≤ (next_arc t) t.arcs (row_at t k).first_arc, t.arced.1)

pub any_has : (k : ℕ) (xs : List ℕ) → list_any (λ x. eqb x k) xs ≡ has k xs
any_has k [] = refl
any_has k (x ∷ xs) = let rest = any_has k xs in search rules

pub all_at : (n : ℕ) (xs : List ℕ) (i x : ℕ) → i < length xs → x ≡ get_or xs i x → AllIn n xs → Within 1 n x
all_at n [] i x h e all = absurd (omega arith)
all_at n (y ∷ ys) zero x h e all = (omega (arith, all.0.0), omega (arith, all.0.1))
all_at n (y ∷ ys) (suc i) x h e all = all_at n ys i x (omega arith) e all.1

pub sum_weights : (t : Table) (xs : List ℕ) → sum_by (λ x. (arc_at t x).weight) xs ≡ weights t xs
sum_weights t [] = refl
sum_weights t (x ∷ xs) = sum_by-cons (λ y. (arc_at t y).weight) x xs ∙ ap (λ n. (arc_at t x).weight + n) (sum_weights t xs)

-- a `for` over a walk w along a chain, which has given xs
module _ {T : Type 0} (next : T → ℕ) (none : T) (n : ℕ) (chain : List ℕ) (w : Walk T) (along : Along (ahead next none) n chain w) (s : Walk T) (same : s ≡ w)
    (xs : List ℕ) (t : Walk T) (y : Yields (YieldsFirst (ahead next none)) s xs t) (r : Option ℕ) (u : Walk T) where
  gives : YieldsList (YieldsFirst (ahead next none)) (λ x. x) s chain
  gives = YieldsList-from_first (λ x. x) (ahead next none) chain (ap (ahead next none) same ∙ along.is)

  pub walk_turn : (x : ℕ) → r ≡ Some x → YieldsFirst (ahead next none) t r u → (length xs < length chain) × Within 1 n x
  walk_turn x e step = let at = YieldsList-turn gives xs t y r u x e step in (at.0, all_at n chain (length xs) x at.0 at.1 along.within)

  pub walk_done : r ≡ None → YieldsFirst (ahead next none) t r u → xs ≡ chain
  walk_done e step = sym (map-id xs) ∙ (YieldsList-end gives xs t y r u e step).0
