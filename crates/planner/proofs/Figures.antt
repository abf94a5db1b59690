-- Floors bound every policy, and ceilings the plan. Assumes nothing.
use Rattle.std.proofs.Common.{◌≡◌, ℕ, zero as none, suc, ◌-◌, ◌*◌, ◌^◌, ◌≤◌, Bool, true, List, [], ◌∷◌, ◌++◌, sym, refl, ap, ◌∙◌, subst, pow-suc, mul_left_comm, arith}
use native.Mathlib.Nat.{pow-zero}
use Rattle.rankings.specs.Costs.{Cost, plus, times, zero, negated}
use Rattle.rankings.specs.Laws.{Ordered, Linear}
use Rattle.rankings.specs.Algebra.{plus_assoc, zero_plus, plus_negated, times_plus, product_times, times_swap, one_times}
use Rattle.rankings.proofs.Derived.{adds_left, scales_any}
use Rattle.table.specs.declared.table.Table.{Table}
use Rattle.table.specs.Ranges.{Within}
use Rattle.table.specs.Chains.{walk, row_at, next_arc, arcs_of, weights}
use Rattle.table.specs.Sound.{Sound}
use Rattle.table.specs.Lookahead.{mean, scaling, X}
use Rattle.table.proofs.Soundness.{arcs_end}
use Rattle.table.specs.Kept.{FloorRule}
use Rattle.table.proofs.Keeping.{row_in}
use Rattle.planner.specs.Policies.{Policy, E, last, always, dearest_figure, CeilingRule, FloorsBound, CeilingsBound}
use Rattle.planner.proofs.Averages.{Leads, mean_times, mean_plus, le_mean}
use Rattle.planner.proofs.Dearest.{dearest_of}

-- each arc of a walk leads to a grade
walk_leads : (t : Table) (f x : ℕ) → x ≤ t.arcs → Leads t (walk (next_arc t) f x)
walk_leads t none x h = tt
walk_leads t (suc f) none h = tt
walk_leads t (suc f) (suc x) h =
    let here = t.arcsin (suc x - 1) (omega arith) in
    (here.1, walk_leads t f (next_arc t (suc x)) here.0)

pub row_leads : (t : Table) (k : ℕ) → Within 1 t.rows k → Leads t (arcs_of t k)
row_leads t k h = walk_leads t t.arcs (row_at t k).first_arc (t.rowsin (k - 1) (omega (arith, h.0, h.1))).1.1

pub row_weighs : (t : Table) → Sound t → (k : ℕ) → Within 1 t.rows k → weights t (arcs_of t k) ≡ t.total
row_weighs t s k h = s.weighed k h (arcs_of t k) (arcs_end t s.arc_pointed k h)

pow_none_times : (m : ℕ) (c : Cost) → times (m ^ none) c ≡ c
pow_none_times m c = ap (λ k. times k c) (pow-zero m) ∙ one_times c

pow_suc_times : (m n : ℕ) (c : Cost) → times (m ^ suc n) c ≡ times (m ^ n) (times m c)
pow_suc_times m n c = ap (λ k. times k c) (pow-suc m n) ∙ product_times (m ^ n) m c

-- X, n steps on
grown : (t : Table) (k n : ℕ) (w : ℕ → Cost) → times (scaling t ^ n) (X t k w) ≡ plus (times (t.fineness * scaling t ^ suc n) (row_at t k).cost) (times t.numerator (mean t (λ d. times (scaling t ^ n) (w d)) (arcs_of t k)))
grown t k n w =
    let s = scaling t in
    let c = (row_at t k).cost in
    let m = mean t w (arcs_of t k) in
    let powers : s ^ n * (t.fineness * s) ≡ t.fineness * s ^ suc n = mul_left_comm (s ^ n) t.fineness s ∙ ap (λ j. t.fineness * j) (sym (pow-suc s n)) in
    times_plus (s ^ n) (times (t.fineness * s) c) (times t.numerator m)
    ∙ (λ i. plus ((sym (product_times (s ^ n) (t.fineness * s) c) ∙ ap (λ j. times j c) powers) i) ((times_swap (s ^ n) t.numerator m ∙ ap (times t.numerator) (sym (mean_times t (s ^ n) (arcs_of t k) w))) i))

-- the tail moves out of the sum over arcs
worn : (t : Table) (a d n : ℕ) (x c : Cost) (xs : List ℕ) (u : ℕ → Cost) → weights t xs ≡ d → plus x (times a (mean t (λ h. plus (u h) (times ((a * d) ^ n) c)) xs)) ≡ plus (plus x (times a (mean t u xs))) (times ((a * d) ^ suc n) c)
worn t a d n x c xs u e =
    let tail = times ((a * d) ^ n) c in
    let outer : times a (times d tail) ≡ times ((a * d) ^ suc n) c =
    sym (product_times a d tail) ∙ times_swap (a * d) ((a * d) ^ n) c ∙ sym (pow_suc_times (a * d) n c) in
    ap (λ m. plus x (times a m)) (mean_plus t tail xs u ∙ ap (λ j. plus (mean t u xs) (times j tail)) e)
    ∙ ap (plus x) (times_plus a (mean t u xs) (times d tail) ∙ ap (plus (times a (mean t u xs))) outer)
    ∙ sym (plus_assoc x (times a (mean t u xs)) (times ((a * d) ^ suc n) c))

last_push : (past : List ℕ) (g : ℕ) → last (past ++ g ∷ []) ≡ g
last_push [] g = refl
last_push (h ∷ []) g = refl
last_push (h ∷ i ∷ past) g = last_push (i ∷ past) g

module _ (le : Cost → Cost → Bool) (o : Ordered le) (l : Linear le) (t : Table) (sound : Sound t) where
  chain3 : (x y z : Cost) → le x y ≡ true → le y z ≡ true → le x z ≡ true
  chain3 x y z p q = o.trans x y z p q

  -- for every past, and every cost that is no cheaper than each floor
  floors : (w : ℕ → Cost) → FloorRule le t w → (c : Cost) → ((g : ℕ) → Within 1 t.grades g → le (w g) c ≡ true) → (names : List ℕ → ℕ) → Policy t names → (n : ℕ) (past : List ℕ) (g : ℕ) → Within 1 t.grades g →
      le (times (scaling t ^ n) (w g)) (plus (E t names n (past ++ g ∷ [])) (times ((t.numerator * t.total) ^ n) c)) ≡ true
  floors w f c top names policy none past g h =
      let left = pow_none_times (scaling t) (w g) in
      let right = zero_plus (times ((t.numerator * t.total) ^ none) c) ∙ pow_none_times (t.numerator * t.total) c in
      subst (λ x. le x (plus zero (times ((t.numerator * t.total) ^ none) c)) ≡ true) (sym left) (subst (λ x. le (w g) x ≡ true) (sym right) (top g h))
  floors w f c top names policy (suc n) past g h =
      let here = past ++ g ∷ [] in
      let k = names here in
      let row = policy.row past g h in
      let inside = row_in t g k row in
      let m = scaling t in
      let a = t.numerator in
      let tail = times ((a * t.total) ^ n) c in
      let x = times (t.fineness * m ^ suc n) (row_at t k).cost in
      let u : ℕ → Cost = λ d. E t names n (here ++ d ∷ []) in
      let low = mean t (λ d. times (m ^ n) (w d)) (arcs_of t k) in
      let high = mean t (λ d. plus (u d) tail) (arcs_of t k) in
      let stay : le (times (m ^ suc n) (w g)) (times (m ^ n) (X t k w)) ≡ true =
      subst (λ y. le y (times (m ^ n) (X t k w)) ≡ true) (sym (pow_suc_times m n (w g))) (scales_any o l (m ^ n) (times m (w g)) (X t k w) (f g k row)) in
      let arcs : le low high ≡ true = le_mean le o l t (λ d. times (m ^ n) (w d)) (λ d. plus (u d) tail) (λ d b. floors w f c top names policy n here d b) (arcs_of t k) (row_leads t k inside) in
      let step : le (plus x (times a low)) (plus x (times a high)) ≡ true = adds_left l (times a low) (times a high) x (scales_any o l a low high arcs) in
      let out = worn t a t.total n x c (arcs_of t k) u (row_weighs t sound k inside) in
      subst (λ y. le (times (m ^ suc n) (w g)) y ≡ true) out
      (chain3 (times (m ^ suc n) (w g)) (plus x (times a low)) (plus x (times a high)) (subst (λ y. le (times (m ^ suc n) (w g)) y ≡ true) (grown t k n w) stay) step)

  ceilings : (plan : ℕ → ℕ) (w : ℕ → Cost) → CeilingRule le t plan w → (c : Cost) → ((g : ℕ) → Within 1 t.grades g → le (negated (w g)) c ≡ true) → (n : ℕ) (past : List ℕ) (g : ℕ) → Within 1 t.grades g →
      le (E t (always plan) n (past ++ g ∷ [])) (plus (times (scaling t ^ n) (w g)) (times ((t.numerator * t.total) ^ n) c)) ≡ true
  ceilings plan w f c top none past g h =
      let right : plus (times (scaling t ^ none) (w g)) (times ((t.numerator * t.total) ^ none) c) ≡ plus (w g) c =
      (λ i. plus (pow_none_times (scaling t) (w g) i) (pow_none_times (t.numerator * t.total) c i)) in
      let up : le (plus (w g) (negated (w g))) (plus (w g) c) ≡ true = adds_left l (negated (w g)) c (w g) (top g h) in
      subst (λ x. le zero x ≡ true) (sym right) (subst (λ x. le x (plus (w g) c) ≡ true) (plus_negated (w g)) up)
  ceilings plan w f c top (suc n) past g h =
      let here = past ++ g ∷ [] in
      let k = plan g in
      let row = (f g h).0 in
      let inside = row_in t g k row in
      let m = scaling t in
      let a = t.numerator in
      let tail = times ((a * t.total) ^ n) c in
      let end = times ((a * t.total) ^ suc n) c in
      let x = times (t.fineness * m ^ suc n) (row_at t k).cost in
      let u : ℕ → Cost = λ d. E t (always plan) n (here ++ d ∷ []) in
      let v : ℕ → Cost = λ d. times (m ^ n) (w d) in
      let low = mean t u (arcs_of t k) in
      let mid = mean t (λ d. plus (v d) tail) (arcs_of t k) in
      let spent : E t (always plan) (suc n) here ≡ plus x (times a low) =
      ap (λ j. plus (times (t.fineness * m ^ suc n) (row_at t (plan j)).cost) (times a (mean t u (arcs_of t (plan j))))) (last_push past g) in
      let arcs : le low mid ≡ true = le_mean le o l t u (λ d. plus (v d) tail) (λ d b. ceilings plan w f c top n here d b) (arcs_of t k) (row_leads t k inside) in
      let step : le (plus x (times a low)) (plus x (times a mid)) ≡ true = adds_left l (times a low) (times a mid) x (scales_any o l a low mid arcs) in
      let out = worn t a t.total n x c (arcs_of t k) v (row_weighs t sound k inside) ∙ ap (λ y. plus y end) (sym (grown t k n w)) in
      let stay : le (times (m ^ n) (X t k w)) (times (m ^ suc n) (w g)) ≡ true =
      subst (λ y. le (times (m ^ n) (X t k w)) y ≡ true) (sym (pow_suc_times m n (w g))) (scales_any o l (m ^ n) (X t k w) (times m (w g)) (f g h).1) in
      let rest : le (plus (times (m ^ n) (X t k w)) end) (plus (times (m ^ suc n) (w g)) end) ≡ true = l.adds (times (m ^ n) (X t k w)) (times (m ^ suc n) (w g)) end stay in
      subst (λ y. le y (plus (times (m ^ suc n) (w g)) end) ≡ true) (sym spent)
      (chain3 (plus x (times a low)) (plus x (times a mid)) (plus (times (m ^ suc n) (w g)) end) step (subst (λ y. le y (plus (times (m ^ suc n) (w g)) end) ≡ true) (sym out) rest))

pub floors_bound : FloorsBound
floors_bound le o l t sound w f names policy n g h = floors le o l t sound w f (dearest_figure le t w) (λ d b. dearest_of o w t.grades d b) names policy n [] g h

pub ceilings_bound : CeilingsBound
ceilings_bound le o l t sound plan w f n g h = ceilings le o l t sound plan w f (dearest_figure le t (λ d. negated (w d))) (λ d b. dearest_of o (λ d. negated (w d)) t.grades d b) n [] g h
