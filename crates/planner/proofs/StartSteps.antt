-- Start figures keep the rules: the cheapest row cost for ever is a floor, and the dearest a ceiling. Assumes nothing.
use Rattle.std.proofs.Common.{◌≡◌, ℕ, zero as none, suc, ◌+◌, ◌-◌, ◌*◌, ◌<◌, ◌≤◌, Bool, true, cond, List, [], ◌∷◌, replicate, sym, ap, ◌∙◌, subst, ⊎_elim, mul_assoc, mul_comm, add-mul, mul-le-mul, one-mul, mul_left_comm, arith}
use Rattle.std.proofs.lemmas.List.{get_or-replicate}
use Rattle.std.proofs.lemmas.Bool.{cases_Bool, cases_eq, cond-true, cond-false}
use Rattle.rankings.specs.Costs.{Cost, plus, times, zero}
use Rattle.rankings.specs.Laws.{Ordered, Linear}
use Rattle.rankings.specs.Algebra.{sum_times, product_times}
use Rattle.rankings.proofs.Derived.{reflexive, equal, opposite, scales_any, more_is_cheaper, more_is_dearer}
use Rattle.table.specs.declared.table.Table.{Table}
use Rattle.table.specs.Ranges.{Within}
use Rattle.table.specs.Chains.{walk, row_at, arcs_of, next_row, first_row, rows_of}
use Rattle.table.specs.Lookahead.{figure_at, scaling, X}
use Rattle.table.specs.Rules.{has}
use Rattle.table.specs.Sound.{Sound}
use Rattle.table.specs.Kept.{RowOf}
use Rattle.table.proofs.Keeping.{row_in, walked_row}
use Rattle.table.proofs.Walks.{walk_in}
use Rattle.planner.specs.Start.{costs_from, row_costs, cheapest_among, dearest_among, cheapest_cost, dearest_cost, start_figure}
use Rattle.planner.specs.Keeping.{StartKeeps}
use Rattle.planner.proofs.Ahead.{X-le}
use Rattle.planner.proofs.Averages.{mean_same}
use Rattle.planner.proofs.Dearest.{worse_right, dearest_first}
use Rattle.planner.proofs.Figures.{row_weighs}
use Rattle.planner.proofs.Leasts.{has_middle}

module _ {le : Cost → Cost → Bool} (o : Ordered le) where
  -- the cheaper of two
  better_left : (w c : Cost) → le (cond (le w c) w c) w ≡ true
  better_left w c = ⊎_elim
      (λ e. subst (λ x. le x w ≡ true) (sym (cond-true (le w c) w c e)) (reflexive o w))
      (λ e. subst (λ x. le x w ≡ true) (sym (cond-false (le w c) w c e)) (opposite o w c e))
      (cases_Bool (le w c))

  better_right : (w c : Cost) → le (cond (le w c) w c) c ≡ true
  better_right w c = ⊎_elim
      (λ e. subst (λ x. le x c ≡ true) (sym (cond-true (le w c) w c e)) e)
      (λ e. subst (λ x. le x c ≡ true) (sym (cond-false (le w c) w c e)) (reflexive o c))
      (cases_Bool (le w c))

  cheapest_first : (w : Cost) (cs : List Cost) → le (cheapest_among le w cs) w ≡ true
  cheapest_first w [] = reflexive o w
  cheapest_first w (c ∷ cs) = o.trans (cheapest_among le w (c ∷ cs)) (cond (le w c) w c) w (cheapest_first (cond (le w c) w c) cs) (better_left w c)

  -- no row is cheaper than the cheapest, and none dearer than the dearest
  cheapest_row_lem : (t : Table) (w : Cost) (n j k : ℕ) → j ≤ k → k < j + n → le (cheapest_among le w (costs_from t n j)) (row_at t k).cost ≡ true
  cheapest_row_lem t w none j k lo hi = absurd (omega arith)
  cheapest_row_lem t w (suc n) j k lo hi =
      let c = (row_at t j).cost in
      let b = cond (le w c) w c in
      let rest = costs_from t n (j + 1) in
      ⊎_elim
      (λ same. subst (λ i. le (cheapest_among le b rest) (row_at t i).cost ≡ true) (sym same) (o.trans (cheapest_among le b rest) b c (cheapest_first b rest) (better_right w c)))
      (λ apart. cheapest_row_lem t b n (j + 1) k (omega (arith, apart)) (omega arith))
      (cases_eq k j)

  dearest_row : (t : Table) (w : Cost) (n j k : ℕ) → j ≤ k → k < j + n → le (row_at t k).cost (dearest_among le w (costs_from t n j)) ≡ true
  dearest_row t w none j k lo hi = absurd (omega arith)
  dearest_row t w (suc n) j k lo hi =
      let c = (row_at t j).cost in
      let b = cond (le c w) w c in
      let rest = costs_from t n (j + 1) in
      ⊎_elim
      (λ same. subst (λ i. le (row_at t i).cost (dearest_among le b rest) ≡ true) (sym same) (o.trans c b (dearest_among le b rest) (worse_right o w c) (dearest_first o b rest)))
      (λ apart. dearest_row t b n (j + 1) k (omega (arith, apart)) (omega arith))
      (cases_eq k j)

-- X over one figure, q · b · c, for every grade
module _ (t : Table) (sound : Sound t) (c : Cost) where
  abbrev unit : ℕ
  unit = t.fineness * scaling t

  -- b · D times the figure
  scaled : times (scaling t) (start_figure t c) ≡ times (t.denominator * unit) c
  scaled =
      let s = scaling t in
      let q = t.fineness in
      let b = t.denominator in
      let turn : s * (q * b) ≡ b * (q * s) = sym (mul_assoc s q b) ∙ mul_comm (s * q) b ∙ ap (λ x. b * x) (mul_comm s q) in
      sym (product_times s (q * b) c) ∙ ap (λ x. times x c) turn

  flat : (k : ℕ) → Within 1 t.rows k → X t k (λ d. start_figure t c) ≡ plus (times unit (row_at t k).cost) (times (t.numerator * unit) c)
  flat k h =
      let q = t.fineness in
      let b = t.denominator in
      let whole : t.total * (q * b) ≡ unit = mul_left_comm t.total q b ∙ ap (λ x. q * x) (mul_comm t.total b) in
      let sum = mean_same t (start_figure t c) (arcs_of t k) ∙ ap (λ x. times x (start_figure t c)) (row_weighs t sound k h) ∙ sym (product_times t.total (q * b) c) ∙ ap (λ x. times x c) whole in
      ap (λ x. plus (times unit (row_at t k).cost) (times t.numerator x)) sum ∙ ap (plus (times unit (row_at t k).cost)) (sym (product_times t.numerator unit c))

-- 1 + a is at most b
fewer : (t : Table) (u : ℕ) → u + t.numerator * u ≤ t.denominator * u
fewer t u =
    let more : (1 + t.numerator) * u ≤ t.denominator * u = mul-le-mul (omega (arith, t.shrinking)) (omega arith) in
    omega (arith, more, add-mul 1 t.numerator u, one-mul u)

module _ (le : Cost → Cost → Bool) (o : Ordered le) (l : Linear le) (t : Table) (sound : Sound t) where
  low : (k : ℕ) → Within 1 t.rows k → le (times (scaling t) (start_figure t (cheapest_cost le t))) (X t k (λ d. start_figure t (cheapest_cost le t))) ≡ true
  low k h =
      let m = cheapest_cost le t in
      let u = t.fineness * scaling t in
      let a = t.numerator in
      let c = (row_at t k).cost in
      let under = more_is_cheaper o l (u + a * u) (t.denominator * u) m (fewer t u) (cheapest_first o zero (row_costs t)) in
      let own : le (times u m) (times u c) ≡ true = scales_any o l u m c (cheapest_row_lem o t zero t.rows 1 k h.0 (omega (arith, h.1))) in
      let both : le (plus (times u m) (times (a * u) m)) (plus (times u c) (times (a * u) m)) ≡ true = l.adds (times u m) (times u c) (times (a * u) m) own in
      let split = subst (λ x. le (times (t.denominator * u) m) x ≡ true) (sum_times u (a * u) m) under in
      let done = o.trans (times (t.denominator * u) m) (plus (times u m) (times (a * u) m)) (plus (times u c) (times (a * u) m)) split both in
      subst (λ x. le x (X t k (λ d. start_figure t m)) ≡ true) (sym (scaled t sound m)) (subst (λ x. le (times (t.denominator * u) m) x ≡ true) (sym (flat t sound m k h)) done)

  high : (k : ℕ) → Within 1 t.rows k → le (X t k (λ d. start_figure t (dearest_cost le t))) (times (scaling t) (start_figure t (dearest_cost le t))) ≡ true
  high k h =
      let m = dearest_cost le t in
      let u = t.fineness * scaling t in
      let a = t.numerator in
      let c = (row_at t k).cost in
      let over = more_is_dearer o l (u + a * u) (t.denominator * u) m (fewer t u) (dearest_first o zero (row_costs t)) in
      let own : le (times u c) (times u m) ≡ true = scales_any o l u c m (dearest_row o t zero t.rows 1 k h.0 (omega (arith, h.1))) in
      let both : le (plus (times u c) (times (a * u) m)) (plus (times u m) (times (a * u) m)) ≡ true = l.adds (times u c) (times u m) (times (a * u) m) own in
      let split = subst (λ x. le x (times (t.denominator * u) m) ≡ true) (sum_times u (a * u) m) over in
      let done = o.trans (plus (times u c) (times (a * u) m)) (plus (times u m) (times (a * u) m)) (times (t.denominator * u) m) both split in
      subst (λ x. le (X t k (λ d. start_figure t m)) x ≡ true) (sym (scaled t sound m)) (subst (λ x. le x (times (t.denominator * u) m) ≡ true) (sym (flat t sound m k h)) done)

-- the same figure stands at each grade
same_at : (t : Table) (v : Cost) (g : ℕ) → Within 1 t.grades g → figure_at (replicate 32 v) g ≡ v
same_at t v g h = get_or-replicate 32 (g - 1) v zero (omega (arith, h.0, h.1, t.graded.1))

first_row_lem : (t : Table) → Sound t → (g : ℕ) → Within 1 t.grades g → RowOf t g (first_row t g)
first_row_lem t s g h =
    let first = t.firsts (g - 1) (omega (arith, h.0, h.1)) in
    let rest = walk (next_row t) (t.rows - 1) (next_row t (first_row t g)) in
    let chain : rows_of t g ≡ first_row t g ∷ rest = walk_in (next_row t) (first_row t g) t.rows (t.rows - 1) (omega (arith, t.rowed.0)) (omega (arith, first.0)) in
    walked_row t s g (first_row t g) h (subst (λ x. has (first_row t g) x ≡ true) (sym chain) (has_middle (first_row t g) [] rest))

pub start_keeps : StartKeeps
start_keeps le o l t s =
    let v = start_figure t (cheapest_cost le t) in
    let u = start_figure t (dearest_cost le t) in
    let fs = figure_at (replicate 32 v) in
    let cs = figure_at (replicate 32 u) in
    record {
      planned = first_row_lem t s;
      low = λ g k r.
          let inside = row_in t g k r in
          subst (λ x. le (times (scaling t) x) (X t k fs) ≡ true) (sym (same_at t v g r.grade))
          (o.trans (times (scaling t) v) (X t k (λ d. v)) (X t k fs) (low le o l t s k inside) (X-le le o l t (λ d. v) fs (λ d b. equal o v (fs d) (sym (same_at t v d b))) k inside));
      high = λ g h.
          let k = first_row t g in
          let inside = row_in t g k (first_row_lem t s g h) in
          subst (λ x. le (X t k cs) (times (scaling t) x) ≡ true) (sym (same_at t u g h))
          (o.trans (X t k cs) (X t k (λ d. u)) (times (scaling t) u) (X-le le o l t cs (λ d. u) (λ d b. equal o (cs d) u (same_at t u d b)) k inside) (high le o l t s k inside));
    }
