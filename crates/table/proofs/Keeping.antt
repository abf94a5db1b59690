-- The check of figures finds nothing exactly where they keep the rules. Assumes nothing.
use Rattle.std.proofs.Common.{◌≡◌, ℕ, zero, suc, ◌+◌, ◌-◌, ◌<◌, ◌≤◌, Bool, true, false, cond, not, eqb, List, [], ◌∷◌, Some, None, Option, sym, refl, ap, ◌∙◌, subst, ⊎_elim, arith}
use Rattle.std.proofs.lemmas.Option.{none-some}
use Rattle.std.proofs.lemmas.Bool.{false≢true, not-false, cases_Bool, cases_eq, eq-eqb}
use Rattle.std.proofs.lemmas.Bool.Decides.{eqb_tells}
use Rattle.rankings.specs.Costs.{Cost, times}
use Rattle.table.specs.declared.table.Table.{Table}
use Rattle.table.specs.declared.sound.SoundTable.{SoundTable}
use Rattle.table.specs.declared.figures.Figures.{Figures}
use Rattle.table.specs.declared.fault.FiguresFault.{FiguresFault}
use Rattle.table.specs.declared.fault.FiguresFault.TheVariants.{PlanRow, Floor, Ceiling}
use Rattle.table.specs.Ranges.{Within}
use Rattle.table.specs.Chains.{next_row, first_row, rows_of}
use Rattle.table.specs.Lookahead.{figure_at, scaling, X}
use Rattle.table.specs.Rules.{has, first_in, first_pair, plan_row, plan_only, strays, keeps_floor, keeps_ceiling, breaks_floor, breaks_ceiling, first_stray, first_floor, first_ceiling, or_later, figures_fault}
use Rattle.table.specs.Sound.{Chain, Sound}
use Rattle.table.specs.Kept.{RowOf, PlanRule, FloorRule, PlanCeilingRule, Keeps, Tells, KeptExactly}
use Rattle.table.proofs.Lookaheads.{ahead_some}
use Rattle.table.proofs.Pairs.{in_here, in_later}
use Rattle.table.proofs.Soundness.{chain_same, rows_end, sound_table}

-- what lies in a chain is in range
chain_in : (next : ℕ → ℕ) (n : ℕ) → ((k : ℕ) → Within 1 n k → next k ≤ n) → (f k : ℕ) (xs : List ℕ) → f ≤ n → Chain next f xs → has k xs ≡ true → Within 1 n k
chain_in next n most f k [] h c e = absurd (false≢true e)
chain_in next n most f k (x ∷ xs) h c e =
    ⊎_elim
    (λ t. let same : f ≡ k = sym c.0 ∙ t.1 in (omega (arith, c.1), omega arith))
    (λ t. chain_in next n most (next f) k xs (most f (c.1, h)) c.2 (subst (λ b. cond b true (has k xs) ≡ true) t.0 e))
    (eqb_tells x k)

-- a row of a grade is one of the table's rows
pub row_in : (t : Table) (g k : ℕ) → RowOf t g k → Within 1 t.rows k
row_in t g k r =
    chain_in (next_row t) t.rows (λ j h. (t.rowsin (j - 1) (omega (arith, h.0, h.1))).0) (first_row t g) k r.chained.chain
    (t.firsts (g - 1) (omega (arith, r.grade.0, r.grade.1))).1 r.chained.is r.chained.among

-- the rows of a grade are those that the walk along its chain meets
pub row_walked : (t : Table) → Sound t → (g k : ℕ) → RowOf t g k → has k (rows_of t g) ≡ true
row_walked t s g k r =
    let same = chain_same (next_row t) (first_row t g) r.chained.chain (rows_of t g) r.chained.is (rows_end t s.row_pointed g r.grade) in
    subst (λ l. has k l ≡ true) same r.chained.among

pub walked_row : (t : Table) → Sound t → (g k : ℕ) → Within 1 t.grades g → has k (rows_of t g) ≡ true → RowOf t g k
walked_row t s g k h e = record { grade = h; chained = record { chain = rows_of t g; is = rows_end t s.row_pointed g h; among = e } }

-- a search that finds nothing: the test holds of none
module _ (bad : ℕ → ℕ → Bool) where
  in_none : (g : ℕ) (ks : List ℕ) (later : Option (ℕ × ℕ)) → first_in bad g ks later ≡ None → ((k : ℕ) → has k ks ≡ true → bad g k ≡ false) × (later ≡ None)
  in_none g [] later e = ((λ k h. absurd (false≢true h)), e)
  in_none g (x ∷ ks) later e =
      ⊎_elim
      (λ b. absurd (none-some (g, x) (sym e ∙ in_here bad g x ks later b)))
      (λ b.
      let r = in_none g ks later (sym (in_later bad g x ks later b) ∙ e) in (
        (λ k h. ⊎_elim
            (λ t. subst (λ j. bad g j ≡ false) t.1 b)
            (λ t. r.0 k (subst (λ c. cond c true (has k ks) ≡ true) t.0 h))
            (eqb_tells x k)),
        r.1,
      ))
      (cases_Bool (bad g x))

  none_in : (g : ℕ) (ks : List ℕ) (later : Option (ℕ × ℕ)) → ((k : ℕ) → has k ks ≡ true → bad g k ≡ false) → first_in bad g ks later ≡ later
  none_in g [] later h = refl
  none_in g (x ∷ ks) later h =
      in_later bad g x ks later (h x (ap (λ b. cond b true (has x ks)) (eq-eqb x x refl)))
      ∙ none_in g ks later (λ k e. h k (cover (eqb x k) (has k ks) e))
    where
      cover : (b c : Bool) → c ≡ true → cond b true c ≡ true
      cover true c e = refl
      cover false c e = e

  pub pair_tells : (list : ℕ → List ℕ) (n g : ℕ) → first_pair bad list n g ≡ None → (i : ℕ) → g ≤ i → i < g + n → (k : ℕ) → has k (list i) ≡ true → bad i k ≡ false
  pair_tells list zero g e i lo hi k h = absurd (omega arith)
  pair_tells list (suc n) g e i lo hi k h =
      let r = in_none g (list g) (first_pair bad list n (g + 1)) e in
      ⊎_elim
      (λ same. let f : has k (list g) ≡ true = subst (λ j. has k (list j) ≡ true) same h in subst (λ j. bad j k ≡ false) (sym same) (r.0 k f))
      (λ apart. pair_tells list n (g + 1) r.1 i (omega arith) (omega arith) k h)
      (cases_eq i g)

  pub tells_pair : (list : ℕ → List ℕ) (n g : ℕ) → ((i : ℕ) → g ≤ i → i < g + n → (k : ℕ) → has k (list i) ≡ true → bad i k ≡ false) → first_pair bad list n g ≡ None
  tells_pair list zero g h = refl
  tells_pair list (suc n) g h =
      none_in g (list g) (first_pair bad list n (g + 1)) (λ k e. h g (omega arith) (omega arith) k e)
      ∙ tells_pair list n (g + 1) (λ i lo hi k e. h i (omega arith) (omega arith) k e)

-- a list of one number has that number alone
pub only_has : (x k : ℕ) → has k (x ∷ []) ≡ true → x ≡ k
only_has x k h = ⊎_elim (λ t. t.1) (λ t. absurd (false≢true (subst (λ b. cond b true false ≡ true) t.0 h))) (eqb_tells x k)

has_only : (x : ℕ) → has x (x ∷ []) ≡ true
has_only x = ap (λ b. cond b true false) (eq-eqb x x refl)

module _ (le : Cost → Cost → Bool) (t : Table) (w : ℕ → Cost) (g k : ℕ) (row : Within 1 t.rows k) where
  floor_is : breaks_floor le t w g k ≡ not (le (times (scaling t) (w g)) (X t k w))
  floor_is = ap (λ o. not (keeps_floor le t w g o)) (ahead_some t k w row)

  ceiling_is : breaks_ceiling le t w g k ≡ not (le (X t k w) (times (scaling t) (w g)))
  ceiling_is = ap (λ o. not (keeps_ceiling le t w g o)) (ahead_some t k w row)

pub later_none : (o : Option (ℕ × ℕ)) (at : ℕ → ℕ → FiguresFault) (later : Option FiguresFault) → or_later o at later ≡ None → (o ≡ None) × (later ≡ None)
later_none (Some p) at later e = absurd (none-some (at p.0 p.1) (sym e))
later_none None at later e = (refl, e)

module _ (le : Cost → Cost → Bool) (t : Table) (s : Sound t) where
  pub none_planned : (rows : List ℕ) → first_stray t rows ≡ None → PlanRule t (plan_row rows)
  none_planned rows e g h =
      walked_row t s g (plan_row rows g) h
      (not-false (has (plan_row rows g) (rows_of t g)) (pair_tells (strays t) (plan_only rows) t.grades 1 e g h.0 (omega (arith, h.1)) (plan_row rows g) (has_only (plan_row rows g))))

  pub planned_none : (rows : List ℕ) → PlanRule t (plan_row rows) → first_stray t rows ≡ None
  planned_none rows p =
      tells_pair (strays t) (plan_only rows) t.grades 1 (λ i lo hi k h.
      subst (λ j. strays t i j ≡ false) (only_has (plan_row rows i) k h) (ap not (row_walked t s i (plan_row rows i) (p i (lo, omega arith)))))

  pub none_low : (ws : List Cost) → first_floor le t ws ≡ None → FloorRule le t (figure_at ws)
  none_low ws e g k r =
      not-false (le (times (scaling t) (figure_at ws g)) (X t k (figure_at ws)))
      (sym (floor_is le t (figure_at ws) g k (row_in t g k r)) ∙ pair_tells (breaks_floor le t (figure_at ws)) (rows_of t) t.grades 1 e g r.grade.0 (omega (arith, r.grade.1)) k (row_walked t s g k r))

  pub low_none : (ws : List Cost) → FloorRule le t (figure_at ws) → first_floor le t ws ≡ None
  low_none ws f =
      tells_pair (breaks_floor le t (figure_at ws)) (rows_of t) t.grades 1 (λ i lo hi k h.
      let r = walked_row t s i k (lo, omega arith) h in
      floor_is le t (figure_at ws) i k (row_in t i k r) ∙ ap not (f i k r))

  pub none_high : (rows : List ℕ) (ws : List Cost) → PlanRule t (plan_row rows) → first_ceiling le t rows ws ≡ None → PlanCeilingRule le t (plan_row rows) (figure_at ws)
  none_high rows ws p e g h =
      let k = plan_row rows g in
      not-false (le (X t k (figure_at ws)) (times (scaling t) (figure_at ws g)))
      (sym (ceiling_is le t (figure_at ws) g k (row_in t g k (p g h))) ∙ pair_tells (breaks_ceiling le t (figure_at ws)) (plan_only rows) t.grades 1 e g h.0 (omega (arith, h.1)) k (has_only k))

  pub high_none : (rows : List ℕ) (ws : List Cost) → PlanRule t (plan_row rows) → PlanCeilingRule le t (plan_row rows) (figure_at ws) → first_ceiling le t rows ws ≡ None
  high_none rows ws p c =
      tells_pair (breaks_ceiling le t (figure_at ws)) (plan_only rows) t.grades 1 (λ i lo hi k h.
      let g : Within 1 t.grades i = (lo, omega arith) in
      subst (λ j. breaks_ceiling le t (figure_at ws) i j ≡ false) (only_has (plan_row rows i) k h)
      (ceiling_is le t (figure_at ws) i (plan_row rows i) (row_in t i (plan_row rows i) (p i g)) ∙ ap not (c i g)))

  none_kept : (f : Figures) → figures_fault le t f ≡ None → Keeps le t f
  none_kept f e =
      let a = later_none (first_stray t f.row) PlanRow _ e in
      let b = later_none (first_floor le t f.floor.at) Floor _ a.1 in
      let c = later_none (first_ceiling le t f.row f.ceiling.at) Ceiling None b.1 in
      let p = none_planned f.row a.0 in
      record { planned = p; low = none_low f.floor.at b.0; high = none_high f.row f.ceiling.at p c.0 }

  kept_none : (f : Figures) → Keeps le t f → figures_fault le t f ≡ None
  kept_none f k =
      let a = planned_none f.row k.planned in
      let b = low_none f.floor.at k.low in
      let c = high_none f.row f.ceiling.at k.planned k.high in
      (λ i. or_later (a i) PlanRow (or_later (b i) Floor (or_later (c i) Ceiling None)))

pub kept_exactly : KeptExactly
kept_exactly le t s f = (none_kept le t s f, kept_none le t s f)

-- what the check answers tells whether the rules are kept
pub answer_kept : (le : Cost → Cost → Bool) (s : SoundTable) (f : Figures) (r : Option FiguresFault) → r ≡ figures_fault le s.table f → Tells le s.table f r
answer_kept le s f None e = (kept_exactly le s.table (sound_table s) f).0 (sym e)
answer_kept le s f (Some x) e = λ k. none-some x (sym (e ∙ (kept_exactly le s.table (sound_table s) f).1 k))
