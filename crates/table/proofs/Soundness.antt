-- The check finds no fault exactly where the table is sound. Assumes nothing.
use Rattle.std.proofs.Common.{◌≡◌, ℕ, zero, suc, ◌+◌, ◌-◌, ◌<◌, ◌≤◌, Bool, true, false, cond, not, eqb, List, [], ◌∷◌, map, length, take, is_some, None, sym, refl, ap, ◌∙◌, subst, ⊎_elim, arith}
use Rattle.std.proofs.lemmas.List.{length-map, length-take-le, get_or-map, get_or-take}
use Rattle.std.proofs.lemmas.Bool.{false≢true, eq-eqb, ne_eqb, eqb-true, eqb-false, not-false, cases_lt}
use Rattle.std.proofs.lemmas.Bool.Decides.{eqb_tells}
use Rattle.table.specs.declared.table.Table.{Table}
use Rattle.table.specs.Ranges.{Within, row0, arc0}
use Rattle.table.specs.Chains.{first_row, next_row, rows_of, row_at, next_arc, arcs_of, weights}
use Rattle.table.specs.declared.fault.TableFault.TheVariants.{RowPointers, LooseRow, ArcPointers, LooseArc, Weights}
use Rattle.table.specs.Faults.{count, or_else, gathered, first_from, row_pointers, arc_pointers, reached_rows, reached_arcs, mispointed, loose, unbalanced, table_fault}
use Rattle.table.specs.Rules.{has}
use Rattle.table.specs.Sound.{Chain, Sound, Walked, SoundExactly}
use Rattle.table.proofs.Tallies.{count-++}
use Rattle.table.proofs.Searches.{none_found, found_later}
use Rattle.table.proofs.Ends.{ends}
use Rattle.table.specs.declared.sound.SoundTable.{SoundTable}
use Rattle.table.proofs.Faultless.{no_fault, from_rows, from_loose_rows, from_arcs, from_loose_arcs, balanced}

-- a number stands in a list where its count is not 0
has_count : (k : ℕ) (xs : List ℕ) → has k xs ≡ true → 1 ≤ count k xs
has_count k [] e = absurd (false≢true e)
has_count k (x ∷ xs) e =
    ⊎_elim
    (λ t. let first : cond {A = ℕ} (eqb x k) 1 0 ≡ 1 = simp t.0 in omega arith)
    (λ t. let rest = has_count k xs (subst (λ b. cond b true (has k xs) ≡ true) t.0 e) in omega arith)
    (eqb_tells x k)

count_has : (k : ℕ) (xs : List ℕ) → 1 ≤ count k xs → has k xs ≡ true
count_has k [] h = absurd (omega arith)
count_has k (x ∷ xs) h =
    ⊎_elim
    (λ t. ap (λ b. cond b true (has k xs)) t.0)
    (λ t. let first : cond {A = ℕ} (eqb x k) 1 0 ≡ 0 = simp t.0 in ap (λ b. cond b true (has k xs)) t.0 ∙ count_has k xs (omega arith))
    (eqb_tells x k)

-- of lists gathered, one has it
gathered_some : (k : ℕ) (f : ℕ → List ℕ) (n : ℕ) → 1 ≤ count k (gathered f n) → (g : ℕ) × (Within 1 n g × (1 ≤ count k (f g)))
gathered_some k f zero h = absurd (omega arith)
gathered_some k f (suc n) h =
    let both = count-++ k (gathered f n) (f (suc n)) in
    ⊎_elim
    (λ none. (suc n, ((omega arith, omega arith), omega arith)))
    (λ some. let r = gathered_some k f n some in (r.0, ((r.1.0.0, omega (arith, r.1.0.1)), r.1.1)))
    (cases_lt (count k (gathered f n)) 1)

some_gathered : (k : ℕ) (f : ℕ → List ℕ) (n g : ℕ) → Within 1 n g → 1 ≤ count k (f g) → 1 ≤ count k (gathered f n)
some_gathered k f zero g w h = absurd (omega (arith, w.0, w.1))
some_gathered k f (suc n) g w h =
    let both = count-++ k (gathered f n) (f (suc n)) in
    ⊎_elim
    (λ early. let r = some_gathered k f n g (w.0, omega arith) h in omega arith)
    (λ last. let same : g ≡ suc n = omega (arith, w.1) in let here = ap (λ j. count k (f j)) same in omega arith)
    (cases_lt g (suc n))

pub chain_same : (next : ℕ → ℕ) (k : ℕ) (xs ys : List ℕ) → Chain next k xs → Chain next k ys → xs ≡ ys
chain_same next k [] [] c d = refl
chain_same next k [] (y ∷ ys) c d = absurd (omega (arith, c, d.1))
chain_same next k (x ∷ xs) [] c d = absurd (omega (arith, d, c.1))
chain_same next k (x ∷ xs) (y ∷ ys) c d = (λ i. (c.0 ∙ sym d.0) i ∷ chain_same next (next k) xs ys c.2 d.2 i)

-- from a number of a chain on, the rest is its chain
chain_rest : (next : ℕ → ℕ) (k y : ℕ) (xs : List ℕ) → Chain next k xs → 1 ≤ count y xs → (ys : List ℕ) × (Chain next y ys × (length ys ≤ length xs))
chain_rest next k y [] c h = absurd (omega arith)
chain_rest next k y (x ∷ xs) c h =
    ⊎_elim
    (λ t. (x ∷ xs, (subst (λ j. Chain next j (x ∷ xs)) (sym c.0 ∙ t.1) c, omega arith)))
    (λ t.
    let first : cond {A = ℕ} (eqb x y) 1 0 ≡ 0 = simp t.0 in
    let r = chain_rest next (next k) y xs c.2 (omega arith) in
    (r.0, (r.1.0, omega (arith, r.1.1))))
    (eqb_tells x y)

-- a chain meets no number twice: it would go on from there for ever
chain_once : (next : ℕ → ℕ) (k : ℕ) (xs : List ℕ) → Chain next k xs → (y : ℕ) → count y xs ≤ 1
chain_once next k [] c y = omega arith
chain_once next k (x ∷ xs) c y =
    let rest = chain_once next (next k) xs c.2 y in
    ⊎_elim
    (λ t.
    let first : cond {A = ℕ} (eqb x y) 1 0 ≡ 1 = simp t.0 in
    ⊎_elim
    (λ none. omega arith)
    (λ some.
    let r = chain_rest next (next k) y xs c.2 some in
    let whole : Chain next y (x ∷ xs) = subst (λ j. Chain next j (x ∷ xs)) (sym c.0 ∙ t.1) c in
    let same = ap length (chain_same next y (x ∷ xs) r.0 whole r.1.0) in
    absurd (omega (arith, same, r.1.1)))
    (cases_lt (count y xs) 1))
    (λ t. let first : cond {A = ℕ} (eqb x y) 1 0 ≡ 0 = simp t.0 in omega arith)
    (eqb_tells x y)

pub search_none : (bad : ℕ → Bool) (n k : ℕ) → ((i : ℕ) → k ≤ i → i < k + n → bad i ≡ false) → first_from bad n k ≡ None
search_none bad zero k h = refl
search_none bad (suc n) k h = found_later bad k (suc n) n (omega arith) (h k (omega arith) (omega arith)) ∙ search_none bad n (k + 1) (λ i lo hi. h i (omega arith) (omega arith))

module _ (t : Table) where
  -- each grade's chain of rows ends, where each row is pointed at once
  pub rows_end : ((k : ℕ) → Within 1 t.rows k → count k (row_pointers t) ≡ 1) → (g : ℕ) → Within 1 t.grades g → Chain (next_row t) (first_row t g) (rows_of t g)
  rows_end one g w =
      let few : t.rows ≤ length t.row = omega (arith, t.rowlong, t.rowed.1) in
      let fit : t.grades ≤ length t.first_row = omega (arith, t.firstlong, t.graded.1) in
      ends t.rows (next_row t) (take t.grades t.first_row) (map (λ r. r.next) (take t.rows t.row)) one
      (length-map (take t.rows t.row) (λ r. r.next) ∙ length-take-le t.rows t.row few)
      (λ k h.
      get_or-map (λ r. r.next) (take t.rows t.row) (k - 1) row0 0 (omega (arith, length-take-le t.rows t.row few, h.0, h.1))
      ∙ ap (λ r. r.next) (get_or-take t.rows t.row (k - 1) row0 (omega (arith, h.0, h.1))))
      (λ k h. (t.rowsin (k - 1) (omega (arith, h.0, h.1))).0)
      (first_row t g) (g - 1) (omega (arith, length-take-le t.grades t.first_row fit, w.0, w.1))
      (get_or-take t.grades t.first_row (g - 1) 0 (omega (arith, w.0, w.1)))
      (t.firsts (g - 1) (omega (arith, w.0, w.1)))

  -- and so does each row's chain of arcs
  pub arcs_end : ((x : ℕ) → Within 1 t.arcs x → count x (arc_pointers t) ≡ 1) → (k : ℕ) → Within 1 t.rows k → Chain (next_arc t) (row_at t k).first_arc (arcs_of t k)
  arcs_end one k w =
      let few : t.arcs ≤ length t.arc = omega (arith, t.arclong, t.arced.1) in
      let fit : t.rows ≤ length t.row = omega (arith, t.rowlong, t.rowed.1) in
      let long = length-take-le t.rows t.row fit in
      ends t.arcs (next_arc t) (map (λ r. r.first_arc) (take t.rows t.row)) (map (λ a. a.next) (take t.arcs t.arc)) one
      (length-map (take t.arcs t.arc) (λ a. a.next) ∙ length-take-le t.arcs t.arc few)
      (λ x h.
      get_or-map (λ a. a.next) (take t.arcs t.arc) (x - 1) arc0 0 (omega (arith, length-take-le t.arcs t.arc few, h.0, h.1))
      ∙ ap (λ a. a.next) (get_or-take t.arcs t.arc (x - 1) arc0 (omega (arith, h.0, h.1))))
      (λ x h. (t.arcsin (x - 1) (omega (arith, h.0, h.1))).0)
      (row_at t k).first_arc (k - 1) (omega (arith, length-map (take t.rows t.row) (λ r. r.first_arc), long, w.0, w.1))
      (get_or-map (λ r. r.first_arc) (take t.rows t.row) (k - 1) row0 0 (omega (arith, long, w.0, w.1)) ∙ ap (λ r. r.first_arc) (get_or-take t.rows t.row (k - 1) row0 (omega (arith, w.0, w.1))))
      (t.rowsin (k - 1) (omega (arith, w.0, w.1))).1

  -- what the searches that find nothing tell
  faultless_sound : table_fault t ≡ None → Sound t
  faultless_sound e =
      let f = ap is_some e in
      let row_one : (k : ℕ) → Within 1 t.rows k → count k (row_pointers t) ≡ 1 =
      λ k h. eqb-true (count k (row_pointers t)) 1 (not-false (eqb (count k (row_pointers t)) 1) (none_found (mispointed (row_pointers t)) t.rows 1 (from_rows t f).0 k h.0 (omega (arith, h.1)))) in
      let arc-one : (x : ℕ) → Within 1 t.arcs x → count x (arc_pointers t) ≡ 1 =
      λ x h. eqb-true (count x (arc_pointers t)) 1 (not-false (eqb (count x (arc_pointers t)) 1) (none_found (mispointed (arc_pointers t)) t.arcs 1 (from_arcs t f).0 x h.0 (omega (arith, h.1)))) in
      record {
        row_pointed = row_one;
        row_chained = λ k h.
            let some : 1 ≤ count k (reached_rows t) = omega (arith, eqb-false (count k (reached_rows t)) 0 (none_found (loose (reached_rows t)) t.rows 1 (from_loose_rows t f).0 k h.0 (omega (arith, h.1)))) in
            let r = gathered_some k (rows_of t) t.grades some in
            (r.0, (r.1.0, record { chain = rows_of t r.0; is = rows_end row_one r.0 r.1.0; among = count_has k (rows_of t r.0) r.1.1 }));
        arc_pointed = arc-one;
        arc_chained = λ x h.
            let some : 1 ≤ count x (reached_arcs t) = omega (arith, eqb-false (count x (reached_arcs t)) 0 (none_found (loose (reached_arcs t)) t.arcs 1 (from_loose_arcs t f).0 x h.0 (omega (arith, h.1)))) in
            let r = gathered_some x (arcs_of t) t.rows some in
            (r.0, (r.1.0, record { chain = arcs_of t r.0; is = arcs_end arc-one r.0 r.1.0; among = count_has x (arcs_of t r.0) r.1.1 }));
        weighed = λ k h xs c. ap (weights t) (chain_same (next_arc t) (row_at t k).first_arc xs (arcs_of t k) c (arcs_end arc-one k h)) ∙ balanced t f k h;
      }

  sound_faultless : Sound t → table_fault t ≡ None
  sound_faultless s =
      let rows = search_none (mispointed (row_pointers t)) t.rows 1 (λ k lo hi. ap not (eq-eqb (count k (row_pointers t)) 1 (s.row_pointed k (lo, omega arith)))) in
      let loose-rows = search_none (loose (reached_rows t)) t.rows 1 (λ k lo hi.
      let r = s.row_chained k (lo, omega arith) in
      let c = r.1.1 in
      let same = chain_same (next_row t) (first_row t r.0) c.chain (rows_of t r.0) c.is (rows_end s.row_pointed r.0 r.1.0) in
      let some = some_gathered k (rows_of t) t.grades r.0 r.1.0 (subst (λ l. 1 ≤ count k l) same (has_count k c.chain c.among)) in
      ne_eqb (count k (reached_rows t)) 0 (omega arith)) in
      let arcs = search_none (mispointed (arc_pointers t)) t.arcs 1 (λ x lo hi. ap not (eq-eqb (count x (arc_pointers t)) 1 (s.arc_pointed x (lo, omega arith)))) in
      let loose-arcs = search_none (loose (reached_arcs t)) t.arcs 1 (λ x lo hi.
      let r = s.arc_chained x (lo, omega arith) in
      let c = r.1.1 in
      let same = chain_same (next_arc t) (row_at t r.0).first_arc c.chain (arcs_of t r.0) c.is (arcs_end s.arc_pointed r.0 r.1.0) in
      let some = some_gathered x (arcs_of t) t.rows r.0 r.1.0 (subst (λ l. 1 ≤ count x l) same (has_count x c.chain c.among)) in
      ne_eqb (count x (reached_arcs t)) 0 (omega arith)) in
      let weighs = search_none (unbalanced t) t.rows 1 (λ k lo hi.
      ap not (eq-eqb (weights t (arcs_of t k)) t.total (s.weighed k (lo, omega arith) (arcs_of t k) (arcs_end s.arc_pointed k (lo, omega arith))))) in
      (λ i. or_else (rows i) RowPointers (or_else (loose-rows i) LooseRow (or_else (arcs i) ArcPointers (or_else (loose-arcs i) LooseArc (or_else (weighs i) Weights None)))))

pub walked : (t : Table) → Sound t → Walked t
walked t s =
    record {
      rows = rows_end t s.row_pointed;
      rows_once = λ g h. chain_once (next_row t) (first_row t g) (rows_of t g) (rows_end t s.row_pointed g h);
      arcs = arcs_end t s.arc_pointed;
      arcs_once = λ k h. chain_once (next_arc t) (row_at t k).first_arc (arcs_of t k) (arcs_end t s.arc_pointed k h);
    }

pub sound_exactly : SoundExactly
sound_exactly t = (faultless_sound t, sound_faultless t)

-- a table that the type says to be without a fault is sound
pub sound_table : (s : SoundTable) → Sound s.table
sound_table s = (sound_exactly s.table).0 (no_fault (table_fault s.table) s.faultless)
