-- Marks of what the chains of several heads reach, while one chain is followed. Assumes nothing.
use Rattle.std.proofs.Common.{◌≡◌, ℕ, zero, suc, ◌+◌, ◌-◌, ◌*◌, ◌<◌, ◌≤◌, List, [], ◌∷◌, ◌++◌, length, get_or, take, sym, refl, ap, ◌∙◌, subst, append_assoc, mul-add, add-one, arith}
use Rattle.std.proofs.lemmas.List.{take_more, flat_map_more, length-append}
use Rattle.std.proofs.lemmas.List.Concat.{length-flat_map}
use Rattle.std.proofs.lemmas.List.Folds.{length-flat_map-take}
use Rattle.std.proofs.lemmas.List.Sums.{sum_by-le}
use Rattle.std.specs.List.{flat_map}
use Rattle.table.specs.Counts.{one_more}
use Rattle.table.specs.declared.table.Table.{Table}
use Rattle.table.specs.Ranges.{row0, arc0}
use Rattle.table.specs.Chains.{walk, next_row, rows_of, next_arc, arcs_of}
use Rattle.table.specs.Faults.{gathered, reached_rows, reached_arcs}
use Rattle.table.specs.Walks.{chain_from}
use Rattle.table.proofs.Walks.{walk-≤, row_chain, arc_chain}
use Rattle.table.proofs.Tallies.{Counted, counted_more, counted-≤, length-one_more}

module _ {H T : Type 0} (head : H → ℕ) (next : T → ℕ) (none : T) (links : List T) where
  -- the chains of heads, one after another
  abbrev pub chains : List H → List ℕ
  chains hs = flat_map (λ h. chain_from next none links (head h)) hs

  pub chains-≤ : (hs : List H) → length (chains hs) ≤ length hs * length links
  chains-≤ hs =
      omega (
        arith,
        length-flat_map (λ h. chain_from next none links (head h)) hs,
        sum_by-le (λ h. length (chain_from next none links (head h))) (length links) hs (λ k d lt. walk-≤ (λ j. next (get_or links (j - 1) none)) (length links) (head (get_or hs k d))),
      )

  -- ys have been met of the chain of the head at i
  module _ (hs : List H) (i : ℕ) (d : H) (inside : i < length hs) (first : ℕ) (is : first ≡ head (get_or hs i d)) (few : length hs * length links ≤ 65535)
      (size : ℕ) (fit : length links ≤ size) (marks ys : List ℕ) (so : (length marks ≡ size) × Counted (length links) marks (chains (take i hs) ++ ys)) where
    pub mark_room : length ys < length (chain_from next none links first) → (k : ℕ) → k ≤ length links → 0 < k → get_or marks (k - 1) 0 < 65535
    mark_room more k hi lo =
        omega (
          arith,
          counted-≤ so.1 (k - 1) (omega arith),
          length-append (chains (take i hs)) ys,
          ap (λ j. length (chain_from next none links j)) is,
          length-flat_map-take (λ h. chain_from next none links (head h)) hs i d inside,
          chains-≤ hs,
        )

    pub mark_step : (k : ℕ) (ds : List ℕ) → k ≤ length links → ds ≡ one_more k marks → (length ds ≡ size) × Counted (length links) ds (chains (take i hs) ++ (ys ++ k ∷ []))
    mark_step k ds hi e = (
      ap length e ∙ length-one_more k marks ∙ so.0,
      subst (λ l. Counted (length links) l (chains (take i hs) ++ (ys ++ k ∷ []))) (sym e)
          (subst (Counted (length links) (one_more k marks)) (append_assoc (chains (take i hs)) ys (k ∷ [])) (counted_more so.1 k hi (omega (arith, so.0)))),
    )

    pub mark_end : ys ≡ chain_from next none links first → (length marks ≡ size) × Counted (length links) marks (chains (take (i + 1) hs))
    mark_end all =
        let chain : ys ≡ chain_from next none links (head (get_or hs i d)) = all ∙ ap (chain_from next none links) is in
        let more : chains (take (i + 1) hs) ≡ chains (take i hs) ++ ys =
        ap chains (take_more hs i d inside) ∙ sym (flat_map_more (λ h. chain_from next none links (head h)) [] (take i hs) (get_or hs i d)) ∙ ap (λ l. chains (take i hs) ++ l) (sym chain) in
        (so.0, subst (Counted (length links) marks) (sym more) so.1)

-- lists gathered by numbers are those of the first n of a list
gathered_is : {H : Type 0} (f : ℕ → List ℕ) (e : H → List ℕ) (hs : List H) (d : H) (n : ℕ) → n ≤ length hs → ((i : ℕ) → i < n → f (i + 1) ≡ e (get_or hs i d)) → gathered f n ≡ flat_map e (take n hs)
gathered_is f e hs d zero fit each = refl
gathered_is f e hs d (suc n) fit each =
    let first = gathered_is f e hs d n (omega arith) (λ i h. each i (omega arith)) in
    let last : f (suc n) ≡ e (get_or hs n d) = ap f (sym (add-one n)) ∙ each n (omega arith) in
    (λ i. first i ++ last i) ∙ flat_map_more e [] (take n hs) (get_or hs n d) ∙ ap (flat_map e) (sym (take_more hs n d (omega arith)) ∙ ap (λ j. take j hs) (add-one n))

-- lists that are each at most b long are together at most b times as long as there are lists
pub gathered-≤ : (f : ℕ → List ℕ) (b : ℕ) → ((i : ℕ) → length (f i) ≤ b) → (n : ℕ) → length (gathered f n) ≤ b * n
gathered-≤ f b each zero = omega arith
gathered-≤ f b each (suc n) =
    let h = gathered-≤ f b each n in
    let e = each (suc n) in
    omega (arith, length-append (gathered f n) (f (suc n)), mul-add b n 1)

module _ (t : Table) where
  pub rows_reached : reached_rows t ≡ chains (λ k. k) (λ r. r.next) row0 (take t.rows t.row) (take t.grades t.first_row)
  rows_reached =
      gathered_is (rows_of t) (chain_from (λ r. r.next) row0 (take t.rows t.row)) t.first_row 0 t.grades (omega (arith, t.firstlong, t.graded.1)) (λ i h.
      let same : i + 1 - 1 ≡ i = omega arith in
      ap (λ j. walk (next_row t) t.rows (get_or t.first_row j 0)) same ∙ sym (row_chain t (get_or t.first_row i 0) (t.firsts i h).1))

  pub arcs_reached : reached_arcs t ≡ chains (λ r. r.first_arc) (λ x. x.next) arc0 (take t.arcs t.arc) (take t.rows t.row)
  arcs_reached =
      gathered_is (arcs_of t) (λ r. chain_from (λ x. x.next) arc0 (take t.arcs t.arc) r.first_arc) t.row row0 t.rows (omega (arith, t.rowlong, t.rowed.1)) (λ i h.
      let same : i + 1 - 1 ≡ i = omega arith in
      ap (λ j. walk (next_arc t) t.arcs (get_or t.row j row0).first_arc) same ∙ sym (arc_chain t (get_or t.row i row0).first_arc (t.rowsin i h).1.1))
