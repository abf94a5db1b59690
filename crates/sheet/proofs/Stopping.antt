-- Where reading stops, group after group. Assumes nothing.
use Rattle.std.proofs.Common.{◌≡◌, ℕ, zero, suc, ◌+◌, ◌-◌, ◌<◌, List, [], ◌∷◌, ◌++◌, length, sym, refl, ap, ◌∙◌, subst, inl, inr, append_assoc, arith}
use Rattle.std.proofs.lemmas.List.{length-append}
use Rattle.lines.specs.declared.fault.TextFault.{TextFault}
use Rattle.lines.specs.Lines.{Good, line_text}
use Rattle.sheet.specs.Due.{Counts, Slot, Said, entry, Ranged, group}
use Rattle.sheet.specs.Refused.{Taken, Through, Stops}
use Rattle.sheet.specs.Halts.{LineFault, Halted}
use Rattle.sheet.specs.Render.{series}

module _ (c : Counts) where
  -- lines one after another
  pub through_then : (ss ts : List Slot) (bs us vs : List ℕ) → Through c ss bs us → Through c ts us vs → Through c (ss ++ ts) bs vs
  through_then [] ts bs us vs p q = subst (λ l. Through c ts l vs) (sym p) q
  through_then (s ∷ ss) ts bs us vs p q = (p.0, p.1, through_then ss ts p.0 us vs p.2 q)

  -- lines that the text of a group says, each of them good and in range
  pub through_series : (s : ℕ → Slot) (x : (k : ℕ) → Said (s k)) (n : ℕ) → ((k : ℕ) → k < n → Good (entry (s k) (x k)) × Ranged c (s k) (x k)) → (bs rest : List ℕ) → bs ≡ series (λ k. line_text (entry (s k) (x k))) n ++ rest → Through c (group s n) bs rest
  through_series s x zero fine bs rest is = is
  through_series s x (suc n) fine bs rest is =
      let last = line_text (entry (s n) (x n)) in
      let good = fine n (omega arith) in
      let taken : Taken c (s n) (last ++ rest) rest = record { said = x n; good = good.0; text = refl; ranged = good.1 } in
      through_then (group s n) (s n ∷ []) bs (last ++ rest) rest
      (through_series s x n (λ k h. fine k (omega arith)) bs (last ++ rest) (is ∙ append_assoc (series (λ k. line_text (entry (s k) (x k))) n) last rest))
      (rest, taken, refl)

  -- what stops after lines that are there stops in all of them
  pub stops_after : (ss ts : List Slot) (l : ℕ) (bs rest : List ℕ) (e : TextFault) → Through c ss bs rest → Stops c ts (l + length ss) rest e → Stops c (ss ++ ts) l bs e
  stops_after [] ts l bs rest e p q =
      let same : l + 0 ≡ l = omega arith in
      subst (λ b. Stops c ts l b e) (sym p) (subst (λ k. Stops c ts k rest e) same q)
  stops_after (s ∷ ss) ts l bs rest e p q =
      let same : l + suc (length ss) ≡ (l + 1) + length ss = omega arith in
      inr (inr (p.0, p.1, stops_after ss ts (l + 1) p.0 rest e p.2 (subst (λ k. Stops c ts k rest e) same q)))

  -- a fault of the first line that is due
  pub stops_here : (s : Slot) (ss : List Slot) (l : ℕ) (bs : List ℕ) (e : TextFault) → LineFault c s l bs e → Stops c (s ∷ ss) l bs e
  stops_here s ss l bs e (inl p) = inl p
  stops_here s ss l bs e (inr p) = inr (inl p)

module _ (f : ℕ → Slot) where
  pub length_group : (n : ℕ) → length (group f n) ≡ n
  length_group zero = refl
  length_group (suc n) = let more = length-append (group f n) (f n ∷ []) in omega (arith, more, length_group n)

  -- a group from one of its lines on
  pub group_from : (i k : ℕ) → (more : List Slot) × (group f (suc (k + i)) ≡ group f i ++ (f i ∷ more))
  group_from i zero = let same : suc (0 + i) ≡ suc i = omega arith in ([], ap (group f) same)
  group_from i (suc k) =
      let before = group_from i k in
      let same : suc (suc k + i) ≡ suc (suc (k + i)) = omega arith in
      (before.0 ++ f (suc (k + i)) ∷ [], ap (group f) same ∙ ap (λ l. l ++ f (suc (k + i)) ∷ []) before.1 ∙ append_assoc (group f i) (f i ∷ before.0) (f (suc (k + i)) ∷ []))

module _ (c : Counts) (f : ℕ → Slot) (n l : ℕ) (ts : List Slot) (bs : List ℕ) (e : TextFault) where
  -- the group's lines are there
  pub stops_beyond : (rest : List ℕ) → Through c (group f n) bs rest → Stops c ts (l + n) rest e → Stops c (group f n ++ ts) l bs e
  stops_beyond rest p q = stops_after c (group f n) ts l bs rest e p (subst (λ k. Stops c ts (l + k) rest e) (sym (length_group f n)) q)

  -- one of them is not
  pub stops_within : Halted c f n l bs e → Stops c (group f n ++ ts) l bs e
  stops_within h =
      let i = h.i in
      let same : suc ((n - suc i) + i) ≡ n = omega (arith, h.below) in
      let from = group_from f i (n - suc i) in
      let whole : group f n ++ ts ≡ group f i ++ (f i ∷ (from.0 ++ ts)) = ap (λ m. group f m ++ ts) (sym same) ∙ ap (λ l. l ++ ts) from.1 ∙ append_assoc (group f i) (f i ∷ from.0) ts in
      subst (λ ss. Stops c ss l bs e) (sym whole)
      (stops_after c (group f i) (f i ∷ (from.0 ++ ts)) l bs h.rest e h.through
      (subst (λ k. Stops c (f i ∷ (from.0 ++ ts)) (l + k) h.rest e) (sym (length_group f i)) (stops_here c (f i) (from.0 ++ ts) (l + i) h.rest e h.faulty)))
