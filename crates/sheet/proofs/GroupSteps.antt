-- The lines of a group as they are read, one more at each turn.
use Rattle.std.proofs.Common.{◌≡◌, ℕ, ◌+◌, ◌<◌, ◌≤◌, ◌≢◌, ◌⊎◌, List, ◌++◌, length, get_or, drop, set, refl, sym, ap, ◌∙◌, subst, inl, inr, arith, get_or-set_other, get_or-set_same, below_none, below_more}
use Rattle.std.proofs.lemmas.List.{get_or_past}
use Rattle.lines.specs.Lines.{Good, line_text}
use Rattle.sheet.specs.declared.labels.Span.{Span}
use Rattle.sheet.specs.Due.{Counts, Slot, Said, entry, Ranged, group}
use Rattle.sheet.specs.Read.{LineRead, told, GroupRead}
use Rattle.sheet.specs.Refused.{Through}
use Rattle.sheet.specs.Render.{part_of, labels_of}
use Rattle.sheet.specs.Spans.{SpanIn, span0}
use Rattle.sheet.proofs.Parts.{read_more}
use Rattle.sheet.proofs.Stopping.{through_series}

module _ {K : Type 0} (c : Counts) (slot : ℕ → Slot) (said : List ℕ → (i : ℕ) → K → Said (slot i)) (sheet : List ℕ) (empty : K) where
  pub group_none : (at : ℕ) (xs : List K) (labels : List Span) → at ≤ length sheet → ((k : ℕ) → get_or xs k empty ≡ empty) → GroupRead c slot said sheet at 0 empty xs labels at
  group_none at xs labels h rest = record { inside = below_none _; ends = h; good = below_none _; ranged = below_none _; text = refl; beyond = λ k le. rest k }

  -- a line more, with spans that give what is said of it
  group_more_by : (start at i : ℕ) (xs : List K) (labels spans : List Span) (x : K) (label : Span) (next : ℕ) → i < length xs → ((k : ℕ) → k ≢ i → get_or spans k span0 ≡ get_or labels k span0) → SpanIn (length sheet) (get_or spans i span0) → said (part_of sheet label) i x ≡ said (labels_of sheet spans i) i x → GroupRead c slot said sheet start i empty xs labels at → LineRead c (slot i) (λ l. said l i x) sheet at label next → GroupRead c slot said sheet start (i + 1) empty (set xs i x) spans next
  group_more_by start at i xs labels spans x label next inside others last same so_far line =
      let ys = set xs i x in
      let before : (k : ℕ) → k < i → told slot said sheet empty xs labels k ≡ told slot said sheet empty ys spans k =
      λ k h.
      let ne : k ≢ i = omega arith in
      λ j. said (part_of sheet (sym (others k ne) j)) k (sym (get_or-set_other xs i k x empty ne) j) in
      let here : said (part_of sheet label) i x ≡ told slot said sheet empty ys spans i = same ∙ ap (said (labels_of sheet spans i) i) (sym (get_or-set_same xs i x empty inside)) in
      record {
        inside = below_more _ _ (λ k h. let ne : k ≢ i = omega arith in subst (SpanIn (length sheet)) (sym (others k ne)) (so_far.inside k h)) last;
        ends = line.ends;
        good = below_more _ _ (λ k h. subst (λ y. Good (entry (slot k) y)) (before k h) (so_far.good k h)) (subst (λ y. Good (entry (slot i) y)) here line.good);
        ranged = below_more _ _ (λ k h. subst (Ranged c (slot k)) (before k h) (so_far.ranged k h)) (subst (Ranged c (slot i)) here line.ranged);
        text = read_more (λ k. line_text (entry (slot k) (told slot said sheet empty xs labels k))) (λ k. line_text (entry (slot k) (told slot said sheet empty ys spans k))) i
            (drop start sheet) (drop at sheet) (drop next sheet) so_far.text
            (λ k h. ap (λ y. line_text (entry (slot k) y)) (before k h))
            (line.text ∙ ap (λ y. line_text (entry (slot i) y) ++ drop next sheet) here);
        beyond = λ k le. let ne : k ≢ i = omega arith in get_or-set_other xs i k x empty ne ∙ so_far.beyond k (omega arith);
      }

  -- a line more, whose label has a place or which has none
  pub group_more : (start at i : ℕ) (xs : List K) (labels spans : List Span) (x : K) (label : Span) (next : ℕ) → i < length xs → (i < length labels × (spans ≡ set labels i label)) ⊎ (((label other : List ℕ) (i : ℕ) (x : K) → said label i x ≡ said other i x) × (length labels ≤ i) × (spans ≡ labels)) → GroupRead c slot said sheet start i empty xs labels at → LineRead c (slot i) (λ l. said l i x) sheet at label next → GroupRead c slot said sheet start (i + 1) empty (set xs i x) spans next
  group_more start at i xs labels spans x label next inside (inl p) so_far line =
      let here : label ≡ get_or spans i span0 = sym (ap (λ s. get_or s i span0) p.1 ∙ get_or-set_same labels i label span0 p.0) in
      group_more_by start at i xs labels spans x label next inside (λ k ne. ap (λ s. get_or s k span0) p.1 ∙ get_or-set_other labels i k label span0 ne) (subst (SpanIn (length sheet)) here line.inside) (ap (λ span. said (part_of sheet span) i x) here) so_far line
  group_more start at i xs labels spans x label next inside (inr p) so_far line =
      let here : get_or spans i span0 ≡ span0 = ap (λ s. get_or s i span0) p.2 ∙ get_or_past labels i span0 p.1 in
      group_more_by start at i xs labels spans x label next inside (λ k ne. ap (λ s. get_or s k span0) p.2) (subst (SpanIn (length sheet)) (sym here) (omega arith, omega arith)) (p.0 _ _ i x) so_far line

  pub group_through : (at n : ℕ) (xs : List K) (labels : List Span) (next : ℕ) → GroupRead c slot said sheet at n empty xs labels next → Through c (group slot n) (drop at sheet) (drop next sheet)
  group_through at n xs labels next read = through_series c slot (told slot said sheet empty xs labels) n (λ k h. (read.good k h, read.ranged k h)) (drop at sheet) (drop next sheet) read.text
