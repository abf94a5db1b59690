-- Lines one after another, as they are written.
use Rattle.std.proofs.Common.{◌≡◌, ℕ, zero, suc, ◌+◌, ◌-◌, ◌<◌, ◌≤◌, List, [], ◌++◌, length, take, drop, Some, None, Option, sym, ap, ◌∙◌, subst, add-one, arith}
use Rattle.std.proofs.lemmas.List.{length-append, take-append-drop}
use Rattle.text.specs.Writing.{Writes}
use Rattle.text.proofs.Writing.{writes_then}
use Rattle.lines.specs.Lines.{Entry, line_text}
use Rattle.sheet.specs.Render.{series}

pub writes_nothing : (xs : List ℕ) (at : ℕ) → at ≤ length xs → Writes xs at [] (Some at) xs
writes_nothing xs at h =
    let none : at ≡ at + 0 = omega arith in
    (none, h, sym (take-append-drop at xs) ∙ ap (λ k. take at xs ++ drop k xs) none)

module _ (f : ℕ → List ℕ) where
  pub series_more : (i : ℕ) → series f (i + 1) ≡ series f i ++ f i
  series_more i = ap (series f) (add-one i)

  grows : (i k : ℕ) → length (series f i) ≤ length (series f (i + k))
  grows i zero = let same : i ≡ i + 0 = omega arith in subst (λ m. length (series f i) ≤ length (series f m)) same (omega arith)
  grows i (suc k) =
      let same : (i + k) + 1 ≡ i + suc k = omega arith in
      let more = ap (λ m. length (series f m)) (sym same) ∙ ap length (series_more (i + k)) ∙ length-append (series f (i + k)) (f (i + k)) in
      omega (arith, grows i k, more)

  pub series_le : (i n : ℕ) → i ≤ n → length (series f i) ≤ length (series f n)
  series_le i n h = let same : i + (n - i) ≡ n = omega arith in subst (λ m. length (series f i) ≤ length (series f m)) same (grows i (n - i))

  -- one more line is written
  pub writes_more : (xs : List ℕ) (at i j : ℕ) (ys : List ℕ) → Writes xs at (series f i) (Some j) ys → (r : Option ℕ) (zs : List ℕ) → Writes ys j (f i) r zs → Writes xs at (series f (i + 1)) r zs
  writes_more xs at i j ys w r zs v = subst (λ l. Writes xs at l r zs) (sym (series_more i)) (writes_then xs at (series f i) ys j w (f i) r zs v)

  -- where one line has no room, all of them have none
  pub writes_short : (xs : List ℕ) (at i n : ℕ) (zs : List ℕ) → i ≤ n → Writes xs at (series f i) None zs → Writes xs at (series f n) None zs
  writes_short xs at i n zs h w = (omega (arith, series_le i n h), w.1, w.2)

module _ (g : ℕ → Entry) (xs : List ℕ) (at i j : ℕ) (ys : List ℕ) (so_far : Writes xs at (series (λ k. line_text (g k)) i) (Some j) ys) (e : Entry) (is : e ≡ g i) where
  -- a turn of a loop that writes lines
  pub line_more : (r : Option ℕ) (zs : List ℕ) → Writes ys j (line_text e) r zs → Writes xs at (series (λ k. line_text (g k)) (i + 1)) r zs
  line_more r zs v = writes_more (λ k. line_text (g k)) xs at i j ys so_far r zs (subst (λ x. Writes ys j (line_text x) r zs) is v)

  pub line_short : (n : ℕ) (zs : List ℕ) → i < n → Writes ys j (line_text e) None zs → Writes xs at (series (λ k. line_text (g k)) n) None zs
  line_short n zs h v = writes_short (λ k. line_text (g k)) xs at (i + 1) n zs (omega arith) (line_more None zs v)
