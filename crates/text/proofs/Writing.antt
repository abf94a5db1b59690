-- One write after another.
use Rattle.std.proofs.Common.{◌≡◌, ℕ, ◌+◌, ◌≤◌, List, [], ◌∷◌, ◌++◌, length, take, drop, ℤ, Some, None, Option, sym, ap, ◌∙◌, subst, append_assoc, arith}
use Rattle.std.proofs.lemmas.List.{length-append, length-take-le, length-drop, take_at, take-take, drop_at, drop-drop}
use Rattle.text.specs.Fields.{ended, number_text}
use Rattle.text.specs.Writing.{put, Writes, ReadsBack}

module _ (xs : List ℕ) (at : ℕ) (ys : List ℕ) (room : at + length ys ≤ length xs) where
  -- what stands up to the place after ys
  front_length : length (take at xs ++ ys) ≡ at + length ys
  front_length = length-append (take at xs) ys ∙ ap (λ k. k + length ys) (length-take-le at xs (omega arith))

  put_cut : put xs at ys ≡ (take at xs ++ ys) ++ drop (at + length ys) xs
  put_cut = sym (append_assoc (take at xs) ys (drop (at + length ys) xs))

  pub length_put : length (put xs at ys) ≡ length xs
  length_put = omega (arith, ap length put_cut, length-append (take at xs ++ ys) (drop (at + length ys) xs), front_length, length-drop (at + length ys) xs)

  pub take_put : take at (put xs at ys) ≡ take at xs
  take_put = take_at (take at xs) (ys ++ drop (at + length ys) xs) at (length-take-le at xs (omega arith))

  pub drop_put : drop (at + length ys) (put xs at ys) ≡ drop (at + length ys) xs
  drop_put = ap (drop (at + length ys)) put_cut ∙ drop_at (take at xs ++ ys) (drop (at + length ys) xs) (at + length ys) front_length

  pub put_put : (zs : List ℕ) → put (put xs at ys) (at + length ys) zs ≡ put xs at (ys ++ zs)
  put_put zs =
      let n = at + length ys in
      let front : take n (put xs at ys) ≡ take at xs ++ ys = ap (take n) put_cut ∙ take_at (take at xs ++ ys) (drop n xs) n front_length in
      let rest : drop (n + length zs) (put xs at ys) ≡ drop (n + length zs) xs = sym (drop-drop (length zs) n (put xs at ys)) ∙ ap (drop (length zs)) drop_put ∙ drop-drop (length zs) n xs in
      let long : n + length zs ≡ at + length (ys ++ zs) = omega (arith, length-append ys zs) in
      (λ i. front i ++ (zs ++ rest i)) ∙ append_assoc (take at xs) ys (zs ++ drop (n + length zs) xs) ∙ ap (λ l. take at xs ++ l) (sym (append_assoc ys zs (drop (n + length zs) xs)) ∙ ap (λ k. (ys ++ zs) ++ drop k xs) long)

pub writes_then : (xs : List ℕ) (at : ℕ) (a ys : List ℕ) (j : ℕ) → Writes xs at a (Some j) ys → (b : List ℕ) (r : Option ℕ) (zs : List ℕ) → Writes ys j b r zs → Writes xs at (a ++ b) r zs
writes_then xs at a ys j w b (Some k) zs v =
    let room : at + length a ≤ length xs = omega arith in
    let same = ap length w.2 ∙ length_put xs at a room in
    (omega (arith, length-append a b), omega arith, v.2 ∙ (λ i. put (w.2 i) (w.0 i) b) ∙ put_put xs at a room b)
writes_then xs at a ys j w b None zs v =
    let room : at + length a ≤ length xs = omega arith in
    let same = ap length w.2 ∙ length_put xs at a room in
    let less : at ≤ j = omega arith in (
      omega (arith, length-append a b),
      omega arith,
      sym (take-take at j zs less) ∙ ap (take at) v.2 ∙ take-take at j ys less ∙ ap (take at) w.2 ∙ take_put xs at a room,
    )

-- the byte that ends a field, after its text
pub writes_ended : (xs : List ℕ) (at : ℕ) (a ys : List ℕ) (j : ℕ) → Writes xs at a (Some j) ys → (b e : ℕ) → b ≡ e → (r : Option ℕ) (zs : List ℕ) → Writes ys j (b ∷ []) r zs → Writes xs at (ended e a) r zs
writes_ended xs at a ys j w b e is r zs v = writes_then xs at a ys j w (e ∷ []) r zs (subst (λ b. Writes ys j (b ∷ []) r zs) is v)

pub writes_none : (xs : List ℕ) (at : ℕ) (a ys b : List ℕ) → Writes xs at a None ys → Writes xs at (a ++ b) None ys
writes_none xs at a ys b w = (omega (arith, length-append a b), w.1, w.2)

-- what was written is read back
pub reads_back : (xs : List ℕ) (at e : ℕ) (z : ℤ) (r : Option ℕ) (zs : List ℕ) → Writes xs at (number_text e z) r zs → ReadsBack xs at e z r zs
reads_back xs at e z None zs w = tt
reads_back xs at e z (Some j) zs w =
    let ys = number_text e z in
    let room : at + length ys ≤ length xs = omega arith in
    let after : drop j zs ≡ drop j xs = (λ i. drop (w.0 i) (w.2 i)) ∙ drop_put xs at ys room ∙ ap (λ k. drop k xs) (sym w.0) in
    let here : drop at zs ≡ ys ++ drop j zs =
    ap (drop at) w.2 ∙ drop_at (take at xs) (ys ++ drop (at + length ys) xs) at (length-take-le at xs (omega arith)) ∙ ap (λ k. ys ++ drop k xs) (sym w.0) ∙ ap (λ l. ys ++ l) (sym after) in
    record {
      before = ap (take at) w.2 ∙ take_put xs at ys room;
      here = here;
      after = after;
      read = λ o small reads. reads.must z (drop j zs) small here;
    }

pub ruleset field_steps = (writes_ended, reads_back)
