-- Arrays that hold one thing of each filed line. Assumes nothing.
use Rattle.std.proofs.Common.{◌≡◌, ℕ, zero, suc, ◌+◌, ◌<◌, ◌≤◌, List, map, length, get_or, sym, ap, ◌∙◌, subst, ⊎_elim, arith}
use Rattle.std.proofs.Math.ListN.{get_or-map}
use Rattle.std.proofs.lemmas.List.{length-map, get_or_past}
use Rattle.std.proofs.lemmas.Bool.{cases_eq, cases_lt}
use Rattle.std.specs.Array.{IsFromFnResultFrom, IsFromFnResult}
use Rattle.std.specs.Fn.{Called}
use denote.Param.Members.{Mut}
use Rattle.table.specs.declared.filing.FiledLine.{FiledLine}
use Rattle.table.specs.Filing.{no_line, Copies}

-- an array made by calls that each read a line
module _ {A F : Type 0} (g : Mut F (ℕ × Unit {0}) A) (h : F) (f : FiledLine → A) (d : A) (e : f no_line ≡ d) (ls : List FiledLine)
    (reads : (i : ℕ) (y : A) (q : F) → Called g h (i, tt) y q → (q ≡ h) × (y ≡ f (get_or ls i no_line))) where
  filled : (xs : List A) (a n : ℕ) → IsFromFnResultFrom g h xs a n → (i : ℕ) → a ≤ i → i < a + n → get_or xs i d ≡ get_or (map f ls) i d
  filled xs a zero each i lo hi = absurd (omega arith)
  filled xs a (suc n) each i lo hi =
      let call = reads a each.1 each.0 each.3 in
      ⊎_elim
      (λ same. ap (λ j. get_or xs j d) same ∙ each.2.1 d ∙ call.1 ∙ sym (get_or-map f ls a no_line) ∙ ap (get_or (map f ls) a) e ∙ ap (λ j. get_or (map f ls) j d) (sym same))
      (λ apart. filled xs (a + 1) n (subst (λ q. IsFromFnResultFrom g q xs (a + 1) n) call.0 each.4) i (omega arith) (omega arith))
      (cases_eq i a)

  pub copies : length ls ≤ 32 → (xs : List A) → IsFromFnResult g h xs 32 → Copies f d ls xs
  copies few xs made = (
    made.long,
    λ i. ⊎_elim
        (λ lt. filled xs 0 32 made.each i (omega arith) (omega arith))
        (λ ge. get_or_past xs i d (omega (arith, made.long)) ∙ sym (get_or_past (map f ls) i d (omega (arith, length-map ls f))))
        (cases_lt i 32),
  )
