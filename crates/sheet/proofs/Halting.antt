-- What the lines that were read say of where reading stops. Assumes nothing.
use Rattle.std.proofs.Common.{◌≡◌, ℕ, ◌^◌, ◌≤◌, Bool, true, false, cond, ◌⊎◌, ℤ, pos, nat_abs, IsErrAnd, Ok, Err, Result, sym, refl, ap, ◌∙◌, inl, inr, arith}
use Rattle.text.specs.Fields.{Small}
use Rattle.table.specs.Ranges.{PartIn}
use Rattle.sheet.specs.declared.header.Header.{Header}
use Rattle.sheet.specs.Due.{Counts, Counted}
use Rattle.sheet.specs.Halts.{counts_of}

-- an error is passed on as it is
pub err_is : {T E : Type 0} (r : Result T E) (x : E) → IsErrAnd r (λ y. y ≡ x) → r ≡ Err x
err_is (Ok t) x p = absurd p
err_is (Err y) x p = ap Err p

-- the numbers of a header are in range
pub counted : (h : Header) → Counted (counts_of h)
counted h =
    record {
      grades = h.graded;
      rows = h.rowed;
      arcs = h.arced;
      total = h.weighed;
      denominator = h.discounted;
      numerator = h.shrinking;
      fineness = h.fine;
      figures = either h.figured h.grades;
    }
  where
    either : (b : Bool) (n : ℕ) → (cond b n 0 ≡ 0) ⊎ (cond b n 0 ≡ n)
    either true n = inr refl
    either false n = inl refl

-- there are no more figure lines than grades
pub figures_most : (k : Counts) → Counted k → (z : ℤ) (g : ℕ) → z ≡ pos g → z ≡ pos k.grades → k.figures ≤ g
figures_most k m z g p q =
    let same : g ≡ k.grades = ap nat_abs (sym p ∙ q) in
    most m.figures same
  where
    most : (k.figures ≡ 0) ⊎ (k.figures ≡ k.grades) → g ≡ k.grades → k.figures ≤ g
    most (inl none) same = omega arith
    most (inr all) same = omega arith

-- numbers of few digits
part_few : (z : ℤ) → PartIn z → Small z
part_few z h = omega arith

figure_few : (z : ℤ) → nat_abs z ≤ 10 ^ 10 → Small z
figure_few z h = omega arith
