-- A search through grades and their lists, step by step. Assumes nothing.
use Rattle.std.proofs.Common.{◌≡◌, ℕ, zero, suc, ◌+◌, ◌-◌, ◌≤◌, Bool, true, false, List, [], ◌∷◌, Some, None, Option, sym, ap, ◌∙◌, arith}
use Rattle.table.specs.declared.fault.FiguresFault.{FiguresFault}
use denote.Ref.{Bor}
use Rattle.table.specs.declared.grade.Grade.{Grade}
use Rattle.table.specs.declared.sound.SoundTable.{SoundTable}
use Rattle.table.specs.declared.table.Table.{Table}
use Rattle.table.specs.Rules.{first_in, first_pair, or_later, plan_row, plan_only}
use Rattle.table.proofs.Giving.{grade_is}

module _ (bad : ℕ → ℕ → Bool) where
  module _ (g k : ℕ) (ks : List ℕ) (later : Option (ℕ × ℕ)) where
    pub in_here : bad g k ≡ true → first_in bad g (k ∷ ks) later ≡ Some (g, k)
    in_here b = simp b

    pub in_later : bad g k ≡ false → first_in bad g (k ∷ ks) later ≡ first_in bad g ks later
    in_later b = simp b

  module _ (list : ℕ → List ℕ) where
    pair_in : (g n h : ℕ) → n ≡ h + 1 → first_pair bad list n g ≡ first_in bad g (list g) (first_pair bad list h (g + 1))
    pair_in g zero h e = absurd (omega arith)
    pair_in g (suc n) h e = let less : n ≡ h = omega arith in ap (λ j. first_in bad g (list g) (first_pair bad list j (g + 1))) less

    -- of n grades some have passed, and the next is g
    module _ (n passed g : ℕ) (is : g ≡ passed + 1) (within : g ≤ n) where
      pub pair_open : first_pair bad list (n - passed) (passed + 1) ≡ first_in bad g (list g) (first_pair bad list (n - g) (g + 1))
      pair_open = ap (first_pair bad list (n - passed)) (sym is) ∙ pair_in g (n - passed) (n - g) (omega arith)

-- a grade of a sound table after the first `passed`, and its plan row k
module _ (bad : Table → ℕ → ℕ → Bool) (rows : List ℕ) (g : Grade) (b : Bor SoundTable) (s : SoundTable) (same : g.sound ≡ b) (behind : b.now ≡ s) (passed : ℕ) (is : g.number ≡ passed + 1)
    (k : ℕ) (planned : k ≡ plan_row rows g.number) (whole : Option (ℕ × ℕ)) (so : first_pair (bad s.table) (plan_only rows) (s.table.grades - passed) (passed + 1) ≡ whole) where
  of : (g.sound.now ≡ s) × (g.number ≤ s.table.grades)
  of = grade_is g b s same behind

  abbrev later : Option (ℕ × ℕ)
  later = first_pair (bad s.table) (plan_only rows) (s.table.grades - g.number) (g.number + 1)

  rest : whole ≡ first_in (bad s.table) g.number (k ∷ []) later
  rest = sym so ∙ pair_open (bad s.table) (plan_only rows) s.table.grades passed g.number is of.1 ∙ ap (λ j. first_in (bad s.table) g.number (j ∷ []) later) (sym planned)

  at_table : (r : Bool) → bad g.sound.now.table g.number k ≡ r → bad s.table g.number k ≡ r
  at_table r e = ap (λ t. bad t.table g.number k) (sym of.0) ∙ e

  pub one_here : (at : ℕ → ℕ → FiguresFault) → bad g.sound.now.table g.number k ≡ true → Some (at g.number k) ≡ or_later whole at None
  one_here at e = ap (λ o. or_later o at None) (sym (rest ∙ in_here (bad s.table) g.number k [] later (at_table true e)))

  pub one_later : (next : ℕ) → next ≡ passed + 1 → bad g.sound.now.table g.number k ≡ false → first_pair (bad s.table) (plan_only rows) (s.table.grades - next) (next + 1) ≡ whole
  one_later next n e =
      (λ i. let to : next ≡ g.number = n ∙ sym is in first_pair (bad s.table) (plan_only rows) (s.table.grades - to i) (to i + 1)) ∙ sym (rest ∙ in_later (bad s.table) g.number k [] later (at_table false e))
