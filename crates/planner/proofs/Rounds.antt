-- What a round makes of a grade, and rounds one after another. Assumes nothing.
use Rattle.std.proofs.Common.{◌≡◌, ℕ, zero, suc, ◌+◌, ◌≤◌, Bool, true, false, cond, is_some, ap, ◌∙◌, arith}
use Rattle.rankings.specs.Costs.{Cost}
use Rattle.table.specs.declared.table.Table.{Table}
use Rattle.table.specs.Lookahead.{figure_at}
use Rattle.planner.specs.Sweeps.{Shown}
use Rattle.planner.specs.Improvements.{count_of, eased_ceilings, given, round_of, giving_way, rounds}

pub count-≤ : (p : ℕ → Bool) (n : ℕ) → count_of p n ≤ n
count-≤ p zero = omega arith
count-≤ p (suc n) = more (count_of p n) (p (n + 1)) (count-≤ p n)
  where
    more : (k : ℕ) (b : Bool) → k ≤ n → k + cond {A = ℕ} b 1 0 ≤ suc n
    more k true h = omega arith
    more k false h = omega arith

-- what later rounds come to, after k rows have given way
abbrev pub further : ℕ → Shown × ℕ → Shown × ℕ
further k p = (p.0, k + p.1)

module _ (le : Cost → Cost → Bool) (dear : Cost → ℕ → Cost) (t : Table) (s : Shown) where
  -- no round has more rows give way than there are grades
  pub giving-≤ : giving_way le dear t s ≤ 32
  giving-≤ =
      let few = count-≤ (λ g. is_some (given le dear t s.rows (figure_at (eased_ceilings le dear t s)) g)) t.grades in
      omega (arith, few, t.graded.1)

  pub rounds_on : (n h k : ℕ) → n ≡ h + 1 → further k (rounds le dear t n s) ≡ further (k + giving_way le dear t s) (rounds le dear t h (round_of le dear t s))
  rounds_on zero h k e = absurd (omega arith)
  rounds_on (suc n) h k e =
      let less : n ≡ h = omega arith in
      let later = rounds le dear t h (round_of le dear t s) in
      let count : k + (giving_way le dear t s + later.1) ≡ k + giving_way le dear t s + later.1 = omega arith in
      ap (λ j. further k ((rounds le dear t j (round_of le dear t s)).0, giving_way le dear t s + (rounds le dear t j (round_of le dear t s)).1)) less
      ∙ ap (λ j. (later.0, j)) count

  pub rounds_spent : (n k : ℕ) → n ≡ 0 → further k (rounds le dear t n s) ≡ (s, k)
  rounds_spent zero k e = let count : k + 0 ≡ k = omega arith in ap (λ j. (s, j)) count
  rounds_spent (suc n) k e = absurd (omega arith)
