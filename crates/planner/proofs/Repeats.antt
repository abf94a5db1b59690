-- Sweeps one after another. Assumes nothing.
use Rattle.std.proofs.Common.{◌≡◌, ℕ, zero, suc, ◌+◌, Bool, true, false, cond, ap, ◌∙◌, arith}
use Rattle.rankings.specs.Costs.{Cost}
use Rattle.table.specs.declared.table.Table.{Table}
use Rattle.planner.specs.Sweeps.{Shown, sweep_of, moves, sweeps}

-- what is swept later, after k sweeps
abbrev pub after : ℕ → Shown × (ℕ × Bool) → Shown × (ℕ × Bool)
after k p = (p.0, (p.1.0 + k, p.1.1))

module _ (le : Cost → Cost → Bool) (cheap dear : Cost → ℕ → Cost) (t : Table) (s : Shown) where
  pub sweeps_on : (n h k : ℕ) → n ≡ h + 1 → moves le cheap dear t s ≡ true → after k (sweeps le cheap dear t n s) ≡ after (k + 1) (sweeps le cheap dear t h (sweep_of le cheap dear t s))
  sweeps_on zero h k e m = absurd (omega arith)
  sweeps_on (suc n) h k e m =
      let less : n ≡ h = omega arith in
      let later = sweeps le cheap dear t h (sweep_of le cheap dear t s) in
      let count : later.1.0 + 1 + k ≡ later.1.0 + (k + 1) = omega arith in
      ap (λ b. after k (cond b ((sweeps le cheap dear t n (sweep_of le cheap dear t s)).0, ((sweeps le cheap dear t n (sweep_of le cheap dear t s)).1.0 + 1, (sweeps le cheap dear t n (sweep_of le cheap dear t s)).1.1)) (sweep_of le cheap dear t s, (1, true)))) m
      ∙ ap (λ j. after k ((sweeps le cheap dear t j (sweep_of le cheap dear t s)).0, ((sweeps le cheap dear t j (sweep_of le cheap dear t s)).1.0 + 1, (sweeps le cheap dear t j (sweep_of le cheap dear t s)).1.1))) less
      ∙ ap (λ j. (later.0, (j, later.1.1))) count

  pub sweeps_settle : (n h k : ℕ) → n ≡ h + 1 → moves le cheap dear t s ≡ false → after k (sweeps le cheap dear t n s) ≡ (sweep_of le cheap dear t s, (k + 1, true))
  sweeps_settle zero h k e m = absurd (omega arith)
  sweeps_settle (suc n) h k e m =
      let count : 1 + k ≡ k + 1 = omega arith in
      ap (λ b. after k (cond b ((sweeps le cheap dear t n (sweep_of le cheap dear t s)).0, ((sweeps le cheap dear t n (sweep_of le cheap dear t s)).1.0 + 1, (sweeps le cheap dear t n (sweep_of le cheap dear t s)).1.1)) (sweep_of le cheap dear t s, (1, true)))) m
      ∙ ap (λ j. (sweep_of le cheap dear t s, (j, true))) count

  pub sweeps_spent : (n k : ℕ) → n ≡ 0 → after k (sweeps le cheap dear t n s) ≡ (s, (k, false))
  sweeps_spent zero k e = let count : 0 + k ≡ k = omega arith in ap (λ j. (s, (j, false))) count
  sweeps_spent (suc n) k e = absurd (omega arith)
