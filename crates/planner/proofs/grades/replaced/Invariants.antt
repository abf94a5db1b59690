use Rattle.std.proofs.Common.{◌≡◌, ◌-◌, ◌<◌, ℕ, Option, length}
use Rattle.planner.specs.Sweeps.{applied}
use Rattle.planner.proofs.grades.replaced.Given as goal

abbrev pub invariant-loop-i : goal.invariant-loop-i
invariant-loop-i g l = (length l.new ≡ 32)
    × ((f : ℕ → Option g.row.T.Denot) → ((i : ℕ) (r : Option g.row.T.Denot) → i < l.n → goal.F-post g l.by i r → r ≡ f i) → l.new ≡ applied (λ k. f (k - 1)) l.i l.entries)
