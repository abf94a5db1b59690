-- The first cheapest, as costs are read one after another: alone at first; then it stays, or the new one takes over.
-- Assumes nothing.
use Rattle.std.proofs.Common.{◌≡◌, ℕ, ◌+◌, Bool, true, false, subst, arith, below_more}
use Rattle.rankings.specs.Costs.{Cost}
use Rattle.rankings.specs.Laws.{Ordered}
use Rattle.rankings.specs.Choice.{FirstCheapest}
use Rattle.rankings.proofs.Derived.{reflexive, opposite, dearer_up}

module _ {le : Cost → Cost → Bool} (order : Ordered le) (cost : ℕ → Cost) where
  pub alone : FirstCheapest le cost 1 0
  alone = record {
    among = omega arith;
    no_dearer = λ k h. let e : 0 ≡ k = omega arith in subst (λ (n : ℕ). le (cost 0) (cost n) ≡ true) e (reflexive order (cost 0));
    dearer_before = λ k h. absurd (omega arith);
  }

  pub stays : (n r : ℕ) → FirstCheapest le cost n r → le (cost r) (cost n) ≡ true → FirstCheapest le cost (n + 1) r
  stays n r f e = record { among = omega (arith, f.among); no_dearer = below_more _ n f.no_dearer e; dearer_before = f.dearer_before }

  pub moves : (n r : ℕ) → FirstCheapest le cost n r → le (cost r) (cost n) ≡ false → FirstCheapest le cost (n + 1) n
  moves n r f d = record {
    among = omega arith;
    no_dearer = below_more _ n (λ k h. order.trans (cost n) (cost r) (cost k) (opposite order (cost r) (cost n) d) (f.no_dearer k h)) (reflexive order (cost n));
    dearer_before = λ k h. dearer_up order (cost r) (cost k) (cost n) (f.no_dearer k h) d;
  }
