-- Walks along chains of what is linked by numbers from 1. Assumes nothing.
use Rattle.std.specs.Prelude.{◌≡◌, ℕ, ◌-◌, List, [], ◌∷◌, length, slice_index_or}
use Rattle.table.specs.declared.walk.Walk.{Walk}
use Rattle.table.specs.declared.rows.Row.{Row}
use Rattle.table.specs.declared.rows.Arc.{Arc}
use Rattle.table.specs.Ranges.{Within, row0, arc0}
use Rattle.table.specs.Chains.{walk}

-- each of a list of numbers lies from 1 to n
abbrev pub AllIn : ℕ → List ℕ → Type 0
AllIn n [] = Unit {0}
AllIn n (k ∷ ks) = Within 1 n k × AllIn n ks

-- the chain that starts at first; `none` stands for a link past the end
abbrev pub chain_from : {T : Type 0} → (T → ℕ) → T → List T → ℕ → List ℕ
chain_from next none links first = walk (λ k. next (slice_index_or links (k - 1) none)) (length links) first

-- what a walk has still to give
abbrev pub ahead : {T : Type 0} → (T → ℕ) → T → Walk T → List ℕ
ahead next none s = walk (λ k. next (slice_index_or s.links.now (k - 1) none)) s.left s.at

abbrev pub rows_ahead : Walk Row → List ℕ
rows_ahead = ahead (λ r. r.next) row0

abbrev pub arcs_ahead : Walk Arc → List ℕ
arcs_ahead = ahead (λ x. x.next) arc0

-- a walk along a chain of numbers from 1 to n: what is ahead is the chain, and it may be followed
pub record Along {T : Type 0} (rest : Walk T → List ℕ) (n : ℕ) (chain : List ℕ) (w : Walk T) : Type 0 where
  pub is : rest w ≡ chain
  pub within : AllIn n chain
  pub can : AllIn (length w.links.now) (rest w)
