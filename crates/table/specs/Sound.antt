-- A sound table, in words of pointers and chains. Assumes nothing.
use Rattle.std.specs.Prelude.{◌≡◌, ℕ, ◌<◌, ◌≤◌, true, List, [], ◌∷◌, None}
use Rattle.table.specs.declared.table.Table.{Table}
use Rattle.table.specs.Ranges.{Within}
use Rattle.table.specs.Chains.{first_row, next_row, row_at, next_arc, rows_of, arcs_of, weights}
use Rattle.table.specs.Faults.{count, row_pointers, arc_pointers, table_fault}
use Rattle.table.specs.Rules.{has}

-- a chain starts at k, goes on by next, and ends where next is 0
abbrev pub Chain : (ℕ → ℕ) → ℕ → List ℕ → Type 0
Chain next k [] = k ≡ 0
Chain next k (x ∷ xs) = (x ≡ k) × (0 < k) × Chain next (next k) xs

-- k lies in the chain that starts at first
pub record InChain (next : ℕ → ℕ) (first k : ℕ) : Type 0 where
  pub chain : List ℕ
  pub is : Chain next first chain
  pub among : has k chain ≡ true

pub record Sound (t : Table) : Type 0 where
  -- exactly one first-row or next index points to each row, and each row lies in some grade's chain
  pub row_pointed : (k : ℕ) → Within 1 t.rows k → count k (row_pointers t) ≡ 1
  pub row_chained : (k : ℕ) → Within 1 t.rows k → (g : ℕ) × (Within 1 t.grades g × InChain (next_row t) (first_row t g) k)
  -- the same for arcs, with the rows' first arcs
  pub arc_pointed : (x : ℕ) → Within 1 t.arcs x → count x (arc_pointers t) ≡ 1
  pub arc_chained : (x : ℕ) → Within 1 t.arcs x → (k : ℕ) × (Within 1 t.rows k × InChain (next_arc t) (row_at t k).first_arc x)
  -- the weights of each row's arcs sum to the total
  pub weighed : (k : ℕ) → Within 1 t.rows k → (xs : List ℕ) → Chain (next_arc t) (row_at t k).first_arc xs → weights t xs ≡ t.total

-- each walk along a chain meets just the chain's rows (arcs), each once
pub record Walked (t : Table) : Type 0 where
  pub rows : (g : ℕ) → Within 1 t.grades g → Chain (next_row t) (first_row t g) (rows_of t g)
  pub rows_once : (g : ℕ) → Within 1 t.grades g → (k : ℕ) → count k (rows_of t g) ≤ 1
  pub arcs : (k : ℕ) → Within 1 t.rows k → Chain (next_arc t) (row_at t k).first_arc (arcs_of t k)
  pub arcs_once : (k : ℕ) → Within 1 t.rows k → (x : ℕ) → count x (arcs_of t k) ≤ 1

-- the check finds no fault exactly where the table is sound
abbrev pub SoundExactly : Type 0
SoundExactly = (t : Table) → (table_fault t ≡ None → Sound t) × (Sound t → table_fault t ≡ None)
