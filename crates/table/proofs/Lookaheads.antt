-- X is told of each row. Assumes nothing.
use Rattle.std.proofs.Common.{◌≡◌, ℕ, true, leb, Some, None}
use Rattle.std.proofs.lemmas.Bool.{and_from, le-leb, cond-true}
use Rattle.rankings.specs.Costs.{Cost}
use Rattle.table.specs.declared.table.Table.{Table}
use Rattle.table.specs.Ranges.{Within}
use Rattle.table.specs.Lookahead.{X, is_row, lookahead_of}

pub ahead_some : (t : Table) (k : ℕ) (w : ℕ → Cost) → Within 1 t.rows k → lookahead_of t k w ≡ Some (X t k w)
ahead_some t k w h =
    let row : is_row t k ≡ true = and_from (leb 1 k) (leb k t.rows) (le-leb 1 k h.0) (le-leb k t.rows h.1) in
    cond-true (is_row t k) (Some (X t k w)) None row

-- what is told of a row is X
pub ahead_is : (t : Table) (k : ℕ) (w : ℕ → Cost) (c : Cost) → Within 1 t.rows k → Some c ≡ lookahead_of t k w → c ≡ X t k w
ahead_is t k w c h e = let x = ahead_some t k w h in cc
