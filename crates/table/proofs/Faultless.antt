-- What a table without a fault keeps. Assumes nothing.
use Rattle.std.proofs.Common.{◌≡◌, ℕ, false, eqb, is_some, Some, None, Option, refl, arith}
use Rattle.std.proofs.lemmas.Bool.{true≢false, not-false, eqb-true}
use Rattle.table.specs.declared.table.Table.{Table}
use Rattle.table.specs.declared.fault.TableFault.{TableFault}
use Rattle.table.specs.Ranges.{Within}
use Rattle.table.specs.Chains.{arcs_of, weights}
use Rattle.table.specs.declared.fault.TableFault.TheVariants.{RowPointers, LooseRow, ArcPointers, LooseArc, Weights}
use Rattle.table.specs.Faults.{or_else, lowest, mispointed, loose, unbalanced, row_pointers, arc_pointers, reached_rows, reached_arcs, weight_fault, loose_arc_fault, arc_pointer_fault, loose_row_fault, table_fault}
use Rattle.table.proofs.Searches.{none_found}

neither : (o : Option ℕ) (at : ℕ → TableFault) (later : Option TableFault) → is_some (or_else o at later) ≡ false → (o ≡ None) × (is_some later ≡ false)
neither (Some k) at later e = absurd (true≢false e)
neither None at later e = (refl, e)

pub no_fault : (o : Option TableFault) → is_some o ≡ false → o ≡ None
no_fault (Some f) e = absurd (true≢false e)
no_fault None e = refl

-- each search of the check has found nothing
module _ (t : Table) (e : is_some (table_fault t) ≡ false) where
  pub from_rows : (lowest (mispointed (row_pointers t)) t.rows ≡ None) × (is_some (loose_row_fault t) ≡ false)
  from_rows = neither (lowest (mispointed (row_pointers t)) t.rows) RowPointers (loose_row_fault t) e

  pub from_loose_rows : (lowest (loose (reached_rows t)) t.rows ≡ None) × (is_some (arc_pointer_fault t) ≡ false)
  from_loose_rows = neither (lowest (loose (reached_rows t)) t.rows) LooseRow (arc_pointer_fault t) from_rows.1

  pub from_arcs : (lowest (mispointed (arc_pointers t)) t.arcs ≡ None) × (is_some (loose_arc_fault t) ≡ false)
  from_arcs = neither (lowest (mispointed (arc_pointers t)) t.arcs) ArcPointers (loose_arc_fault t) from_loose_rows.1

  pub from_loose_arcs : (lowest (loose (reached_arcs t)) t.arcs ≡ None) × (is_some (weight_fault t) ≡ false)
  from_loose_arcs = neither (lowest (loose (reached_arcs t)) t.arcs) LooseArc (weight_fault t) from_arcs.1

  pub from_weights : lowest (unbalanced t) t.rows ≡ None
  from_weights = (neither (lowest (unbalanced t) t.rows) Weights None from_loose_arcs.1).0

  -- the weights of each row's arcs sum to the total
  pub balanced : (k : ℕ) → Within 1 t.rows k → weights t (arcs_of t k) ≡ t.total
  balanced k h =
      eqb-true (weights t (arcs_of t k)) t.total
      (not-false (eqb (weights t (arcs_of t k)) t.total) (none_found (unbalanced t) t.rows 1 from_weights k h.0 (omega arith)))
