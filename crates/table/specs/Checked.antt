-- What the check of a table answers. Assumes nothing.
use Rattle.std.specs.Prelude.{◌≡◌, Some, None, Ok, Err, Result}
use Rattle.table.specs.declared.table.Table.{Table}
use Rattle.table.specs.declared.sound.SoundTable.{SoundTable}
use Rattle.table.specs.declared.fault.TableFault.{TableFault}
use Rattle.table.specs.Faults.{table_fault}

-- the table itself where it has no fault, and else the first one
abbrev pub Checked : Table → Result SoundTable TableFault → Type 0
Checked t (Ok s) = (table_fault t ≡ None) × (s.table ≡ t)
Checked t (Err e) = table_fault t ≡ Some e
