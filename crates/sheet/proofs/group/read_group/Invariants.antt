use Rattle.std.proofs.Common.{◌≡◌, length}
use Rattle.sheet.specs.Halts.{counts_of}
use Rattle.sheet.specs.Read.{GroupRead}
use Rattle.sheet.proofs.group.read_group.Given as goal

abbrev pub invariant-loop-i : goal.invariant-loop-i
invariant-loop-i g l = (length l.kept ≡ length l.initial.kept) × (length l.labels ≡ length l.initial.labels) × GroupRead (counts_of l.header) g.G.Group.slot g.G.Group.said l.sheet l.initial.at l.i g.G.Group.EMPTY l.kept l.labels l.at
