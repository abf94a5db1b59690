-- A grade that the grades of a sound table give. Assumes nothing.
use Rattle.std.proofs.Common.{◌≡◌, ◌≤◌, ap, ◌∙◌, arith}
use denote.Ref.{Bor}
use Rattle.table.specs.declared.grade.Grade.{Grade}
use Rattle.table.specs.declared.sound.SoundTable.{SoundTable}

pub grade_is : (g : Grade) (b : Bor SoundTable) (s : SoundTable) → g.sound ≡ b → b.now ≡ s → (g.sound.now ≡ s) × (g.number ≤ s.table.grades)
grade_is g b s e f =
    let same : g.sound.now ≡ s = ap (λ x. x.now) e ∙ f in
    (same, omega (arith, g.among.1, ap (λ x. x.table.grades) same))
