use Rattle.std.proofs.Common.{◌≡◌, ◌≤◌}
use Rattle.planner.specs.Grades.{Given}
use Rattle.planner.proofs.grades.per_grade.Given as goal

abbrev pub invariant-loop-grade : goal.invariant-loop-grade
invariant-loop-grade g l = (l.grade-iterator.sound.now ≡ l.sound) × (l.grade-iterator.passed ≤ l.sound.table.grades)
    × Given l.grade-iterator.passed l.sound (goal.F-post g l.give) l.given
