use Rattle.std.proofs.Common.{◌≡◌, ℕ, sym, refl, arith}
use Rattle.table.proofs.Soundness.{sound_exactly, walked}
use Rattle.table.proofs.check.check_table.Goals as goal

pub returns-in-Some : goal.returns-in-Some
returns-in-Some c =
    let t = c.args.table.now in
    let found = sym c.in-Some.ensures in
    record { answer = found; sound = λ s. let none = (sound_exactly t).1 s in let z : ◌≡◌ {A = ℕ} 0 1 = cc in omega arith; walks = tt }

pub returns-in-None : goal.returns-in-None
returns-in-None c =
    let t = c.args.table.now in
    let none = sym c.in-None.ensures in
    record { answer = (none, refl); sound = (sound_exactly t).0 none; walks = walked t ((sound_exactly t).0 none) }
