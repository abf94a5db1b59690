use Rattle.std.proofs.Common.{ℕ, ◌<◌, ◌≤◌, get_or, take, drop, refl, rules}
use Rattle.std.specs.Int.{IsInRange}
use Rattle.text.proofs.Labels.{run_if, run_other}
use Rattle.text.proofs.read.run.Goals as goal
use Rattle.text.proofs.read.run.Goals.{In_ok-n}

stops : (c : In_ok-n) → c.args.low ≤ get_or c.args.bytes.now c.in_ok-n.n 0 → c.args.high < get_or c.args.bytes.now c.in_ok-n.n 0
stops c = search rules

before : (c : In_ok-n) → (k : ℕ) → k < c.in_ok-n.n → IsInRange c.args.low c.args.high (get_or c.args.bytes.now k 0)
before c = search rules

pub returns-then-not-contains : goal.returns-then-not-contains
returns-then-not-contains c =
    let n = c.in_ok-n.n in
    let bs = c.args.bytes.now in
    let here = (goal.at.returns-then-not-contains c).In_ok-n in
    let many : (0 < n → n ≤ c.args.most → ⊥) = λ some most. search rules in
    run_other c.args.low c.args.high c.args.most c.args.end c.requires bs n (search rules) (before here) (take n bs) (drop n bs) refl refl (stops here) (λ some most _last. many some most)

pub returns : goal.returns
returns c =
    let n = c.in_ok-n.n in
    let bs = c.args.bytes.now in
    let here = (goal.at.returns c).In_ok-n in
    let parts = c.split_at in
    let back = parts.result.1.now in
    let some : 0 < n = search rules in
    let most : n ≤ c.args.most = search rules in
    rw c.then_some.ensures
    (run_if c.args.low c.args.high c.args.most c.args.end c.requires bs n (search rules) (before here) parts.result.0.now back parts.ensures.front parts.ensures.back (stops here) some most _ refl refl _ (λ e. search rules) (λ e same. search rules))
