use Rattle.std.proofs.Common.{◌≡◌, ℕ, ◌<◌, cond, get_or, drop, pos, refl, sym, ap, subst, arith, rules}
use Rattle.table.specs.Filing.{no_line}
use Rattle.sheet.specs.Due.{figure, group}
use Rattle.sheet.specs.Halts.{counts_of}
use Rattle.sheet.specs.Read.{GroupRead, figure_said}
use Rattle.sheet.specs.Refused.{Through}
use Rattle.sheet.proofs.GroupSteps.{group_through}
use Rattle.sheet.proofs.Kept.{plans_in, floors_in, ceilings_in, figures_told}
use Rattle.sheet.proofs.figure_reading.read_figures.Goals as goal
use Rattle.sheet.proofs.figure_reading.read_figures.Goals.{After-map, After-map-2, After-map-3}

-- each part of the figures that were kept
rows_are : (c : After-map) (i : ℕ) → i < 32 → get_or c.map.result i 0 ≡ (get_or c.read_group.new.kept i no_line).row
rows_are c i lt = let h = c.map.ensures.items.at i no_line 0 lt in search rules

floors_are : (c : After-map-2) (i : ℕ) → i < 32 → get_or c.map-2.result i (pos 0, pos 0) ≡ (get_or c.read_group.new.kept i no_line).floor
floors_are c i lt = let h = c.map-2.ensures.items.at i no_line (pos 0, pos 0) lt in search rules

ceilings_are : (c : After-map-3) (i : ℕ) → i < 32 → get_or c.map-3.result i (pos 0, pos 0) ≡ (get_or c.read_group.new.kept i no_line).ceiling
ceilings_are c i lt = let h = c.map-3.ensures.items.at i no_line (pos 0, pos 0) lt in search rules

pub invariant_of-figures : goal.invariant_of-figures
invariant_of-figures c =
    record { within = floors_in _ _ _ _ _ _ c.read_group.new.kept c.in_ok-at.ensures c.map-2.result (floors_are (goal.at.invariant_of-figures c).After-map-2); long = c.map-2.ensures.items.long }

pub invariant_of-figures-2 : goal.invariant_of-figures-2
invariant_of-figures-2 c =
    record { within = ceilings_in _ _ _ _ _ _ c.read_group.new.kept c.in_ok-at.ensures c.map-3.result (ceilings_are (goal.at.invariant_of-figures-2 c).After-map-3); long = c.map-3.ensures.items.long }

pub returns-then-not-header : goal.returns-then-not-header
returns-then-not-header c =
    let k = counts_of c.args.header.now in
    let bs = drop c.args.at c.args.sheet.now in
    let none : k.figures ≡ 0 = ap (λ b. cond b c.args.header.now.grades 0) c.if-not-header.true in
    record { planned = tt; counted = none; ends = c.requires.place; text = refl; through = subst (λ n. Through k (group figure n) bs bs) (sym none) refl }

pub returns : goal.returns
returns c =
    let at = goal.at.returns c in
    let h = c.args.header.now in
    let k = counts_of h in
    let sheet = c.args.sheet.now in
    let xs = c.read_group.new.kept in
    let next = c.in_ok-at.at in
    let all : k.figures ≡ h.grades = ap (λ b. cond b h.grades 0) c.if-not-header.false in
    let read = subst (λ n. GroupRead k figure figure_said sheet c.args.at n no_line xs c.read_group.new.labels next) all c.in_ok-at.ensures in
    record {
      planned = plans_in _ _ _ _ _ _ xs read c.map.result (rows_are at.After-map) (omega arith);
      counted = all;
      ends = read.ends;
      text = figures_told _ _ _ _ _ _ xs read c.map.result c.map-2.result c.map-3.result (rows_are at.After-map) (floors_are at.After-map-2) (ceilings_are at.After-map-3) (omega arith);
      through = group_through k figure figure_said sheet no_line _ _ _ _ _ c.in_ok-at.ensures;
    }
