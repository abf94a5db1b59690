use Rattle.std.proofs.Common.{◌≡◌, ◌-◌, length, None, sym, refl, arith}
use Rattle.table.specs.declared.fault.FiguresFault.TheVariants.{PlanRow}
use Rattle.table.specs.Faults.{lowest}
use Rattle.table.specs.Filing.{outsized}
use Rattle.table.specs.Rules.{first_stray}
use Rattle.table.proofs.Filings.{plan_refused, part_refused, floor_refused, ceiling_refused, all_passed, part_none, none_outsized, copied_in, planned_in}
use Rattle.table.proofs.Keeping.{later_none}
use Rattle.table.proofs.Soundness.{sound_table}
use Rattle.table.proofs.filing.filed_page.Goals as goal

pub returns-in_err-check_plan : goal.returns-in_err-check_plan
returns-in_err-check_plan g c =
    plan_refused (g.R.Ranking.ranks c.args.ranking.now) c.args.sound.now c.args.lines.now (omega arith) c.columns.result.0 c.columns.ensures.rows c.in_err-check_plan.field-0.0 c.in_err-check_plan.ensures
    c.from_residual.result c.from_residual.ensures.1

pub returns-in_err-check_ranges : goal.returns-in_err-check_ranges
returns-in_err-check_ranges g c =
    part_refused (g.R.Ranking.ranks c.args.ranking.now) c.args.sound.now c.args.lines.now (omega arith) c.columns.result.0 c.columns.ensures.rows c.in_ok-check_plan.ensures
    c.in_err-check_ranges.field-0.0 c.in_err-check_ranges.ensures c.from_residual-in_err-check_ranges.result c.from_residual-in_err-check_ranges.ensures.1

pub invariant_of-floor : goal.invariant_of-floor
invariant_of-floor g c =
    let ls = c.args.lines.now in
    let none = (part_none (lowest (outsized ls) (length ls)) None (sym c.in_ok-check_ranges.ensures)).0 in
    record { within = copied_in (λ l. l.floor) ls c.columns.result.1 c.columns.ensures.floors (λ g h. (none_outsized ls (length ls) none g h).0); long = c.columns.ensures.floors.0 }

pub returns-in_err-check_floors : goal.returns-in_err-check_floors
returns-in_err-check_floors g c =
    floor_refused (g.R.Ranking.ranks c.args.ranking.now) c.args.sound.now c.args.lines.now (omega arith) c.columns.result.0 c.columns.ensures.rows c.in_ok-check_plan.ensures c.in_ok-check_ranges.ensures c.columns.result.1 c.columns.ensures.floors
    c.in_err-check_floors.field-0.0 c.in_err-check_floors.ensures c.from_residual-in_err-check_floors.result c.from_residual-in_err-check_floors.ensures.1

pub invariant_of-ceiling : goal.invariant_of-ceiling
invariant_of-ceiling g c =
    let ls = c.args.lines.now in
    let none = (part_none (lowest (outsized ls) (length ls)) None (sym c.in_ok-check_ranges.ensures)).0 in
    record { within = copied_in (λ l. l.ceiling) ls c.columns.result.2 c.columns.ensures.ceilings (λ g h. (none_outsized ls (length ls) none g h).1); long = c.columns.ensures.ceilings.0 }

pub returns-in_err-check_ceilings : goal.returns-in_err-check_ceilings
returns-in_err-check_ceilings g c =
    ceiling_refused (g.R.Ranking.ranks c.args.ranking.now) c.args.sound.now c.args.lines.now (omega arith) c.columns.result.0 c.columns.ensures.rows c.in_ok-check_plan.ensures c.in_ok-check_ranges.ensures c.columns.result.1 c.columns.ensures.floors c.in_ok-check_floors.ensures
    c.columns.result.2 c.columns.ensures.ceilings c.in_err-check_ceilings.field-0.0 c.in_err-check_ceilings.ensures c.from_residual-in_err-check_ceilings.result c.from_residual-in_err-check_ceilings.ensures.1

pub invariant_of-result : goal.invariant_of-result
invariant_of-result g c =
    let s = c.args.sound.now in
    let rows = c.columns.result.0 in
    record { planned = planned_in s.table (sound_table s) rows (later_none (first_stray s.table rows) PlanRow None (sym c.in_ok-check_plan.ensures)).0 }

pub returns : goal.returns
returns g c =
    let s = c.args.sound.now in
    let ls = c.args.lines.now in
    let copied = c.columns.ensures in
    let long : length ls ≡ s.table.grades = omega arith in (
      long,
      all_passed (g.R.Ranking.ranks c.args.ranking.now) s ls long c.columns.result.0 copied.rows c.in_ok-check_plan.ensures c.in_ok-check_ranges.ensures c.columns.result.1 copied.floors c.in_ok-check_floors.ensures
          c.columns.result.2 copied.ceilings c.in_ok-check_ceilings.ensures,
      refl,
      record { rows = λ j. copied.rows.1 (j - 1); floors = λ j. copied.floors.1 (j - 1); ceilings = λ j. copied.ceilings.1 (j - 1) },
    )
