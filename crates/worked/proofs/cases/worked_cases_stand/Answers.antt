use Rattle.std.proofs.Common.{refl}
use Rattle.worked.proofs.cases.worked_cases_stand.Goals as goal

-- each case by computing both sides
pub returns : goal.returns
returns c = record {
  answer = tt;
  cases = record {
    two_grades_sound = refl;
    one_grade_sound = refl;
    at_start = record { plan = refl; low = refl; high = refl };
    one_sweep = record { plan = refl; low = refl; high = refl };
    two_sweeps = record { plan = refl; low = refl; high = refl };
    settled = record { plan = refl; low = refl; high = refl };
    settled_after = refl;
    one_round = record { plan = refl; low = refl; high = refl };
    one_gives_way = refl;
    exact_taken = refl;
    floor_refused = refl;
    ceiling_refused = refl;
    equal_money = refl;
    fewer_minutes = refl;
    down_below_zero = refl;
    up_below_zero = refl;
  };
}
