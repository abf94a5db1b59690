-- Lines that are filed, and lists of what they say. Assumes nothing.
use Rattle.std.proofs.Common.{◌≡◌, ℕ, ◌+◌, ◌-◌, ◌^◌, ◌<◌, Bool, true, not, ◌&&◌, leb, List, [], ◌∷◌, map, length, get_or, nat_abs, Some, None, Ok, Err, Option, Result, sym, refl, ap, ◌∙◌, subst, ⊎_elim, arith}
use Rattle.std.proofs.lemmas.List.{length-map, get_or-map, get_or_past}
use Rattle.std.proofs.lemmas.Option.{none-some}
use Rattle.std.proofs.lemmas.Bool.{cases_lt, and_parts, and_from, leb-true, le-leb, not-false}
use Rattle.std.specs.Result.{IsErrAnd}
use Rattle.rankings.specs.Costs.{Cost, zero}
use Rattle.table.specs.declared.filing.FiledLine.{FiledLine}
use Rattle.table.specs.declared.table.Table.{Table}
use Rattle.table.specs.declared.fault.FiguresFault.{FiguresFault}
use Rattle.table.specs.declared.fault.FiguresFault.TheVariants.{PlanRow, Part, Floor, Ceiling}
use Rattle.table.specs.Chains.{rows_of}
use Rattle.table.specs.Faults.{lowest}
use Rattle.table.specs.Lookahead.{figure_at}
use Rattle.table.specs.Rules.{plan_row, strays, breaks_floor, breaks_ceiling, first_pair, first_stray, first_floor, first_ceiling, or_later}
use Rattle.table.specs.declared.fault.FilingFault.{FilingFault}
use Rattle.table.specs.declared.fault.FilingFault.TheVariants as fault
use Rattle.table.specs.declared.page.Page.{Page}
use Rattle.table.specs.declared.sound.SoundTable.{SoundTable}
use Rattle.table.specs.Ranges.{Within, FirstsIn, FigureIn, FiguresIn}
use Rattle.table.specs.Sound.{Sound}
use Rattle.table.specs.Filing.{no_line, filed_rows, filed_floors, filed_ceilings, is_figure, outsized, Copies, or_part, filing_fault, Filed, FilingKept, FilingTells}
use Rattle.table.proofs.Keeping.{row_in, none_planned, planned_none, none_low, low_none, none_high, high_none, later_none}
use Rattle.table.proofs.Searches.{none_found}
use Rattle.table.proofs.Soundness.{search_none, sound_table}

-- what the line at an index says, which is that of the grade one higher
pub outsized_at : (ls : List FiledLine) (i : ℕ) (l : FiledLine) → i < length ls → l ≡ get_or ls i no_line → outsized ls (i + 1) ≡ not (is_figure l.floor && is_figure l.ceiling)
outsized_at ls i l h e =
    let same : i + 1 - 1 ≡ i = omega arith in
    let low : get_or (filed_floors ls) i zero ≡ l.floor = get_or-map (λ x. x.floor) ls i no_line zero h ∙ ap (λ x. x.floor) (sym e) in
    let high : get_or (filed_ceilings ls) i zero ≡ l.ceiling = get_or-map (λ x. x.ceiling) ls i no_line zero h ∙ ap (λ x. x.ceiling) (sym e) in
    (λ j. not (is_figure (get_or (filed_floors ls) (same j) zero) && is_figure (get_or (filed_ceilings ls) (same j) zero)))
    ∙ (λ j. not (is_figure (low j) && is_figure (high j)))

-- the lists that the lines were copied into are read as the lines are
module _ (le : Cost → Cost → Bool) (t : Table) (ls : List FiledLine) (rows : List ℕ) (copied : Copies (λ l. l.row) 0 ls rows) where
  plan_same : plan_row rows ≡ plan_row (filed_rows ls)
  plan_same = λ j g. copied.1 (g - 1) j

  stray_same : first_stray t rows ≡ first_stray t (filed_rows ls)
  stray_same = ap (λ plan. first_pair (strays t) (λ g. plan g ∷ []) t.grades 1) plan_same

  module _ (ceilings : List Cost) (high : Copies (λ l. l.ceiling) zero ls ceilings) where
    pub ceilings_same : figure_at ceilings ≡ figure_at (filed_ceilings ls)
    ceilings_same = λ j g. high.1 (g - 1) j

    ceiling_same : first_ceiling le t rows ceilings ≡ first_ceiling le t (filed_rows ls) (filed_ceilings ls)
    ceiling_same = λ j. first_pair (breaks_ceiling le t (ceilings_same j)) (λ g. plan_same j g ∷ []) t.grades 1

module _ (le : Cost → Cost → Bool) (t : Table) (ls : List FiledLine) (floors : List Cost) (low : Copies (λ l. l.floor) zero ls floors) where
  pub floors_same : figure_at floors ≡ figure_at (filed_floors ls)
  floors_same = λ j g. low.1 (g - 1) j

  floor_same : first_floor le t floors ≡ first_floor le t (filed_floors ls)
  floor_same = λ j. first_pair (breaks_floor le t (floors_same j)) (rows_of t) t.grades 1

-- the first fault, by what each check answers
later_some : (o : Option (ℕ × ℕ)) (at : ℕ → ℕ → FiguresFault) (later : Option FiguresFault) (e : FiguresFault) → Some e ≡ or_later o at None → or_later o at later ≡ Some e
later_some (Some p) at later e is = sym is
later_some None at later e is = absurd (none-some e (sym is))

part_some : (o : Option ℕ) (later : Option FiguresFault) (e : FiguresFault) → Some e ≡ or_part o None → or_part o later ≡ Some e
part_some (Some g) later e is = sym is
part_some None later e is = absurd (none-some e (sym is))

pub part_none : (o : Option ℕ) (later : Option FiguresFault) → or_part o later ≡ None → (o ≡ None) × (later ≡ None)
part_none (Some g) later e = absurd (none-some (Part g) (sym e))
part_none None later e = (refl, e)

module _ (le : Cost → Cost → Bool) (t : Table) (ls : List FiledLine) where
  fault_stray : (e : FiguresFault) → Some e ≡ or_later (first_stray t (filed_rows ls)) PlanRow None → filing_fault le t ls ≡ Some e
  fault_stray e is = later_some (first_stray t (filed_rows ls)) PlanRow _ e is

  module _ (a : first_stray t (filed_rows ls) ≡ None) where
    fault_part : (e : FiguresFault) → Some e ≡ or_part (lowest (outsized ls) t.grades) None → filing_fault le t ls ≡ Some e
    fault_part e is = ap (λ o. or_later o PlanRow (or_part (lowest (outsized ls) t.grades) (or_later (first_floor le t (filed_floors ls)) Floor (or_later (first_ceiling le t (filed_rows ls) (filed_ceilings ls)) Ceiling None)))) a ∙ part_some (lowest (outsized ls) t.grades) _ e is

    module _ (b : lowest (outsized ls) t.grades ≡ None) where
      passed : filing_fault le t ls ≡ or_later (first_floor le t (filed_floors ls)) Floor (or_later (first_ceiling le t (filed_rows ls) (filed_ceilings ls)) Ceiling None)
      passed = λ j. or_later (a j) PlanRow (or_part (b j) (or_later (first_floor le t (filed_floors ls)) Floor (or_later (first_ceiling le t (filed_rows ls) (filed_ceilings ls)) Ceiling None)))

      fault_floor : (e : FiguresFault) → Some e ≡ or_later (first_floor le t (filed_floors ls)) Floor None → filing_fault le t ls ≡ Some e
      fault_floor e is = passed ∙ later_some (first_floor le t (filed_floors ls)) Floor _ e is

      module _ (d : first_floor le t (filed_floors ls) ≡ None) where
        low : filing_fault le t ls ≡ or_later (first_ceiling le t (filed_rows ls) (filed_ceilings ls)) Ceiling None
        low = passed ∙ ap (λ o. or_later o Floor (or_later (first_ceiling le t (filed_rows ls) (filed_ceilings ls)) Ceiling None)) d

        fault_ceiling : (e : FiguresFault) → Some e ≡ or_later (first_ceiling le t (filed_rows ls) (filed_ceilings ls)) Ceiling None → filing_fault le t ls ≡ Some e
        fault_ceiling e is = low ∙ sym is

        fault_none : first_ceiling le t (filed_rows ls) (filed_ceilings ls) ≡ None → filing_fault le t ls ≡ None
        fault_none e = low ∙ ap (λ o. or_later o Ceiling None) e

-- a refusal that `?` hands on
filed_refused : (le : Cost → Cost → Bool) (s : SoundTable) (ls : List FiledLine) (e : FiguresFault) (r : Result Page FilingFault) → IsErrAnd r (λ x. x ≡ fault.Figures e) → length ls ≡ s.table.grades → filing_fault le s.table ls ≡ Some e → Filed le s ls r
filed_refused le s ls e (Ok p) is long f = absurd is
filed_refused le s ls e (Err x) is long f = subst (λ x. Filed le s ls (Err x)) (sym is) (long, f)

-- what the checks tell of the columns that the lines were copied into
module _ (le : Cost → Cost → Bool) (s : SoundTable) (ls : List FiledLine) (long : length ls ≡ s.table.grades) (rows : List ℕ) (copied : Copies (λ l. l.row) 0 ls rows) where
  plan_passed : None ≡ or_later (first_stray s.table rows) PlanRow None → first_stray s.table (filed_rows ls) ≡ None
  plan_passed e = sym (stray_same le s.table ls rows copied) ∙ (later_none (first_stray s.table rows) PlanRow None (sym e)).0

  pub plan_refused : (e : FiguresFault) → Some e ≡ or_later (first_stray s.table rows) PlanRow None → (r : Result Page FilingFault) → IsErrAnd r (λ x. x ≡ fault.Figures e) → Filed le s ls r
  plan_refused e is r by = filed_refused le s ls e r by long (fault_stray le s.table ls e (is ∙ ap (λ o. or_later o PlanRow None) (stray_same le s.table ls rows copied)))

  module _ (plan : None ≡ or_later (first_stray s.table rows) PlanRow None) where
    pub part_refused : (e : FiguresFault) → Some e ≡ or_part (lowest (outsized ls) (length ls)) None → (r : Result Page FilingFault) → IsErrAnd r (λ x. x ≡ fault.Figures e) → Filed le s ls r
    part_refused e is r by = filed_refused le s ls e r by long (fault_part le s.table ls (plan_passed plan) e (is ∙ ap (λ n. or_part (lowest (outsized ls) n) None) long))

    module _ (ranges : None ≡ or_part (lowest (outsized ls) (length ls)) None) (floors : List Cost) (low : Copies (λ l. l.floor) zero ls floors) where
      parts_passed : lowest (outsized ls) s.table.grades ≡ None
      parts_passed = ap (lowest (outsized ls)) (sym long) ∙ (part_none (lowest (outsized ls) (length ls)) None (sym ranges)).0

      pub floor_refused : (e : FiguresFault) → Some e ≡ or_later (first_floor le s.table floors) Floor None → (r : Result Page FilingFault) → IsErrAnd r (λ x. x ≡ fault.Figures e) → Filed le s ls r
      floor_refused e is r by = filed_refused le s ls e r by long (fault_floor le s.table ls (plan_passed plan) parts_passed e (is ∙ ap (λ o. or_later o Floor None) (floor_same le s.table ls floors low)))

      module _ (lows : None ≡ or_later (first_floor le s.table floors) Floor None) (ceilings : List Cost) (high : Copies (λ l. l.ceiling) zero ls ceilings) where
        floors_passed : first_floor le s.table (filed_floors ls) ≡ None
        floors_passed = sym (floor_same le s.table ls floors low) ∙ (later_none (first_floor le s.table floors) Floor None (sym lows)).0

        pub ceiling_refused : (e : FiguresFault) → Some e ≡ or_later (first_ceiling le s.table rows ceilings) Ceiling None → (r : Result Page FilingFault) → IsErrAnd r (λ x. x ≡ fault.Figures e) → Filed le s ls r
        ceiling_refused e is r by = filed_refused le s ls e r by long (fault_ceiling le s.table ls (plan_passed plan) parts_passed floors_passed e (is ∙ ap (λ o. or_later o Ceiling None) (ceiling_same le s.table ls rows copied ceilings high)))

        pub all_passed : None ≡ or_later (first_ceiling le s.table rows ceilings) Ceiling None → filing_fault le s.table ls ≡ None
        all_passed highs =
            fault_none le s.table ls (plan_passed plan) parts_passed floors_passed
            (sym (ceiling_same le s.table ls rows copied ceilings high) ∙ (later_none (first_ceiling le s.table rows ceilings) Ceiling None (sym highs)).0)

-- the test of a figure's parts is that they are in range
figure_test : (w : Cost) → is_figure w ≡ true → FigureIn w
figure_test w e = let both = and_parts (leb (nat_abs w.0) (10 ^ 10)) (leb (nat_abs w.1) (10 ^ 10)) e in (leb-true (nat_abs w.0) (10 ^ 10) both.0, leb-true (nat_abs w.1) (10 ^ 10) both.1)

test_figure : (w : Cost) → FigureIn w → is_figure w ≡ true
test_figure w h = and_from (leb (nat_abs w.0) (10 ^ 10)) (leb (nat_abs w.1) (10 ^ 10)) (le-leb (nat_abs w.0) (10 ^ 10) h.0) (le-leb (nat_abs w.1) (10 ^ 10) h.1)

pub none_outsized : (ls : List FiledLine) (n : ℕ) → lowest (outsized ls) n ≡ None → (g : ℕ) → Within 1 n g → FigureIn (figure_at (filed_floors ls) g) × FigureIn (figure_at (filed_ceilings ls) g)
none_outsized ls n e g h =
    let low = is_figure (figure_at (filed_floors ls) g) in
    let high = is_figure (figure_at (filed_ceilings ls) g) in
    let both = and_parts low high (not-false (low && high) (none_found (outsized ls) n 1 e g h.0 (omega (arith, h.1)))) in
    (figure_test (figure_at (filed_floors ls) g) both.0, figure_test (figure_at (filed_ceilings ls) g) both.1)

outsized_none : (ls : List FiledLine) (n : ℕ) → ((g : ℕ) → Within 1 n g → FigureIn (figure_at (filed_floors ls) g) × FigureIn (figure_at (filed_ceilings ls) g)) → lowest (outsized ls) n ≡ None
outsized_none ls n h = search_none (outsized ls) n 1 (λ g lo hi.
    let both = h g (lo, omega arith) in
    ap not (and_from (is_figure (figure_at (filed_floors ls) g)) (is_figure (figure_at (filed_ceilings ls) g)) (test_figure (figure_at (filed_floors ls) g) both.0) (test_figure (figure_at (filed_ceilings ls) g) both.1)))

-- what was copied from lines in range is in range
pub copied_in : (f : FiledLine → Cost) (ls : List FiledLine) (xs : List Cost) → Copies f zero ls xs → ((g : ℕ) → Within 1 (length ls) g → FigureIn (figure_at (map f ls) g)) → FiguresIn xs
copied_in f ls xs c each i h =
    ⊎_elim
    (λ lt. let same : i + 1 - 1 ≡ i = omega arith in subst FigureIn (sym (c.1 i)) (subst (λ j. FigureIn (get_or (map f ls) j zero)) same (each (i + 1) (omega arith, omega arith))))
    (λ ge. subst FigureIn (sym (c.1 i ∙ get_or_past (map f ls) i zero (omega (arith, length-map ls f)))) (omega arith, omega arith))
    (cases_lt i (length ls))

-- plan rows of the grades' chains are rows of the table
pub planned_in : (t : Table) → Sound t → (rows : List ℕ) → first_stray t rows ≡ None → FirstsIn t.grades t.rows rows
planned_in t s rows e i h =
    let same : i + 1 - 1 ≡ i = omega arith in
    subst (λ j. Within 1 t.rows (get_or rows j 0)) same (row_in t (i + 1) (plan_row rows (i + 1)) (none_planned (λ a b. true) t s rows e (i + 1) (omega arith, omega arith)))

-- the answer tells whether the rules are kept
module _ (le : Cost → Cost → Bool) (t : Table) (s : Sound t) (ls : List FiledLine) where
  none_filing : length ls ≡ t.grades → filing_fault le t ls ≡ None → FilingKept le t ls
  none_filing long e =
      let a = later_none (first_stray t (filed_rows ls)) PlanRow _ e in
      let b = part_none (lowest (outsized ls) t.grades) _ a.1 in
      let c = later_none (first_floor le t (filed_floors ls)) Floor _ b.1 in
      let d = later_none (first_ceiling le t (filed_rows ls) (filed_ceilings ls)) Ceiling None c.1 in
      let ranged = none_outsized ls t.grades b.0 in
      let p = none_planned le t s (filed_rows ls) a.0 in
      record {
        lines = long;
        floors_in = λ g h. (ranged g h).0;
        ceilings_in = λ g h. (ranged g h).1;
        kept = record { planned = p; low = none_low le t s (filed_floors ls) c.0; high = none_high le t s (filed_rows ls) (filed_ceilings ls) p d.0 };
      }

  filing_none : FilingKept le t ls → filing_fault le t ls ≡ None
  filing_none k =
      let ranged = outsized_none ls t.grades (λ g h. (k.floors_in g h, k.ceilings_in g h)) in
      fault_none le t ls (planned_none le t s (filed_rows ls) k.kept.planned) ranged (low_none le t s (filed_floors ls) k.kept.low) (high_none le t s (filed_rows ls) (filed_ceilings ls) k.kept.planned k.kept.high)

pub filing_tells : (le : Cost → Cost → Bool) (s : SoundTable) (ls : List FiledLine) (r : Result Page FilingFault) → Filed le s ls r → FilingTells le s.table ls r
filing_tells le s ls (Ok p) f = none_filing le s.table (sound_table s) ls f.0 f.1
filing_tells le s ls (Err fault.Lines) f = λ k. f k.lines
filing_tells le s ls (Err (fault.Figures e)) f = λ k. none-some e (sym (filing_none le s.table (sound_table s) ls k) ∙ f.1)
