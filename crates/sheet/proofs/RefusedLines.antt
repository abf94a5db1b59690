-- The lines at which a sheet can be refused.
use Rattle.std.proofs.Common.{◌≡◌, ℕ, zero, suc, ◌+◌, ◌<◌, ◌≤◌, ◌⊎◌, List, [], ◌∷◌, ◌++◌, length, sym, refl, subst, inl, inr, append_assoc, arith}
use Rattle.std.proofs.lemmas.List.{length-append, length_push}
use Rattle.table.specs.Ranges.{Within}
use Rattle.lines.specs.declared.fault.TextFault.{TextFault}
use Rattle.lines.specs.declared.fault.TextFault.TheVariants as fault
use Rattle.sheet.specs.Due.{Counts, Counted, Slot, grade, row, arc, figure, end, group, slots}
use Rattle.sheet.specs.Refused.{Stops, Headless, HeaderWrong, HeaderTaken, FirstRefused}
use Rattle.sheet.specs.Whole.{Refused, line_of}
use Rattle.sheet.specs.Laws.{LineIn, RefusedLines}
use Rattle.sheet.proofs.Once.{figures_small}

-- a stop at one of n lines from low on, at the line `end` after them, or at what comes after that
abbrev StopIn : ℕ → ℕ → TextFault → Type 0
StopIn low n fault.TooLong = ⊥
StopIn low n (fault.Form l) = Within low (low + n + 1) l
StopIn low n (fault.Range l) = (low ≤ l) × (l < low + n)
StopIn low n (fault.NoLine p) = ⊥

one_more : (low n : ℕ) (f : TextFault) → StopIn (low + 1) n f → StopIn low (suc n) f
one_more low n fault.TooLong p = p
one_more low n (fault.Form l) p = (omega arith, omega arith)
one_more low n (fault.Range l) p = (omega arith, omega arith)
one_more low n (fault.NoLine k) p = p

stops_in : (c : Counts) (ss : List Slot) (l : ℕ) (bs : List ℕ) (f : TextFault) → Stops c (ss ++ end ∷ []) l bs f → StopIn l (length ss) f
stops_in c [] l bs f (inl p) = subst (StopIn l 0) (sym p.1) (omega arith, omega arith)
stops_in c [] l bs f (inr (inl p)) = absurd (p.0.out tt)
stops_in c [] l bs f (inr (inr p)) = subst (StopIn l 0) (sym p.2.1) (omega arith, omega arith)
stops_in c (s ∷ ss) l bs f (inl p) = subst (StopIn l (length (s ∷ ss))) (sym p.1) (omega arith, omega arith)
stops_in c (s ∷ ss) l bs f (inr (inl p)) = subst (StopIn l (length (s ∷ ss))) (sym p.1) (omega arith, omega arith)
stops_in c (s ∷ ss) l bs f (inr (inr p)) = one_more l (length ss) f (stops_in c ss (l + 1) p.0 f p.2)

group_long : (s : ℕ → Slot) (n : ℕ) → length (group s n) ≡ n
group_long s zero = refl
group_long s (suc n) = omega (arith, length_push (group s n) (s n), group_long s n)

-- a line of the longest sheet that is due, or the one after it; a number can be wrong only before the line `end`
abbrev InLine : TextFault → Type 0
InLine fault.TooLong = ⊥
InLine (fault.Form l) = Within 1 675 l
InLine (fault.Range l) = Within 1 673 l
InLine (fault.NoLine p) = ⊥

at_most : (n : ℕ) (f : TextFault) → n ≤ 672 → StopIn 2 n f → InLine f
at_most n fault.TooLong few p = p
at_most n (fault.Form l) few p = (omega arith, omega arith)
at_most n (fault.Range l) few p = (omega arith, omega arith)
at_most n (fault.NoLine k) few p = p

-- all lines that are due before the line `end`
before_end : (c : Counts) → Counted c → (ss : List Slot) × (slots c ≡ ss ++ end ∷ []) × (length ss ≤ 672)
before_end c k =
    let g = group grade c.grades in
    let r = group row c.rows in
    let a = group arc c.arcs in
    let f = group figure c.figures in
    let few = figures_small c k in (
      g ++ (r ++ (a ++ f)),
      regroup g r a f (end ∷ []),
      omega (arith, k.grades, k.rows, k.arcs, length-append g (r ++ (a ++ f)), length-append r (a ++ f), length-append a f, group_long grade c.grades, group_long row c.rows, group_long arc c.arcs, group_long figure c.figures),
    )
  where
    regroup : (g r a f e : List Slot) → g ++ (r ++ (a ++ (f ++ e))) ≡ (g ++ (r ++ (a ++ f))) ++ e
    regroup g r a f e = simp append_assoc

-- the refusal of a text that is not too long
in_line : (bs : List ℕ) (f : TextFault) → (Headless bs × (f ≡ fault.Form 1)) ⊎ ((HeaderWrong bs × (f ≡ fault.Range 1)) ⊎ ((c : Counts) × (rest : List ℕ) × HeaderTaken bs c rest × Stops c (slots c) 2 rest f)) → InLine f
in_line bs f (inl p) = subst InLine (sym p.1) (omega arith, omega arith)
in_line bs f (inr (inl p)) = subst InLine (sym p.1) (omega arith, omega arith)
in_line bs f (inr (inr p)) =
    let c = p.0 in
    let all = before_end c p.2.ranged in
    at_most (length all.0) f all.2 (stops_in c all.0 2 p.1 f (subst (λ ss. Stops c ss 2 p.1 f) all.1 p.3))

line_in : (f : TextFault) → InLine f → LineIn f
line_in fault.TooLong p = tt
line_in (fault.Form l) p = p
line_in (fault.Range l) p = p
line_in (fault.NoLine k) p = p

pub refused_lines : RefusedLines
refused_lines bs f (inl p) = subst LineIn (sym p.1) tt
refused_lines bs f (inr (n, q)) = line_in f (in_line bs f q)

short_in : (n : ℕ) (f : TextFault) → n ≤ 32768 → InLine f → Refused n f
short_in n fault.TooLong short p = absurd p
short_in n (fault.Form l) short p = (short, p)
short_in n (fault.Range l) short p = (short, p)
short_in n (fault.NoLine k) short p = p

-- a first refusal is one that a text of its length can have
pub refused_in : (bs : List ℕ) (f : TextFault) → FirstRefused bs f → Refused (length bs) f
refused_in bs f (inl p) = subst (Refused (length bs)) (sym p.1) p.0
refused_in bs f (inr (n, q)) = short_in (length bs) f n (in_line bs f q)

-- its line is one of the longest sheet, or the one after it, or 0
pub line_small : (n : ℕ) (f : TextFault) → Refused n f → line_of f ≤ 675
line_small n fault.TooLong p = omega arith
line_small n (fault.Form l) p = omega arith
line_small n (fault.Range l) p = omega arith
line_small n (fault.NoLine k) p = absurd p
