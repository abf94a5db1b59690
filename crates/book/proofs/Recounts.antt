-- What a recount comes to: a sheet is opened, swept and written. Assumes nothing.
use Rattle.std.proofs.Common.{◌≡◌, ℕ, ◌+◌, ◌^◌, ◌<◌, ◌≤◌, true, List, [], ◌∷◌, ◌++◌, length, Some, None, Ok, Err, codes, decimal, Option, Result, append_assoc, refl, subst, arith}
use Rattle.std.proofs.lemmas.Fmt.{length-decimal-le}
use Rattle.std.proofs.lemmas.List.{length-append}
use Rattle.rankings.specs.Models.{by_money, both_down, both_up}
use Rattle.text.specs.Fields.{natural_text}
use Rattle.text.specs.Writing.{Writes}
use Rattle.text.proofs.Writing.{writes_then}
use Rattle.table.specs.declared.page.Page.{Page}
use Rattle.table.specs.declared.fault.TableFault.TheVariants.{RowPointers, LooseRow, ArcPointers, LooseArc, Weights}
use Rattle.table.specs.declared.fault.FiguresFault.TheVariants.{PlanRow, Part, Floor, Ceiling}
use Rattle.lines.specs.declared.fault.TextFault.TheVariants.{TooLong, Form, Range, NoLine}
use Rattle.sheet.specs.declared.write_fault.WriteFault.TheVariants.{OldSheet, Room}
use Rattle.book.specs.declared.calls.SweepCount.{SweepCount}
use Rattle.book.specs.declared.refusal.Refusal.{Refusal}
use Rattle.book.specs.declared.refusal.Refusal.TheVariants.{Text, Table, Figures, NoTable, Sweeps, Write}
use Rattle.book.specs.Calls.{Opened, SweptBook, Written, OldLine}
use Rattle.book.specs.Printing.{refusal_text, Recounted, RecountTold}
use Rattle.book.proofs.Rewriting.{written_over, left_over}
use Rattle.book.specs.Refusals.{number_of, layer_of, places_of, refusal_words}

pub recounts : (sheet out after : List ℕ) (before opened swept : Option Page) (c : SweepCount) (r : Result ℕ Refusal) → Opened by_money sheet before (Ok tt) opened → SweptBook by_money both_down both_up 200 opened (Ok c) swept → Written true sheet swept out r after → Recounted sheet out r after
recounts sheet out after before None swept c r o s w = absurd o
recounts sheet out after before (Some p) None c r o s w = absurd s.2
recounts sheet out after before (Some p) (Some q) c (Ok n) o s w = (q, (record { opened = p; says = o; count = c; swept = s.2 }, w))
recounts sheet out after before (Some p) (Some q) c (Err (Write f)) o s w = left_over out sheet after q.sound.table (Some q.figures) f w
recounts sheet out after before (Some p) (Some q) c (Err (Text f)) o s w = absurd w
recounts sheet out after before (Some p) (Some q) c (Err (Table f)) o s w = absurd w
recounts sheet out after before (Some p) (Some q) c (Err (Figures f)) o s w = absurd w
recounts sheet out after before (Some p) (Some q) c (Err NoTable) o s w = absurd w
recounts sheet out after before (Some p) (Some q) c (Err Sweeps) o s w = absurd w

-- what a sheet opens to is never refused by the writing
pub recounts_told : (sheet out after : List ℕ) (before opened swept : Option Page) (c : SweepCount) (r : Result ℕ Refusal) → Opened by_money sheet before (Ok tt) opened → SweptBook by_money both_down both_up 200 opened (Ok c) swept → Written true sheet swept out r after → OldLine sheet swept r → length out ≡ 32768 → RecountTold sheet r
recounts_told sheet out after before None swept c r o s w l long = absurd o
recounts_told sheet out after before (Some p) None c r o s w l long = absurd s.2
recounts_told sheet out after before (Some p) (Some q) c (Ok n) o s w l long = tt
recounts_told sheet out after before (Some p) (Some q) c (Err (Write f)) o s w l long = absurd (written_over by_money sheet out after p q o.0 f long o.1 s.2.0 w l)
recounts_told sheet out after before (Some p) (Some q) c (Err (Text f)) o s w l long = absurd w
recounts_told sheet out after before (Some p) (Some q) c (Err (Table f)) o s w l long = absurd w
recounts_told sheet out after before (Some p) (Some q) c (Err (Figures f)) o s w l long = absurd w
recounts_told sheet out after before (Some p) (Some q) c (Err NoTable) o s w l long = absurd w
recounts_told sheet out after before (Some p) (Some q) c (Err Sweeps) o s w l long = absurd w

-- a natural number and the byte that ends it
count_long : (end k n : ℕ) → 0 < k → n < 10 ^ k → n < 2 ^ 64 → length (natural_text end n) ≤ k + 1
count_long end k n some small fits = omega (arith, length-append (decimal n) (end ∷ []), length-decimal-le k n some small fits)

few_numbers : (e : Refusal) → number_of e < 100
few_numbers (Text TooLong) = omega arith
few_numbers (Text (Form l)) = omega arith
few_numbers (Text (Range l)) = omega arith
few_numbers (Text (NoLine p)) = omega arith
few_numbers (Table (RowPointers k)) = omega arith
few_numbers (Table (LooseRow k)) = omega arith
few_numbers (Table (ArcPointers x)) = omega arith
few_numbers (Table (LooseArc x)) = omega arith
few_numbers (Table (Weights k)) = omega arith
few_numbers (Figures (PlanRow g k)) = omega arith
few_numbers (Figures (Part g)) = omega arith
few_numbers (Figures (Floor g k)) = omega arith
few_numbers (Figures (Ceiling g k)) = omega arith
few_numbers NoTable = omega arith
few_numbers Sweeps = omega arith
few_numbers (Write (OldSheet l)) = omega arith
few_numbers (Write (Room n)) = omega arith

few_layers : (e : Refusal) → layer_of e < 10
few_layers (Text f) = omega arith
few_layers (Table f) = omega arith
few_layers (Figures f) = omega arith
few_layers NoTable = omega arith
few_layers Sweeps = omega arith
few_layers (Write f) = omega arith

-- the line of a refusal is short
pub refusal_short : (e : Refusal) (r : ℕ × ℕ) → r ≡ places_of e → r.0 < 2 ^ 64 → r.1 < 2 ^ 64 → length (refusal_text e) ≤ 64
refusal_short e r is fits fits' =
    let t = codes "no " in
    let n = natural_text 32 (number_of e) in
    let l = natural_text 32 (layer_of e) in
    let p = natural_text 32 (places_of e).0 in
    let q = natural_text 10 (places_of e).1 in
    let one : (places_of e).0 < 2 ^ 64 = subst (λ x. x.0 < 2 ^ 64) is fits in
    let two : (places_of e).1 < 2 ^ 64 = subst (λ x. x.1 < 2 ^ 64) is fits' in
    let three : length t ≡ 3 = refl in
    omega (
      arith,
      three,
      count_long 32 2 (number_of e) (omega arith) (omega (arith, few_numbers e)) (omega (arith, few_numbers e)),
      count_long 32 1 (layer_of e) (omega arith) (omega (arith, few_layers e)) (omega (arith, few_layers e)),
      count_long 32 20 (places_of e).0 (omega arith) (omega (arith, one)) one,
      count_long 10 20 (places_of e).1 (omega arith) (omega (arith, two)) two,
      length-append (((t ++ n) ++ l) ++ p) q,
      length-append ((t ++ n) ++ l) p,
      length-append (t ++ n) l,
      length-append t n,
    )

-- the line of a refusal is what `Display` writes, and the end of the line
pub line_displayed : (e : Refusal) → refusal_text e ≡ refusal_words e ++ 10 ∷ []
line_displayed e = simp append_assoc

-- a refusal's line in the numbers that are written
abbrev line_of : (n l : ℕ) (places : ℕ × ℕ) → List ℕ
line_of n l places = (((codes "no " ++ natural_text 32 n) ++ natural_text 32 l) ++ natural_text 32 places.0) ++ natural_text 10 places.1

-- its numbers as they are written
module _ (e : Refusal) (n l : ℕ) (places : ℕ × ℕ) (number : n ≡ number_of e) (layer : l ≡ layer_of e) (at : places ≡ places_of e) where
  same : line_of n l places ≡ refusal_text e
  same = λ i. line_of (number i) (layer i) (at i)

  pub line_written : (x0 x1 x2 x3 x4 x5 : List ℕ) (a1 a2 a3 a4 : ℕ) (r : Option ℕ) → Writes x0 0 (codes "no ") (Some a1) x1 → Writes x1 a1 (natural_text 32 n) (Some a2) x2 → Writes x2 a2 (natural_text 32 l) (Some a3) x3 → Writes x3 a3 (natural_text 32 places.0) (Some a4) x4 → Writes x4 a4 (natural_text 10 places.1) r x5 → Writes x0 0 (refusal_text e) r x5
  line_written x0 x1 x2 x3 x4 x5 a1 a2 a3 a4 r w1 w2 w3 w4 w5 =
      let front2 = writes_then x0 0 (codes "no ") x1 a1 w1 (natural_text 32 n) (Some a2) x2 w2 in
      let front3 = writes_then x0 0 (codes "no " ++ natural_text 32 n) x2 a2 front2 (natural_text 32 l) (Some a3) x3 w3 in
      let front4 = writes_then x0 0 ((codes "no " ++ natural_text 32 n) ++ natural_text 32 l) x3 a3 front3 (natural_text 32 places.0) (Some a4) x4 w4 in
      subst (λ t. Writes x0 0 t r x5) same (writes_then x0 0 (((codes "no " ++ natural_text 32 n) ++ natural_text 32 l) ++ natural_text 32 places.0) x4 a4 front4 (natural_text 10 places.1) r x5 w5)
