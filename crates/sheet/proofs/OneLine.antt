-- One line of a sheet: of which kind it is, where its label lies, and what is kept of it.
use Rattle.std.proofs.Common.{◌≡◌, ℕ, ◌+◌, ◌-◌, ◌<◌, ◌≤◌, List, [], ◌∷◌, ◌++◌, length, take, drop, Some, None, Ok, Err, Option, Result, refl, sym, ap, ◌∙◌, subst, inl, inr, arith}
use Rattle.std.specs.Option.{ok_or}
use Rattle.text.specs.Reading.{Reads}
use Rattle.text.proofs.Reading.{refused, returned, not_some, same_pair}
use Rattle.lines.specs.declared.fault.TextFault.{TextFault}
use Rattle.lines.specs.declared.fault.TextFault.TheVariants as fault
use Rattle.lines.specs.declared.records.HeaderLine.{HeaderLine}
use Rattle.lines.specs.declared.records.Line.{Line}
use Rattle.lines.specs.declared.records.Line.TheVariants as line
use Rattle.lines.specs.Lines.{Entry, HeaderOf, header, end, line_text, blank, four_text, Good, entry_of, grade_of, row_of}
use Rattle.lines.specs.Places.{label_of}
use Rattle.sheet.specs.Due.{Counts, Slot, Said, entry, Ranged}
use Rattle.sheet.specs.Halts.{LineFault}
use Rattle.sheet.specs.Read.{RangedOf, KeptOf, span_of, LineRead}
use Rattle.sheet.specs.Render.{part_of}
use Rattle.sheet.proofs.Parts.{label_part, grade_front, row_front}

-- what is read at the front is read as a line of one kind, where it is of that kind, and else as none
module _ {A : Type 0} (G : A → Type 0) (mk : A → Entry) (to : (a : A) → Good (mk a) → G a) (fro : (a : A) → G a → Good (mk a)) (inj : (a b : A) → mk a ≡ mk b → a ≡ b) (bs : List ℕ) where
  kind_some : (a : A) (rest : List ℕ) → Reads Good line_text bs (Some (mk a, rest)) → Reads G (λ x. line_text (mk x)) bs (Some (a, rest))
  kind_some a rest r =
      let w = r.was (mk a) rest refl in
      returned a rest (to a w.0) w.1 (λ b more h at. let p = same_pair (mk a) (mk b) rest more (r.must (mk b) more (fro b h) at) in (sym (inj a b p.0), sym p.1))

  kind_none : Reads Good line_text bs None → Reads G (λ x. line_text (mk x)) bs None
  kind_none r = refused (λ a rest g e. not_some (r.must (mk a) rest (fro a g) e))

  kind_other : (e : Entry) (rest : List ℕ) → Reads Good line_text bs (Some (e, rest)) → ((a : A) → e ≡ mk a → ⊥) → Reads G (λ x. line_text (mk x)) bs None
  kind_other e rest r other = refused (λ a more g at. other a (same_pair e (mk a) rest more (r.must (mk a) more (fro a g) at)).0)

-- a line of another kind does not say it
pub not_header : (l : Line) → ((x : HeaderLine) → l ≡ line.Header x → ⊥) → (y : HeaderOf) → entry_of l ≡ header y → ⊥
not_header (line.Header x) other y e = other x refl
not_header (line.Grade x) other y e = cc
not_header (line.Row x) other y e = cc
not_header (line.Arc x) other y e = cc
not_header (line.Figure x) other y e = cc
not_header line.End other y e = cc

pub not_end : (l : Line) → (l ≡ line.End → ⊥) → entry_of l ≡ end → ⊥
not_end (line.Header x) other e = cc
not_end (line.Grade x) other e = cc
not_end (line.Row x) other e = cc
not_end (line.Arc x) other e = cc
not_end (line.Figure x) other e = cc
not_end line.End other e = other refl

-- a label of no bytes
no_label : (sheet : List ℕ) (n : ℕ) → take (n - (n - 0)) (drop (n - 0) sheet) ≡ []
no_label sheet n = let none : n - (n - 0) ≡ 0 = omega arith in ap (λ k. take k (drop (n - 0) sheet)) none

pub label_there : (sheet : List ℕ) (at next : ℕ) (l : Line) → at < next → next ≤ length sheet → drop at sheet ≡ line_text (entry_of l) ++ drop next sheet → part_of sheet (span_of l next) ≡ label_of l
label_there sheet at next (line.Header x) lt ends text = no_label sheet (next - 1)
label_there sheet at next (line.Grade x) lt ends text =
    let g = grade_of x in
    label_part sheet at next (103 ∷ 32 ∷ (blank g.0 ++ blank g.1.0)) x.label.now lt ends (text ∙ ap (λ l. l ++ drop next sheet) (grade_front g))
label_there sheet at next (line.Row x) lt ends text =
    let r = row_of x in
    label_part sheet at next (114 ∷ 32 ∷ (four_text 32 r.0 ++ blank r.1.0)) x.label.now lt ends (text ∙ ap (λ l. l ++ drop next sheet) (row_front r))
label_there sheet at next (line.Arc x) lt ends text = no_label sheet (next - 1)
label_there sheet at next (line.Figure x) lt ends text = no_label sheet (next - 1)
label_there sheet at next line.End lt ends text = no_label sheet (next - 1)

module _ {K : Type 0} (c : Counts) (s : Slot) (n : ℕ) where
  -- what a line of the kind that is due says is kept where it is in range
  pub kept_of : (said : K → Said s) (y : Said s) (r : Option K) (q : Result K TextFault) (e : TextFault) → RangedOf c s said y r → e ≡ fault.Range n → q ≡ ok_or r e → KeptOf c s said n (entry s y) q
  kept_of said y (Some x) q e h wrong is = subst (KeptOf c s said n (entry s y)) (sym is) (ap (entry s) h.0, h.1)
  kept_of said y None q e h wrong is = subst (KeptOf c s said n (entry s y)) (sym (is ∙ ap (ok_or None) wrong)) (inr (y, refl, h, refl))

  module _ (sheet : List ℕ) (at next : ℕ) (l : Line) (reads : Reads Good line_text (drop at sheet) (Some (entry_of l, drop next sheet))) where
    pub line_read : (said : List ℕ → K → Said s) (x : K) → at < next → next ≤ length sheet → length (label_of l) + 1 + at ≤ next → KeptOf c s (said (label_of l)) n (entry_of l) (Ok x) → LineRead c s (λ label. said label x) sheet at (span_of l next) next
    line_read said x lt ends room kept =
        let was = reads.was (entry_of l) (drop next sheet) refl in
        let here : said (label_of l) x ≡ said (part_of sheet (span_of l next)) x = ap (λ label. said label x) (sym (label_there sheet at next l lt ends was.1)) in
        let is = kept.0 ∙ ap (entry s) here in
        record {
          inside = (omega arith, omega arith);
          ends = ends;
          good = subst Good is was.0;
          ranged = subst (Ranged c s) here kept.1;
          text = was.1 ∙ ap (λ e. line_text e ++ drop next sheet) is;
        }

    pub line_fault : (said : K → Said s) (f : TextFault) → KeptOf c s said n (entry_of l) (Err f) → LineFault c s n (drop at sheet) f
    line_fault said f (inl p) = inl (λ y rest good e. p.0 y (same_pair (entry_of l) (entry s y) (drop next sheet) rest (reads.must (entry s y) rest good e)).0, p.1)
    line_fault said f (inr p) =
        let was = reads.was (entry_of l) (drop next sheet) refl in
        inr (record { said = p.0; rest = drop next sheet; good = subst Good p.1 was.0; text = was.1 ∙ ap (λ e. line_text e ++ drop next sheet) p.1; out = p.2 }, p.3)

-- no line is there at all
pub no_line : (c : Counts) (s : Slot) (n : ℕ) (bs : List ℕ) → Reads Good line_text bs None → LineFault c s n bs (fault.Form n)
no_line c s n bs reads = inl (λ y rest good e. not_some (reads.must (entry s y) rest good e), refl)
