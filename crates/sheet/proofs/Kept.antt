-- What is kept of the lines of each group.
use Rattle.std.proofs.Common.{◌≡◌, ℕ, ◌+◌, ◌<◌, ◌≤◌, List, [], ◌++◌, get_or, drop, ℤ, pos, sym, ap, ◌∙◌, subst, ⊎_elim, arith, rules}
use Rattle.std.proofs.lemmas.Bool.{cases_lt}
use Rattle.table.specs.declared.filing.FiledLine.{FiledLine}
use Rattle.table.specs.declared.rows.Arc.{Arc}
use Rattle.table.specs.declared.rows.Row.{Row}
use Rattle.table.specs.Filing.{no_line}
use Rattle.table.specs.Ranges.{Within, FirstsIn, RowIn, ArcIn, FigureIn, FiguresIn, row0, arc0}
use Rattle.lines.specs.Lines.{line_text}
use Rattle.lines.specs.Lines as line
use Rattle.sheet.specs.declared.labels.Span.{Span}
use Rattle.sheet.specs.Due.{Counts, Count, grade, row, arc, figure}
use Rattle.sheet.specs.Read.{GroupRead, grade_said, row_said, arc_said, figure_said}
use Rattle.sheet.specs.Render.{figures_text, figure_entry}
use Rattle.sheet.proofs.Once.{pos_inj}
use Rattle.sheet.proofs.Parts.{series_same}

count_in : (low high n : ℕ) → Count low high (pos n) → Within low high n
count_in low high n p = subst (Within low high) (sym (pos_inj n p.0 p.1)) p.2

module _ (c : Counts) (sheet : List ℕ) (at n : ℕ) (labels : List Span) (next : ℕ) where
  pub firsts_in : (firsts : List ℕ) → GroupRead c grade grade_said sheet at n 0 firsts labels next → FirstsIn n c.rows firsts
  firsts_in firsts read i lt = count_in 1 c.rows (get_or firsts i 0) (read.ranged i lt).1

  pub rows_in : (rs : List Row) → GroupRead c row row_said sheet at n row0 rs labels next → (i : ℕ) → i < n → RowIn c.rows c.arcs (get_or rs i row0)
  rows_in rs read i lt =
      let r = get_or rs i row0 in
      let p = read.ranged i lt in
      ((count_in 0 c.rows r.next p.1).1, count_in 1 c.arcs r.first_arc p.4, p.2, p.3)

  pub arcs_in : (xs : List Arc) → GroupRead c arc arc_said sheet at n arc0 xs labels next → (i : ℕ) → i < n → ArcIn c.grades c.arcs c.total (get_or xs i arc0)
  arcs_in xs read i lt =
      let a = get_or xs i arc0 in
      let p = read.ranged i lt in
      ((count_in 0 c.arcs a.next p.1).1, count_in 1 c.grades a.destination p.2, count_in 1 c.total a.weight p.3)

zero_in : FigureIn (pos 0, pos 0)
zero_in = (search rules, search rules)

-- the figures, each part apart
module _ (c : Counts) (sheet : List ℕ) (at n : ℕ) (labels : List Span) (next : ℕ) (xs : List FiledLine) (read : GroupRead c figure figure_said sheet at n no_line xs labels next) where
  each_in : (P : FiledLine → Type 0) → P no_line → ((i : ℕ) → i < n → P (get_or xs i no_line)) → (i : ℕ) → P (get_or xs i no_line)
  each_in P zero all i = ⊎_elim (λ lt. all i lt) (λ le. subst P (sym (read.beyond i le)) zero) (cases_lt i n)

  pub plans_in : (rows : List ℕ) → ((i : ℕ) → i < 32 → get_or rows i 0 ≡ (get_or xs i no_line).row) → n ≤ 32 → FirstsIn n c.rows rows
  plans_in rows is few i lt = subst (Within 1 c.rows) (sym (is i (omega arith))) (count_in 1 c.rows (get_or xs i no_line).row (read.ranged i lt).1)

  pub floors_in : (floors : List (ℤ × ℤ)) → ((i : ℕ) → i < 32 → get_or floors i (pos 0, pos 0) ≡ (get_or xs i no_line).floor) → FiguresIn floors
  floors_in floors is i lt = subst FigureIn (sym (is i lt)) (each_in (λ x. FigureIn x.floor) zero_in (λ k h. (read.ranged k h).2) i)

  pub ceilings_in : (ceilings : List (ℤ × ℤ)) → ((i : ℕ) → i < 32 → get_or ceilings i (pos 0, pos 0) ≡ (get_or xs i no_line).ceiling) → FiguresIn ceilings
  ceilings_in ceilings is i lt = subst FigureIn (sym (is i lt)) (each_in (λ x. FigureIn x.ceiling) zero_in (λ k h. (read.ranged k h).3) i)

  pub figures_told : (rows : List ℕ) (floors ceilings : List (ℤ × ℤ)) → ((i : ℕ) → i < 32 → get_or rows i 0 ≡ (get_or xs i no_line).row) → ((i : ℕ) → i < 32 → get_or floors i (pos 0, pos 0) ≡ (get_or xs i no_line).floor) → ((i : ℕ) → i < 32 → get_or ceilings i (pos 0, pos 0) ≡ (get_or xs i no_line).ceiling) → n ≤ 32 → drop at sheet ≡ figures_text rows floors ceilings n ++ drop next sheet
  figures_told rows floors ceilings p q r few =
      read.text ∙ ap (λ l. l ++ drop next sheet) (series_same (λ k. line_text (line.figure (figure_said [] k (get_or xs k no_line)))) (λ k. line_text (figure_entry rows floors ceilings k)) n
      (λ k h.
      let lt : k < 32 = omega arith in
      λ j. line_text (line.figure (pos (k + 1), (pos (sym (p k lt) j), ((sym (q k lt) j).0, ((sym (q k lt) j).1, ((sym (r k lt) j).0, (sym (r k lt) j).1))))))))
