-- A sheet that is refused at one of its lines. Assumes nothing.
use Rattle.std.proofs.Common.{ℕ, ◌+◌, ◌≤◌, List, [], ◌∷◌, ◌++◌, length, inr}
use Rattle.lines.specs.declared.fault.TextFault.{TextFault}
use Rattle.sheet.specs.declared.header.Header.{Header}
use Rattle.sheet.specs.Due.{grade, row, arc, figure, end, group, slots}
use Rattle.sheet.specs.Refused.{Through, Stops, HeaderTaken, FirstRefused}
use Rattle.sheet.specs.Halts.{counts_of, Halted, EndFault}
use Rattle.sheet.proofs.Stopping.{stops_beyond, stops_within}

module _ (h : Header) (sheet : List ℕ) (e : TextFault) (short : length sheet ≤ 32768) (bs : List ℕ) (head : HeaderTaken sheet (counts_of h) bs) where
  -- the first line is there, and a later one has the fault
  after_header_lem : Stops (counts_of h) (slots (counts_of h)) 2 bs e → FirstRefused sheet e
  after_header_lem stops = inr (short, inr (inr (counts_of h, bs, head, stops)))

  pub grades_stop : Halted (counts_of h) grade h.grades 2 bs e → FirstRefused sheet e
  grades_stop halted = after_header_lem (stops_within (counts_of h) grade h.grades 2 _ bs e halted)

  module _ (rows : List ℕ) (grades-there : Through (counts_of h) (group grade h.grades) bs rows) where
    after_grades_lem : Stops (counts_of h) (group row h.rows ++ (group arc h.arcs ++ (group figure (counts_of h).figures ++ end ∷ []))) (2 + h.grades) rows e → FirstRefused sheet e
    after_grades_lem stops = after_header_lem (stops_beyond (counts_of h) grade h.grades 2 _ bs e rows grades-there stops)

    pub rows_stop : Halted (counts_of h) row h.rows (2 + h.grades) rows e → FirstRefused sheet e
    rows_stop halted = after_grades_lem (stops_within (counts_of h) row h.rows (2 + h.grades) _ rows e halted)

    module _ (arcs : List ℕ) (rows-there : Through (counts_of h) (group row h.rows) rows arcs) where
      after_rows_lem : Stops (counts_of h) (group arc h.arcs ++ (group figure (counts_of h).figures ++ end ∷ [])) (2 + h.grades + h.rows) arcs e → FirstRefused sheet e
      after_rows_lem stops = after_grades_lem (stops_beyond (counts_of h) row h.rows (2 + h.grades) _ rows e arcs rows-there stops)

      pub arcs_stop : Halted (counts_of h) arc h.arcs (2 + h.grades + h.rows) arcs e → FirstRefused sheet e
      arcs_stop halted = after_rows_lem (stops_within (counts_of h) arc h.arcs (2 + h.grades + h.rows) _ arcs e halted)

      module _ (figures : List ℕ) (arcs-there : Through (counts_of h) (group arc h.arcs) arcs figures) where
        after_arcs_lem : Stops (counts_of h) (group figure (counts_of h).figures ++ end ∷ []) (2 + h.grades + h.rows + h.arcs) figures e → FirstRefused sheet e
        after_arcs_lem stops = after_rows_lem (stops_beyond (counts_of h) arc h.arcs (2 + h.grades + h.rows) _ arcs e figures arcs-there stops)

        pub figures_stop : Halted (counts_of h) figure (counts_of h).figures (2 + h.grades + h.rows + h.arcs) figures e → FirstRefused sheet e
        figures_stop halted = after_arcs_lem (stops_within (counts_of h) figure (counts_of h).figures (2 + h.grades + h.rows + h.arcs) _ figures e halted)

        pub end_stop : (last : List ℕ) → Through (counts_of h) (group figure (counts_of h).figures) figures last → EndFault (2 + h.grades + h.rows + h.arcs + (counts_of h).figures) last e → FirstRefused sheet e
        end_stop last figures-there fault = after_arcs_lem (stops_beyond (counts_of h) figure (counts_of h).figures (2 + h.grades + h.rows + h.arcs) _ figures e last figures-there (fault (counts_of h)))
