-- Each kind by its first bytes.
use Rattle.std.proofs.Common.{Some, None, arith, rules}
use Rattle.std.proofs.lemmas.Bool.{ltb-false}
use Rattle.lines.specs.Lines.{header_of, grade_of, row_of, arc_of, figure_of}
use Rattle.lines.proofs.LineKinds.{front2, front4, front6, header_line, grade_line, row_line, arc_line, figure_line, end_line, of_no_kind, prefix_free}
use Rattle.lines.proofs.line_reading.read_line.Goals as goal

pub returns-in-101 : goal.returns-in-101
returns-in-101 c =
    let bs = c.args.bytes.now in
    record { reads = end_line bs _ (front4 bs 101 110 100 10 (omega (arith, ltb-false)) (search rules) (search rules) (search rules) (search rules)); alone = prefix_free }

pub returns-in_default : goal.returns-in_default
returns-in_default c =
    record {
      reads = of_no_kind c.args.bytes.now (λ l a b d e f g. search rules) (λ l a b. search rules) (λ l a b. search rules) (λ l a b. search rules) (λ l a b. search rules) (λ l a b d e. search rules);
      alone = prefix_free;
    }

pub returns-in_err-header-in-115 : goal.returns-in_err-header-in-115
returns-in_err-header-in-115 c =
    let bs = c.args.bytes.now in
    rw c.from_residual.ensures
    record { reads = header_line bs _ (front6 bs 115 104 101 101 116 32 (omega (arith, ltb-false)) (search rules) (search rules) (search rules) (search rules) (search rules) (search rules)) None c.in_err-header-in-115.ensures; alone = prefix_free }

pub returns-in_ok-header-in-115 : goal.returns-in_ok-header-in-115
returns-in_ok-header-in-115 c =
    let bs = c.args.bytes.now in
    let read = c.in_ok-header-in-115 in
    record { reads = header_line bs _ (front6 bs 115 104 101 101 116 32 (omega (arith, ltb-false)) (search rules) (search rules) (search rules) (search rules) (search rules) (search rules)) (Some (header_of read.header, read.rest.now)) read.ensures; alone = prefix_free }

pub returns-in_err-grade-in-103 : goal.returns-in_err-grade-in-103
returns-in_err-grade-in-103 c =
    let bs = c.args.bytes.now in
    rw c.from_residual-in_err-grade-in-103.ensures
    record { reads = grade_line bs _ (front2 bs 103 32 (omega (arith, ltb-false)) (search rules) (search rules)) None c.in_err-grade-in-103.ensures; alone = prefix_free }

pub returns-in_ok-grade-in-103 : goal.returns-in_ok-grade-in-103
returns-in_ok-grade-in-103 c =
    let bs = c.args.bytes.now in
    let read = c.in_ok-grade-in-103 in
    record { reads = grade_line bs _ (front2 bs 103 32 (omega (arith, ltb-false)) (search rules) (search rules)) (Some (grade_of read.grade, read.rest.now)) read.ensures; alone = prefix_free }

pub returns-in_err-row-in-114 : goal.returns-in_err-row-in-114
returns-in_err-row-in-114 c =
    let bs = c.args.bytes.now in
    rw c.from_residual-in_err-row-in-114.ensures
    record { reads = row_line bs _ (front2 bs 114 32 (omega (arith, ltb-false)) (search rules) (search rules)) None c.in_err-row-in-114.ensures; alone = prefix_free }

pub returns-in_ok-row-in-114 : goal.returns-in_ok-row-in-114
returns-in_ok-row-in-114 c =
    let bs = c.args.bytes.now in
    let read = c.in_ok-row-in-114 in
    record { reads = row_line bs _ (front2 bs 114 32 (omega (arith, ltb-false)) (search rules) (search rules)) (Some (row_of read.row, read.rest.now)) read.ensures; alone = prefix_free }

pub returns-in_err-arc-in-116 : goal.returns-in_err-arc-in-116
returns-in_err-arc-in-116 c =
    let bs = c.args.bytes.now in
    rw c.from_residual-in_err-arc-in-116.ensures
    record { reads = arc_line bs _ (front2 bs 116 32 (omega (arith, ltb-false)) (search rules) (search rules)) None c.in_err-arc-in-116.ensures; alone = prefix_free }

pub returns-in_ok-arc-in-116 : goal.returns-in_ok-arc-in-116
returns-in_ok-arc-in-116 c =
    let bs = c.args.bytes.now in
    let read = c.in_ok-arc-in-116 in
    record { reads = arc_line bs _ (front2 bs 116 32 (omega (arith, ltb-false)) (search rules) (search rules)) (Some (arc_of read.arc, read.rest.now)) read.ensures; alone = prefix_free }

pub returns-in_err-figure-in-102 : goal.returns-in_err-figure-in-102
returns-in_err-figure-in-102 c =
    let bs = c.args.bytes.now in
    rw c.from_residual-in_err-figure-in-102.ensures
    record { reads = figure_line bs _ (front2 bs 102 32 (omega (arith, ltb-false)) (search rules) (search rules)) None c.in_err-figure-in-102.ensures; alone = prefix_free }

pub returns-in_ok-figure-in-102 : goal.returns-in_ok-figure-in-102
returns-in_ok-figure-in-102 c =
    let bs = c.args.bytes.now in
    let read = c.in_ok-figure-in-102 in
    record { reads = figure_line bs _ (front2 bs 102 32 (omega (arith, ltb-false)) (search rules) (search rules)) (Some (figure_of read.figure, read.rest.now)) read.ensures; alone = prefix_free }
