-- How far a part of lines reaches.
use Rattle.std.proofs.Common.{ℕ, zero, suc, ◌+◌, ◌≤◌, List, [], length, arith}
use Rattle.cnf_core.specs.declared.line.Line.{Line as Row}
use Rattle.refutation_check.specs.LineWords.{AreLinesAt}
use Rattle.text_core.specs.Lines.{Line}

-- so many lines of a refutation end within the text
pub counted_within : (lines : List Line) (from count : ℕ) (rows : List Row) → from ≤ length lines
    → AreLinesAt lines from count rows → from + count ≤ length lines
counted_within lines from zero rows low are = omega (arith, low)
counted_within lines from (suc n) rows low are =
    let last = (are.each n (record { id = 0; lits = []; hints = [] }) (omega arith)).0 in
    omega (arith, last)
