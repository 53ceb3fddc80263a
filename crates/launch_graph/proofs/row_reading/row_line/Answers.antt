use Rattle.std.proofs.Common.{◌^◌, ℕ, [], List, drop, subst, arith, Option}
use Rattle.std.specs.Prelude.{MatchOption}
use Rattle.text_core.specs.Lines.{line_at}
use Rattle.launch_graph.specs.declared.row_lines.LineOp.{LineOp}
use Rattle.launch_graph.specs.RowReading.{IsOpBefore, HasNoOp, AreNumbers}
use Rattle.launch_graph.proofs.Rows.{one_row}
use Rattle.launch_graph.proofs.row_reading.row_line.Goals as goal

pub returns : goal.returns
returns c =
    let row = (line_at c.args.text.now c.args.line).words in
    let count = c.words.ensures.count in
    let never = c.if-words-lt2.false in
    let is = c.in-Some.ensures.some in
    let op = subst (λ (o : Option (LineOp × ℕ)). MatchOption o (HasNoOp row) (λ p. IsOpBefore row p.0 p.1)) c.in-Some-2.is c.in_ok-op.ensures in
    let ns = subst (λ (o : Option (List ℕ)). MatchOption o ((ns : List ℕ) → AreNumbers (2 ^ 31) (drop c.in-Some-2.from row) ns → ⊥) (AreNumbers (2 ^ 31) (drop c.in-Some-2.from row))) c.in-Some-3.is c.in_ok-operands.ensures in
    one_row row c.word.result.now [] _ c.in-Some-2.from (omega arith) c.word.ensures.value is.0 is.1 op ns
