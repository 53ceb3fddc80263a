use Rattle.std.proofs.Common.{◌++◌, length, List, ℕ, arith, ap, ◌∙◌}
use Rattle.launch_graph.specs.GraphLines.{said_op}
use Rattle.launch_graph.specs.LineParts.{words_behind}
use Rattle.launch_graph.specs.RowLines.{line_op_words}
use Rattle.launch_graph.proofs.Printed.{row_text}
use Rattle.launch_graph.proofs.printing.put_row.Goals as goal

pub returns : goal.returns
returns c =
    row_text c.args.row.now c.loop-class.class-index _ _ _ _ _ (let past = c.loop-class-test.false in let size = ap length c.as_slice-class-items.ensures in omega (arith, past, size))
    (c.in_ok-put.ensures ∙ ap (λ (t : List ℕ). c.args.text.now.items ++ t) (c.as_bytes.ensures.value ∙ c.format.ensures.text))
    (c.in_ok-put_op.ensures ∙ ap (λ (name : List ℕ). c.put.new.text.items ++ words_behind (line_op_words (said_op c.args.row.now.op name))) c.bytes.ensures)
    c.loop-class.invariant c.in_ok-put-2.ensures
