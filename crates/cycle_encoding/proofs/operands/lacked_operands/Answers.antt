use Rattle.std.proofs.Common.{◌∙◌, ◌<◌, ◌≤◌, ◌++◌, ℕ, List, length, sym, ap, arith}
use Rattle.std.specs.Prelude.{slice_get}
use Rattle.schedule_meaning.specs.Launches.{operands_at}
use Rattle.graph_meaning.specs.declared.graphs.LaunchGraph.{LaunchGraph}
use Rattle.cycle_encoding.specs.Facts.{one_or_none}
use Rattle.cycle_encoding.specs.Lacking.{is_lacked, lacked_among}
use Rattle.cycle_encoding.proofs.OperandLists.{among-more, among-done}
use Rattle.cycle_encoding.proofs.operands.lacked_operands.Goals as goal

pub loop-at-preserved : goal.loop-at-preserved
loop-at-preserved c =
    let g = c.args.facts.now in
    let at = c.loop-at.at in
    let count = c.operand_count-at-end.ensures ∙ ap (λ (g : LaunchGraph). length (operands_at g c.args.row)) c.graph.ensures in
    let inside : at < length (operands_at g c.args.row) = (let lt = c.loop-at-test.true in omega arith) in
    c.in_ok-push_lacked_at.ensures
    ∙ ap (λ (xs : List ℕ). xs ++ lacked_among c.args.there g (one_or_none (slice_get (operands_at g c.args.row) at))) c.loop-at.invariant
    ∙ sym (among-more (is_lacked c.args.there g) (operands_at g c.args.row) at inside)

pub returns : goal.returns
returns c =
    let g = c.args.facts.now in
    let count = c.operand_count-at-end.ensures ∙ ap (λ (g : LaunchGraph). length (operands_at g c.args.row)) c.graph.ensures in
    let end : length (operands_at g c.args.row) ≤ c.loop-at.at = (let past = c.loop-at-test.false in omega arith) in
    c.loop-at.invariant ∙ among-done (is_lacked c.args.there g) (operands_at g c.args.row) c.loop-at.at end
