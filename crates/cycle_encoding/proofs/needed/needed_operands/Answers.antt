use Rattle.std.proofs.Common.{◌∙◌, ◌<◌, ◌≤◌, ◌++◌, ℕ, List, length, sym, ap, arith}
use Rattle.std.specs.Prelude.{slice_get}
use Rattle.schedule_meaning.specs.Launches.{operands_at}
use Rattle.graph_meaning.specs.declared.graphs.LaunchGraph.{LaunchGraph}
use Rattle.cycle_encoding.specs.Facts.{one_or_none}
use Rattle.cycle_encoding.specs.Families.{is_needed}
use Rattle.cycle_encoding.specs.Steps.{needed_among}
use Rattle.cycle_encoding.proofs.OperandLists.{among-more, among-done}
use Rattle.cycle_encoding.proofs.needed.needed_operands.Goals as goal

pub loop-at-preserved : goal.loop-at-preserved
loop-at-preserved c =
    let g = c.args.facts.now in
    let l = c.args.launch in
    let at = c.loop-at.at in
    let count = c.operand_count-at-end.ensures ∙ ap (λ (g : LaunchGraph). length (operands_at g l.row)) c.graph.ensures in
    let inside : at < length (operands_at g l.row) = (let lt = c.loop-at-test.true in omega arith) in
    c.in_ok-push_at.ensures
    ∙ ap (λ (xs : List ℕ). xs ++ needed_among g l (one_or_none (slice_get (operands_at g l.row) at))) c.loop-at.invariant
    ∙ sym (among-more (is_needed g l) (operands_at g l.row) at inside)

pub returns : goal.returns
returns c =
    let g = c.args.facts.now in
    let l = c.args.launch in
    let count = c.operand_count-at-end.ensures ∙ ap (λ (g : LaunchGraph). length (operands_at g l.row)) c.graph.ensures in
    let end : length (operands_at g l.row) ≤ c.loop-at.at = (let past = c.loop-at-test.false in omega arith) in
    c.loop-at.invariant ∙ among-done (is_needed g l) (operands_at g l.row) c.loop-at.at end
