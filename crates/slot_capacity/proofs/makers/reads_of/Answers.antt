use Rattle.std.proofs.Common.{◌≡◌, ◌∙◌, ◌<◌, ◌≤◌, ◌++◌, ◌∷◌, [], ℕ, List, length, cond, sym, ap, arith}
use Rattle.std.specs.Prelude.{not, slice_get}
use Rattle.schedule_meaning.specs.Launches.{memory_class_at, operands_at}
use Rattle.schedule_meaning.specs.declared.schedules.Operand.{Operand}
use Rattle.graph_meaning.specs.declared.graphs.LaunchGraph.{LaunchGraph}
use Rattle.cycle_encoding.specs.Counts.{row_is}
use Rattle.cycle_encoding.specs.Facts.{classes_among, one_or_none}
use Rattle.cycle_encoding.specs.Families.{is_free}
use Rattle.cycle_encoding.specs.Narrow.{accesses}
use Rattle.cycle_encoding.proofs.Choices.{added, kept}
use Rattle.cycle_encoding.proofs.OperandLists.{among-more, among-done}
use Rattle.slot_capacity.proofs.makers.reads_of.Goals.{then-accesses+in_ok-push, else-accesses}
use Rattle.slot_capacity.proofs.makers.reads_of.Goals as goal

pub loop-at-preserved : goal.loop-at-preserved
loop-at-preserved c =
    let g = c.args.facts.now in
    let row = c.args.row in
    let at = c.loop-at.at in
    let count =
    c.operand_count-at-end.ensures ∙ ap (λ (g : LaunchGraph). length (operands_at g row)) c.graph.ensures in
    let inside : at < length (operands_at g row) = (let lt = c.loop-at-test.true in omega arith) in
    let test = λ (o : Operand). not (is_free g o) in
    c.in_ok-push_read_at.ensures
    ∙ ap (λ (xs : List ℕ). xs ++ classes_among test (one_or_none (slice_get (operands_at g row) at)))
    c.loop-at.invariant
    ∙ sym (among-more test (operands_at g row) at inside)

pub returns : goal.returns
returns c =
    let g = c.args.facts.now in
    let row = c.args.row in
    let count =
    c.operand_count-at-end.ensures ∙ ap (λ (g : LaunchGraph). length (operands_at g row)) c.graph.ensures in
    let end : length (operands_at g row) ≤ c.loop-at.at = (let past = c.loop-at-test.false in omega arith) in
    let test = λ (o : Operand). not (is_free g o) in
    let mid = c.loop-at.reads.items in
    let is : mid ≡ classes_among test (operands_at g row) =
    c.loop-at.invariant ∙ among-done test (operands_at g row) c.loop-at.at end in
    let more = memory_class_at g row ∷ [] in
    let new = c.if-accesses.reads.items in
    elim c.if-accesses.branch [
      | then-accesses+in_ok-push w ↦
          added (row_is g accesses row) mid more new (sym c.accesses.ensures ∙ w.if-accesses.true)
          (ap (λ o. o.items) w.reads-is ∙ w.in_ok-push.ensures.items
          ∙ ap (λ n. mid ++ n ∷ [])
          (w.memory_class_at.ensures
          ∙ ap (λ (g : LaunchGraph). memory_class_at g row) w.graph-then-accesses.ensures))
      | else-accesses w ↦
          kept (row_is g accesses row) mid more new (sym c.accesses.ensures ∙ w.if-accesses.false)
          (ap (λ o. o.items) w.reads-is)
    ]
    ∙ ap (λ xs. xs ++ cond (row_is g accesses row) more []) is
