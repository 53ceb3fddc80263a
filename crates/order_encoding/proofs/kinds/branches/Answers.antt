use Rattle.std.proofs.Common.{sym, ap, ◌∙◌, Option, false}
use Rattle.std.specs.Option.{option_map_or}
use Rattle.machine_table.specs.declared.tables.InstrKind.{InstrKind}
use Rattle.schedule_meaning.specs.Launches.{is_branch}
use Rattle.cycle_encoding.proofs.Choices.{added, kept}
use Rattle.order_encoding.proofs.Found.{found_step, found_none}
use Rattle.order_encoding.proofs.kinds.branches.Goals.{then-is_branch+in_ok-push, else-is_branch}
use Rattle.order_encoding.proofs.kinds.branches.Goals as goal

pub loop-index-preserved : goal.loop-index-preserved
loop-index-preserved c =
    let b = c.is_branch.result in
    let mid = c.loop-index.found.items in
    let now = c.if-is_branch.found.items in
    found_step c.args.facts.now is_branch c.args.launches.now c.loop-index.index _ b mid now c.loop-index-test.true (c.is_branch.ensures ∙ ap (λ (i : Option InstrKind). option_map_or is_branch i false) c.instr_at.ensures) c.loop-index.invariant
    (elim c.if-is_branch.branch [
      | then-is_branch+in_ok-push w ↦ added b mid _ now w.if-is_branch.true (ap (λ o. o.items) w.found-is ∙ w.in_ok-push.ensures.items)
      | else-is_branch w ↦ kept b mid _ now w.if-is_branch.false (ap (λ o. o.items) w.found-is)
    ])

pub loop-index-init : goal.loop-index-init
loop-index-init c = c.new-found.ensures.items ∙ sym (found_none c.args.facts.now is_branch)
