use Rattle.std.proofs.Common.{◌∙◌, ◌++◌, ◌∷◌, [], ap, sym}
use Rattle.std.specs.Prelude.{◌&&◌}
use Rattle.cycle_encoding.proofs.Choices.{chosen, not_chosen}
use Rattle.slot_capacity.specs.Due.{can_be_due, is_asked_for}
use Rattle.slot_capacity.proofs.Loops.{range-step}
use Rattle.slot_capacity.proofs.due.first_due.Goals.{then-is_first_due+in_ok-push, else-is_first_due}
use Rattle.slot_capacity.proofs.due.first_due.Goals as goal

pub loop-class-preserved : goal.loop-class-preserved
loop-class-preserved c =
    let g = c.args.facts.now in
    let class = c.loop-class.class in
    let b = can_be_due g class && is_asked_for g class in
    let mid = c.loop-class.due.items in
    let now = c.if-is_first_due.due.items in
    range-step (λ c. can_be_due g c && is_asked_for g c) class mid now c.loop-class.invariant
    (elim c.if-is_first_due.branch [
      | then-is_first_due+in_ok-push w ↦
          chosen b (mid ++ class ∷ []) mid now (sym c.is_first_due.ensures ∙ w.if-is_first_due.true)
          (ap (λ o. o.items) w.due-is ∙ w.in_ok-push.ensures.items)
      | else-is_first_due w ↦
          not_chosen b (mid ++ class ∷ []) mid now (sym c.is_first_due.ensures ∙ w.if-is_first_due.false)
          (ap (λ o. o.items) w.due-is)
    ])
