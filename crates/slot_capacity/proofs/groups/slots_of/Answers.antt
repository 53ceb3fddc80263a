use Rattle.std.proofs.Common.{◌∙◌, ◌++◌, ◌∷◌, [], ℕ, List, ap, sym}
use Rattle.cycle_encoding.proofs.Choices.{chosen, not_chosen}
use Rattle.slot_capacity.specs.Makers.{has}
use Rattle.slot_capacity.proofs.Loops.{range-step}
use Rattle.slot_capacity.proofs.groups.slots_of.Goals.{then-has+in_ok-push, else-has}
use Rattle.slot_capacity.proofs.groups.slots_of.Goals as goal

pub loop-slot-preserved : goal.loop-slot-preserved
loop-slot-preserved c =
    let slots = c.args.one.now.slots in
    let slot = c.loop-slot.slot in
    let mid = c.loop-slot.slots.items in
    let now = c.if-has.slots.items in
    let is = c.has.ensures ∙ ap (λ (xs : List ℕ). has xs slot) c.as_slice.ensures in
    range-step (has slots) slot mid now c.loop-slot.invariant
    (elim c.if-has.branch [
      | then-has+in_ok-push w ↦
          chosen (has slots slot) (mid ++ slot ∷ []) mid now (sym is ∙ w.if-has.true)
          (ap (λ o. o.items) w.slots-is ∙ w.in_ok-push.ensures.items)
      | else-has w ↦
          not_chosen (has slots slot) (mid ++ slot ∷ []) mid now (sym is ∙ w.if-has.false)
          (ap (λ o. o.items) w.slots-is)
    ])
