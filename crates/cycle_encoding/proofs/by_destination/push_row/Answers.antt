use Rattle.std.proofs.Common.{◌≡◌, ◌+◌, ◌++◌, ◌∙◌, ℕ, List, length, ap, subst, sym, arith}
use Rattle.schedule_meaning.specs.declared.schedules.To.{To}
use Rattle.schedule_meaning.specs.declared.schedules.Launch.{Launch}
use Rattle.cycle_encoding.specs.Facts.{destined_slot, destined_slots}
use Rattle.cycle_encoding.specs.CycleFormula.{allocation_in}
use Rattle.cycle_encoding.specs.Counts.{row_destinations}
use Rattle.cycle_encoding.proofs.Tables.{grown, same}
use Rattle.cycle_encoding.proofs.Destined.{row_is, slot_more, slot_left}
use Rattle.cycle_encoding.proofs.by_destination.push_row.Goals.{then-may_use+in_ok-push_slot, else-may_use}
use Rattle.cycle_encoding.proofs.by_destination.push_row.Goals as goal

pub loop-slot-preserved : goal.loop-slot-preserved
loop-slot-preserved c =
    let table = c.args.frame.now.table.now in
    let instr = c.in-Some.instr in
    let row = c.args.row in
    let first = c.in-Some-first.first in
    let n = c.cycles-cycles.result in
    let tos = c.in_ok-tos.tos.items in
    let slot = c.loop-slot.slot in
    let old = c.args.launches.now.items in
    let mid = c.loop-slot.launches.items in
    let was = destined_slots table instr row first n tos slot in
    let now = destined_slots table instr row first n tos (slot + 1) in
    elim c.if-may_use.branch [
      | then-may_use+in_ok-push_slot w ↦
          subst (λ o. o.items ≡ old ++ now) (sym w.launches-is)
          (grown old mid w.push_slot.new.launches.items (destined_slot row first n tos slot) was now c.loop-slot.invariant (w.in_ok-push_slot.ensures ∙ ap (λ (ts : List To). mid ++ destined_slot row first n ts slot) w.deref.ensures.value) (slot_more table instr row first n tos slot (sym c.may_use.ensures ∙ w.if-may_use.true)))
      | else-may_use w ↦
          subst (λ o. o.items ≡ old ++ now) (sym w.launches-is)
          (same old mid was now c.loop-slot.invariant (slot_left table instr row first n tos slot (sym c.may_use.ensures ∙ w.if-may_use.false)))
    ]

pub returns : goal.returns
returns c =
    let g = c.args.frame.now.facts.now in
    let table = c.args.frame.now.table.now in
    let instr = c.in-Some.instr in
    let row = c.args.row in
    let first = c.in-Some-first.first in
    let tos = c.in_ok-tos.tos.items in
    let old = c.args.launches.now.items in
    let end : c.loop-slot.slot ≡ length table.slots = (let a = c.loop-slot-test.false in let b = c.loop-slot.auto.slot-end in let n = c.len-slot-end.ensures in omega arith) in
    c.loop-slot.invariant
    ∙ ap (λ (s : ℕ). old ++ destined_slots table instr row first c.cycles-cycles.result tos s) end
    ∙ ap (λ (n : ℕ). old ++ destined_slots table instr row first n tos (length table.slots)) c.cycles-cycles.ensures
    ∙ ap (λ (ls : List Launch). old ++ ls) (sym (row_is g table (allocation_in c.args.frame.now.scope.now) c.args.frame.now.k c.args.first row instr c.in-Some-latency.latency first tos (sym c.instr_at.ensures ∙ c.in-Some.is) (sym c.latency.ensures ∙ c.in-Some-latency.is) c.in-Some-first.is (c.in_ok-tos.ensures.value ∙ ap (λ x. row_destinations g x row) c.allocation.ensures)))
