use Rattle.std.proofs.Common.{◌≡◌, ◌∙◌, length, subst, sym, true, arith}
use Rattle.std.specs.List.{filter, list_all, range_with_len}
use Rattle.cycle_encoding.specs.Facts.{may_use}
use Rattle.slot_capacity.specs.Makers.{has}
use Rattle.slot_capacity.proofs.RowSlots.{slot-more, slot-not, slots-done}
use Rattle.slot_capacity.proofs.groups.row_belongs.Goals as goal

pub returns-then-not-slot_belongs : goal.returns-then-not-slot_belongs
returns-then-not-slot_belongs c =
    let count = c.len-slot-end.ensures in
    let lt = c.loop-slot-test.true in
    slot-not c.args.facts.now c.args.table.now c.args.group.now c.args.row c.in-Some.instr
    (sym c.instr_at.ensures ∙ c.in-Some.is) c.loop-slot.slot (omega arith)
    (sym c.slot_belongs.ensures ∙ c.if-not-slot_belongs.true)

pub loop-slot-preserved : goal.loop-slot-preserved
loop-slot-preserved c =
    slot-more c.args.facts.now c.args.table.now c.args.group.now c.args.row c.in-Some.instr
    (sym c.instr_at.ensures ∙ c.in-Some.is) c.loop-slot.slot c.loop-slot.invariant
    (sym c.slot_belongs.ensures ∙ c.if-not-slot_belongs.false)

pub returns : goal.returns
returns c =
    let table = c.args.table.now in
    let count = c.len-slot-end.ensures in
    let past = c.loop-slot-test.false in
    let within = c.loop-slot.auto.slot-end in
    let end : c.loop-slot.slot ≡ length table.slots = omega arith in
    slots-done c.args.facts.now table c.args.group.now c.args.row c.in-Some.instr
    (sym c.instr_at.ensures ∙ c.in-Some.is)
    (subst (λ n. list_all (has c.args.group.now) (filter (may_use table c.in-Some.instr) (range_with_len 0 n))
    ≡ true) end
    c.loop-slot.invariant)
