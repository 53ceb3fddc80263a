use Rattle.std.proofs.Common.{◌∙◌, ◌++◌, ◌∷◌, [], Bool, get_or, ap, cond}
use Rattle.slot_capacity.specs.Limits.{belongs}
use Rattle.slot_capacity.specs.declared.deadlines.Deadline.{Deadline}
use Rattle.slot_capacity.proofs.Loops.{filter-pushed}
use Rattle.slot_capacity.proofs.Things.{no_deadline}
use Rattle.slot_capacity.proofs.limits.members.Goals as goal

pub loop-one-preserved : goal.loop-one-preserved
loop-one-preserved c =
    let test = λ (x : Deadline). belongs c.args.makers.now.frame.facts.now c.args.makers.now.frame.table.now c.args.makers.now.spans.items
    c.args.group.now x.class in
    let mid = c.loop-one.members.items in
    filter-pushed test c.args.deadlines.now c.loop-one.one-index no_deadline c.loop-one-test.true mid
    c.push_if.new.list.items
    c.loop-one.invariant
    (c.in_ok-push_if.ensures ∙ ap (λ (b : Bool). mid
    ++ cond b (get_or c.args.deadlines.now c.loop-one.one-index no_deadline ∷ []) []) c.belongs-keep.ensures)
