use Rattle.std.proofs.Common.{◌≡◌, take}
use Rattle.slot_capacity.specs.LimitsSteps.{members_of}
use Rattle.slot_capacity.proofs.limits.members.Given as goal

abbrev pub invariant-loop-one : goal.invariant-loop-one
invariant-loop-one l =
    l.members.items ≡ members_of l.makers.frame.facts.now l.makers.frame.table.now l.makers.spans.items (take l.one-index l.deadlines) l.group
