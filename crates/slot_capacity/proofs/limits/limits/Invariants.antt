use Rattle.std.proofs.Common.{◌≡◌, take}
use Rattle.std.specs.List.{flat_map}
use Rattle.slot_capacity.specs.Limits.{group_limits}
use Rattle.slot_capacity.proofs.limits.limits.Given as goal

abbrev pub invariant-loop-group : goal.invariant-loop-group
invariant-loop-group l =
    l.limits.items
    ≡ flat_map (group_limits l.makers.frame.facts.now l.makers.frame.table.now l.makers.frame.k l.makers.spans.items l.deadlines) (take l.group-index l.group-items)
