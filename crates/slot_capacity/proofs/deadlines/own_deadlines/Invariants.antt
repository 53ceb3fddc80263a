use Rattle.std.proofs.Common.{◌≡◌, map, take}
use Rattle.std.specs.List.{filter}
use Rattle.slot_capacity.specs.Deadlines.{own_deadline}
use Rattle.slot_capacity.specs.Makers.{is_made}
use Rattle.slot_capacity.proofs.deadlines.own_deadlines.Given as goal

abbrev pub invariant-loop-class : goal.invariant-loop-class
invariant-loop-class l =
    l.deadlines.items
    ≡ map (own_deadline l.makers.frame.facts.now l.makers.frame.table.now l.makers.frame.k l.makers.spans.items)
    (filter (is_made l.makers.frame.facts.now l.makers.spans.items) (take l.class-index l.class-items))
