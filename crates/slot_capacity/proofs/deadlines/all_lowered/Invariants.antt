use Rattle.std.proofs.Common.{◌≡◌, [], get_or, map, take}
use Rattle.slot_capacity.specs.DeadlinesSteps.{lowered_by}
use Rattle.slot_capacity.proofs.deadlines.all_lowered.Given as goal

abbrev pub invariant-loop-own : goal.invariant-loop-own
invariant-loop-own l =
    l.lower.items
    ≡ map
    (λ own. lowered_by l.makers.frame.facts.now l.makers.frame.table.now l.makers.frame.k l.makers.spans.items (get_or l.lists.items own.class []) own)
    (take l.own-index l.deadlines)
