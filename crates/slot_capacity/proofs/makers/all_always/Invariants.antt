use Rattle.std.proofs.Common.{◌≡◌, map, take}
use Rattle.slot_capacity.specs.MakersSteps.{always_among}
use Rattle.slot_capacity.proofs.makers.all_always.Given as goal

abbrev pub invariant-loop-rows : goal.invariant-loop-rows
invariant-loop-rows l = l.lists.items ≡ map (always_among l.reads.facts.now) (take l.rows-index l.makers)
