use Rattle.std.proofs.Common.{◌≡◌, take}
use Rattle.std.specs.List.{flat_map}
use Rattle.slot_capacity.specs.MakersSteps.{always_of}
use Rattle.slot_capacity.proofs.due.read_for.Given as goal

abbrev pub invariant-loop-class : goal.invariant-loop-class
invariant-loop-class l =
    l.read.items ≡ flat_map (always_of l.makers.frame.facts.now l.makers.spans.items) (take l.class-index l.due)
