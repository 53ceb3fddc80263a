use Rattle.std.proofs.Common.{◌≡◌, drop}
use Rattle.std.specs.Prelude.{fold}
use Rattle.slot_capacity.specs.DeadlinesSteps.{with_last}
use Rattle.slot_capacity.proofs.deadlines.put_last.Given as goal

abbrev pub invariant-loop-class : goal.invariant-loop-class
invariant-loop-class l =
    fold (with_last l.last) l.lists.items (drop l.class-index l.classes)
    ≡ fold (with_last l.last) l.initial.lists.items l.classes
