use Rattle.std.proofs.Common.{◌≡◌}
use Rattle.slot_capacity.specs.Due.{due_within}
use Rattle.slot_capacity.proofs.due.due_classes.Given as goal

abbrev pub invariant-loop-step : goal.invariant-loop-step
invariant-loop-step l = l.due.items ≡ due_within l.makers.frame.facts.now l.makers.spans.items l._step
