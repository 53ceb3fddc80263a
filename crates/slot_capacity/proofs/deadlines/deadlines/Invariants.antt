use Rattle.std.proofs.Common.{◌≡◌}
use Rattle.slot_capacity.specs.Deadlines.{deadlines_within}
use Rattle.slot_capacity.proofs.deadlines.deadlines.Given as goal

abbrev pub invariant-loop-step : goal.invariant-loop-step
invariant-loop-step l = l.deadlines.items ≡ deadlines_within l.makers.frame.facts.now l.makers.frame.table.now l.makers.frame.k l.makers.spans.items l._step
