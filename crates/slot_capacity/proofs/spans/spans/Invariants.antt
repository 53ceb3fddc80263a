use Rattle.std.proofs.Common.{◌≡◌, map}
use Rattle.std.specs.List.{range_with_len}
use Rattle.cycle_encoding.specs.CycleFormula.{listed_in}
use Rattle.slot_capacity.specs.Spans.{span_of}
use Rattle.slot_capacity.proofs.spans.spans.Given as goal

abbrev pub invariant-loop-row : goal.invariant-loop-row
invariant-loop-row l =
    l.spans.items ≡ map (span_of (listed_in l.frame.facts.now l.frame.table.now l.frame.k l.frame.scope.now).launches) (range_with_len 0 l.row)
