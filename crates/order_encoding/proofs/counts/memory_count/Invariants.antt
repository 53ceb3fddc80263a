use Rattle.std.proofs.Common.{◌≡◌, ◌≤◌}
use Rattle.std.specs.List.{count_by, range_with_len}
use Rattle.order_encoding.specs.OrderVariables.{is_memory_class}
use Rattle.order_encoding.proofs.counts.memory_count.Given as goal

abbrev pub invariant-loop-class : goal.invariant-loop-class
invariant-loop-class l = record { is : l.count ≡ count_by (is_memory_class l.facts) (range_with_len 0 l.class); small : l.count ≤ l.class }
