use Rattle.std.proofs.Common.{◌≡◌, ◌≤◌}
use Rattle.std.specs.List.{count_by, range_with_len}
use Rattle.std.specs.Prelude.{◌==◌, ◌&&◌, not}
use Rattle.order_encoding.specs.OrderVariables.{is_memory_class}
use Rattle.order_encoding.proofs.counts.other_count.Given as goal

abbrev pub invariant-loop-class : goal.invariant-loop-class
invariant-loop-class l = record { is : l.count ≡ count_by (λ c. is_memory_class l.facts c && not (c == l.facts.entry)) (range_with_len 0 l.class); small : l.count ≤ l.class }
