use Rattle.std.proofs.Common.{◌≡◌, ◌≤◌}
use Rattle.std.specs.List.{count_by, range_with_len}
use Rattle.cycle_encoding.specs.Steps.{has_cluster}
use Rattle.cycle_encoding.proofs.counts.cluster_count.Given as goal

abbrev pub invariant-loop-cluster : goal.invariant-loop-cluster
invariant-loop-cluster l = record { is : l.count ≡ count_by (has_cluster l.table) (range_with_len 0 l.cluster); small : l.count ≤ l.cluster }
