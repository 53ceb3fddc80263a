use Rattle.std.proofs.Common.{◌≡◌, ◌++◌}
use Rattle.cycle_encoding.specs.Steps.{cluster_seen}
use Rattle.cycle_encoding.proofs.seen.push_cluster.Given as goal

abbrev pub invariant-loop-cycle : goal.invariant-loop-cycle
invariant-loop-cycle l = l.seen.items ≡ l.initial.seen.items ++ cluster_seen l.cycle l.class l.cluster
