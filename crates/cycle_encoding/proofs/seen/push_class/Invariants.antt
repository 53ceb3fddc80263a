use Rattle.std.proofs.Common.{◌≡◌, ◌++◌}
use Rattle.cycle_encoding.specs.Steps.{clusters_seen}
use Rattle.cycle_encoding.proofs.seen.push_class.Given as goal

abbrev pub invariant-loop-cluster : goal.invariant-loop-cluster
invariant-loop-cluster l = l.seen.items ≡ l.initial.seen.items ++ clusters_seen l.frame.table.now l.frame.k l.cluster l.class
