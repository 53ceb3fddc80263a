use Rattle.std.proofs.Common.{◌≡◌, ◌≤◌, ◌*◌, ◌^◌}
use Rattle.cycle_encoding.specs.Steps.{clusters_before}
use Rattle.cycle_encoding.proofs.seen.seen_in_clusters.Given as goal

abbrev pub invariant-loop-other : goal.invariant-loop-other
invariant-loop-other l = record {
  is : l.before ≡ clusters_before l.table l.k l._class l.other;
  small : l.before ≤ l.other * 2 ^ 32;
}
