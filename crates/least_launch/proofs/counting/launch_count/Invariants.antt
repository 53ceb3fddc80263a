use Rattle.std.proofs.Common.{◌≡◌, ◌*◌, ◌≤◌}
use Rattle.std.specs.List.{range_with_len, sum_by}
use Rattle.least_launch.proofs.CountsOf.{row_size}
use Rattle.least_launch.proofs.counting.launch_count.Given as goal

abbrev pub invariant-loop-row : goal.invariant-loop-row
invariant-loop-row l = record {
  is : l.count ≡ sum_by (row_size l.facts l.table l.k l.scope) (range_with_len 0 l.row);
  small : l.count ≤ l.row * 6400;
}
