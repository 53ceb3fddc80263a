use Rattle.std.proofs.Common.{◌≡◌, ◌≤◌, ◌+◌, length}
use Rattle.launch_graph.specs.RowsRead.{HasRead}
use Rattle.launch_graph.proofs.rows_reading.read_rows.Given as goal

-- So many rows are read, whatever block begins there.
abbrev pub invariant-loop : goal.invariant-loop
invariant-loop l = record {
  place : l.line ≡ l.first + l.counter;
  order : l.line ≤ length l.text;
  size : length l.so_far.constants.items ≡ length l.marks;
  few : length l.so_far.used ≤ 16;
  has : HasRead l.text l.marks l.first l.counter l.so_far;
}
