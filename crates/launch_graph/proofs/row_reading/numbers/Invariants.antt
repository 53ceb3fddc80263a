use Rattle.std.proofs.Common.{◌^◌}
use Rattle.text_core.specs.Lines.{line_at}
use Rattle.launch_graph.proofs.Numbers.{SoFar}
use Rattle.launch_graph.proofs.row_reading.numbers.Given as goal

abbrev pub invariant-loop-at : goal.invariant-loop-at
invariant-loop-at l = SoFar (2 ^ 31) (line_at l.text l.line).words l.from l.numbers l.at
