use Rattle.text_core.specs.Lines.{line_at}
use Rattle.launch_graph.proofs.Numbers.{SoFar}
use Rattle.launch_graph.proofs.line_reading.pool_line.Given as goal

abbrev pub invariant-loop-at : goal.invariant-loop-at
invariant-loop-at l = SoFar 31 (line_at l.text l.line).words 1 l.pool l.at
