use Rattle.launch_graph.specs.BehindRows.{AreInputsAt}
use Rattle.launch_graph.proofs.behind_rows.read_inputs.Given as goal

abbrev pub invariant-loop-line : goal.invariant-loop-line
invariant-loop-line l = AreInputsAt l.text l.marks l.first l.line l.inputs
