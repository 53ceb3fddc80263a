use Rattle.launch_graph.specs.BehindRows.{AreSetsAt}
use Rattle.launch_graph.proofs.behind_rows.read_sets.Given as goal

abbrev pub invariant-loop-line : goal.invariant-loop-line
invariant-loop-line l = AreSetsAt l.version l.text l.marks l.first l.line l.sets
