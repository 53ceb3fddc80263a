use Rattle.std.proofs.Common.{◌≡◌, take, map}
use Rattle.saturation.specs.Numbered.{launched_row}
use Rattle.saturation.proofs.launching.launch_rows.Given as goal

abbrev pub invariant-loop-at : goal.invariant-loop-at
invariant-loop-at l = l.rows.items ≡ map (launched_row l.numbers l.used l.declared) (take l.at l.graph.rows)
