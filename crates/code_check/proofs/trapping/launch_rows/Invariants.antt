use Rattle.std.proofs.Common.{◌≡◌, take, map}
use Rattle.code_check.proofs.Aligning.{shown_row}
use Rattle.code_check.proofs.trapping.launch_rows.Given as goal

abbrev pub invariant-loop-at : goal.invariant-loop-at
invariant-loop-at l = l.rows.items ≡ map shown_row (take l.at l.graph.rows)
