use Rattle.std.proofs.Common.{◌≡◌, None, find, take}
use Rattle.own_graph.specs.Rows.{applies}
use Rattle.own_graph.proofs.rows.class_in.Given as goal

abbrev pub invariant-loop-row : goal.invariant-loop-row
invariant-loop-row l = find (applies l.op l.operands) (take l.row-index l.rows) ≡ None
