use Rattle.std.proofs.Common.{◌≡◌, take}
use Rattle.own_graph.specs.Rows.{classes_of, with_leaves}
use Rattle.own_graph.proofs.rows.place_parts.Given as goal

abbrev pub invariant-loop-part : goal.invariant-loop-part
invariant-loop-part l = record {
  rows : l.rows.items ≡ with_leaves l.initial.rows.items (take l.part-index l.parts);
  classes : l.classes.items ≡ classes_of (with_leaves l.initial.rows.items (take l.part-index l.parts)) (take l.part-index l.parts);
}
