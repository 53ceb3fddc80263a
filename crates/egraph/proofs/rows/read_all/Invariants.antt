use Rattle.std.proofs.Common.{◌≡◌, map, take, slice_index}
use Rattle.egraph.proofs.rows.read_all.Given as goal

abbrev pub invariant-loop-class : goal.invariant-loop-class
invariant-loop-class l = l.present.items ≡ map (slice_index l.current) (take l.class-index l.classes)
