use Rattle.std.proofs.Common.{◌≡◌, map, take, slice_index}
use Rattle.egraph.proofs.rows.reads_as.Given as goal

abbrev pub invariant-loop-at : goal.invariant-loop-at
invariant-loop-at l = take l.at l.present ≡ map (slice_index l.current) (take l.at l.classes)
