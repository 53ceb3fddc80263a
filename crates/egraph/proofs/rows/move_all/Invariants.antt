use Rattle.std.proofs.Common.{◌≡◌, map, take, drop, ◌++◌}
use Rattle.egraph.specs.Steps.{moved}
use Rattle.egraph.proofs.rows.move_all.Given as goal

abbrev pub invariant-loop-class : goal.invariant-loop-class
invariant-loop-class l = l.classes ≡ map (moved l.from l.to) (take l.class-index l.initial.classes) ++ drop l.class-index l.initial.classes
