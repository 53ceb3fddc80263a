use Rattle.std.proofs.Common.{◌≡◌, take, true}
use Rattle.cycle_encoding.specs.Coming.{are_come}
use Rattle.cycle_encoding.proofs.coming.have_come.Given as goal

abbrev pub invariant-loop-class : goal.invariant-loop-class
invariant-loop-class l = are_come l.come l.cycle (take l.class-index l.classes) ≡ true
