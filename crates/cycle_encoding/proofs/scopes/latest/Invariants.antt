use Rattle.std.proofs.Common.{◌≡◌, drop}
use Rattle.cycle_encoding.specs.Coming.{last_come, last_come_from}
use Rattle.cycle_encoding.proofs.scopes.latest.Given as goal

abbrev pub invariant-loop-class : goal.invariant-loop-class
invariant-loop-class l = last_come_from l.come l.latest (drop l.class-index l.classes) ≡ last_come l.come l.classes
