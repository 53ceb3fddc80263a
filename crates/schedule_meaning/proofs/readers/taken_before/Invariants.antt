use Rattle.std.proofs.Common.{◌≡◌, take}
use Rattle.std.specs.Prelude.{count_by}
use Rattle.schedule_meaning.specs.Launches.{takes_pool}
use Rattle.schedule_meaning.proofs.readers.taken_before.Given as goal

abbrev pub invariant-loop-before : goal.invariant-loop-before
invariant-loop-before l = l.count ≡ count_by (takes_pool l.graph) (take l.before l.list)
