use Rattle.std.proofs.Common.{◌≡◌, take}
use Rattle.std.specs.Prelude.{count_by}
use Rattle.schedule_meaning.specs.Launches.{goes_to}
use Rattle.schedule_meaning.proofs.targets.launches_to.Given as goal

abbrev pub invariant-loop-launch : goal.invariant-loop-launch
invariant-loop-launch l = l.count ≡ count_by (goes_to l.number) (take l.launch-index l.list)
