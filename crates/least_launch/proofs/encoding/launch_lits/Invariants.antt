use Rattle.std.proofs.Common.{◌≡◌, take}
use Rattle.least_launch.specs.FewerLaunches.{launch_literals}
use Rattle.least_launch.proofs.encoding.launch_lits.Given as goal

abbrev pub invariant-loop-place : goal.invariant-loop-place
invariant-loop-place l = l.lits.items ≡ launch_literals (take l.place l.launches)
