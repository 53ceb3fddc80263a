use Rattle.std.proofs.Common.{◌≡◌, take}
use Rattle.least_launch.specs.LeastAnswers.{some_is_most}
use Rattle.least_launch.proofs.reporting.some_is_most.Given as goal

abbrev pub invariant-loop-tail : goal.invariant-loop-tail
invariant-loop-tail l = l.some ≡ some_is_most (take l.tail-index l.said)
