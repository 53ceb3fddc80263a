use Rattle.std.proofs.Common.{◌≡◌, take}
use Rattle.schedule_meaning.specs.Launches.{is_branch}
use Rattle.order_encoding.specs.OrderSteps.{launched_in}
use Rattle.order_encoding.proofs.kinds.branches.Given as goal

abbrev pub invariant-loop-index : goal.invariant-loop-index
invariant-loop-index l = l.found.items ≡ launched_in l.facts is_branch (take l.index l.launches)
