use Rattle.std.proofs.Common.{◌≡◌, take}
use Rattle.schedule_meaning.specs.Launches.{is_store}
use Rattle.order_encoding.specs.OrderSteps.{launched_in}
use Rattle.order_encoding.proofs.kinds.stores.Given as goal

abbrev pub invariant-loop-index : goal.invariant-loop-index
invariant-loop-index l = l.found.items ≡ launched_in l.facts is_store (take l.index l.launches)
