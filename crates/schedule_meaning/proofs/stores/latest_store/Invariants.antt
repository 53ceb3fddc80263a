use Rattle.std.proofs.Common.{◌≡◌, take}
use Rattle.schedule_meaning.specs.Launches.{latest}
use Rattle.schedule_meaning.specs.Readers.{is_store_below}
use Rattle.schedule_meaning.proofs.stores.latest_store.Given as goal

abbrev pub invariant-loop-launch : goal.invariant-loop-launch
invariant-loop-launch l = l.best ≡ latest (is_store_below l.graph l.cycle) (take l.launch-index l.list)
