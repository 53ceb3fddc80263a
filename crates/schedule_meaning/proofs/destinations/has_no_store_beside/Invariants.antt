use Rattle.std.proofs.Common.{◌≡◌, take}
use Rattle.std.specs.Prelude.{All, IsTrue}
use Rattle.schedule_meaning.specs.Launches.{launches, is_store}
use Rattle.schedule_meaning.proofs.destinations.has_no_store_beside.Given as goal

abbrev pub invariant-loop-other : goal.invariant-loop-other
invariant-loop-other l =
    All (λ m. IsTrue (launches l.graph is_store m) → ¬ (m.cycle ≡ l.launch.cycle)) (take l.other-index l.list)
