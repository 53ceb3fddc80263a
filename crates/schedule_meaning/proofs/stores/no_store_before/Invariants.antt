use Rattle.std.proofs.Common.{◌≡◌}
use Rattle.std.specs.Prelude.{IsTrue}
use Rattle.schedule_meaning.specs.Launches.{launches, is_store}
use Rattle.schedule_meaning.specs.Broken.{NoEarlier}
use Rattle.schedule_meaning.proofs.stores.no_store_before.Given as goal

abbrev pub invariant-loop-before : goal.invariant-loop-before
invariant-loop-before l = NoEarlier l.list l.before (λ m. IsTrue (launches l.graph is_store m) × (m.cycle ≡ l.cycle))
