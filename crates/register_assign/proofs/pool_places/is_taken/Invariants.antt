use Rattle.std.proofs.Common.{◌≡◌, take, false}
use Rattle.std.specs.Prelude.{◌&&◌, ◌==◌}
use Rattle.std.specs.List.{list_any, zip}
use Rattle.schedule_meaning.specs.Lifetimes.{holds}
use Rattle.schedule_meaning.specs.declared.schedules.Allocation.TheVariants.{Live}
use Rattle.register_assign.proofs.pool_places.is_taken.Given as goal

-- None of the launches so far has the place and holds it.
abbrev pub invariant-loop-before : goal.invariant-loop-before
invariant-loop-before l =
    list_any (λ h. (h.1 == l.place) && holds l.graph Live l.launches l.cycle h.0)
    (take l.before (zip l.launches l.places))
    ≡ false
