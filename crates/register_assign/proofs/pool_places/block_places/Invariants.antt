use Rattle.std.proofs.Common.{◌≡◌, ℕ, ◌<◌, length}
use Rattle.std.specs.Prelude.{slice_index}
use Rattle.schedule_meaning.specs.declared.schedules.Allocation.TheVariants.{Block}
use Rattle.register_assign.specs.PoolPlaces.{pool_place}
use Rattle.register_assign.proofs.pool_places.block_places.Given as goal

abbrev pub invariant-loop-place : goal.invariant-loop-place
invariant-loop-place l =
    (length l.places.items ≡ l.place)
    × ((i : ℕ) → i < l.place → slice_index l.places.items i ≡ pool_place l.graph Block l.launches i)
