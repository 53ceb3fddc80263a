use Rattle.std.proofs.Common.{◌≡◌, [], ◌∷◌, ◌++◌, length, take}
use Rattle.std.specs.List.{fold}
use Rattle.register_assign.specs.PoolPlaces.{first_free}
use Rattle.register_assign.proofs.pool_places.live_places.Given as goal

abbrev pub invariant-loop-launch : goal.invariant-loop-launch
invariant-loop-launch l =
    (length l.places.items ≡ l.launch-index)
    × (l.places.items
    ≡ fold (λ places m. places ++ first_free l.graph l.launches places m.cycle ∷ []) []
    (take l.launch-index l.launches))
