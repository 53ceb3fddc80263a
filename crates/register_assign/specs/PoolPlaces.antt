-- Which register of the pool each launch has that takes one, by its place there.
-- Source: this project; by live ranges as in linear scan register allocation (Poletto and Sarkar, TOPLAS 1999).
use Rattle.std.specs.Prelude.{◌≡◌, ℕ, ◌<◌, List, [], ◌∷◌, ◌++◌, length, ◌==◌, ◌&&◌, Bool, count_by, take, slice_index}
use Rattle.std.specs.List.{fold, list_any, prefix_len, range_with_len, zip}
use Rattle.schedule_meaning.specs.Launches.{takes_pool}
use Rattle.schedule_meaning.specs.Lifetimes.{holds}
use Rattle.graph_meaning.specs.declared.graphs.LaunchGraph.{LaunchGraph}
use Rattle.schedule_meaning.specs.declared.schedules.Allocation.{Allocation}
use Rattle.schedule_meaning.specs.declared.schedules.Allocation.TheVariants.{Block, Live}
use Rattle.schedule_meaning.specs.declared.schedules.Launch.{Launch}

-- ---- by live ranges. `ordered` is the schedule in word order, and the first of its launches have these places

-- one of those launches has the place, and holds it at cycle t
abbrev pub is_taken : LaunchGraph → List Launch → List ℕ → ℕ → ℕ → Bool
is_taken g ordered places t place =
    list_any (λ h. (h.1 == place) && holds g Live ordered t h.0) (zip ordered places)

-- the first place of the pool that isn't taken at cycle t
abbrev pub first_free : LaunchGraph → List Launch → List ℕ → ℕ → ℕ
first_free g ordered places t = prefix_len (is_taken g ordered places t) (range_with_len 0 (length g.pool))

-- the launches are gone through in word order, and each gets the first place that no launch before it has and holds in
-- its cycle; what takes no register of the pool holds none, so its place is of no account
abbrev pub live_places : LaunchGraph → List Launch → List ℕ
live_places g ordered = fold (λ places l. places ++ first_free g ordered places l.cycle ∷ []) [] ordered

-- ---- the place in the pool of the launch at place i of the word order

-- to the end of the block: the n-th launch that takes a register has the n-th place
abbrev pub pool_place : LaunchGraph → Allocation → List Launch → ℕ → ℕ
pool_place g Block ordered i = count_by (takes_pool g) (take i ordered)
pool_place g Live ordered i = slice_index (live_places g ordered) i

-- these are the places of all launches
abbrev pub ArePlaces : LaunchGraph → Allocation → List Launch → List ℕ → Type 0
ArePlaces g a ordered places = (i : ℕ) → i < length ordered → slice_index places i ≡ pool_place g a ordered i
