-- What fits in k cycles fits in more, and what fits in blocks fits by live ranges.
use Rattle.std.proofs.Common.{◌≡◌, ℕ, zero, suc, ◌<◌, ◌≤◌, List, [], ◌∷◌, length, inl, inr, ◌⊎◌, arith, true, get_or, Option, Some, None}
use Rattle.std.specs.Prelude.{All, IsSomeAnd, count_by, slice_get}
use Rattle.std.proofs.lemmas.List.Elements.{All-head, All-weaker}
use Rattle.machine_table.specs.Tables.{IsTable}
use Rattle.machine_table.specs.declared.tables.Table.{Table}
use Rattle.graph_meaning.specs.declared.graphs.SetClass.{SetClass}
use Rattle.graph_meaning.specs.declared.graphs.LaunchGraph.{LaunchGraph}
use Rattle.schedule_meaning.specs.Launches.{takes_pool}
use Rattle.schedule_meaning.specs.Lifetimes.{holds}
use Rattle.schedule_meaning.specs.Fits.{CanGo, CanGoTo, CanGoToPin, HasRoom, Fits}
use Rattle.schedule_meaning.specs.declared.schedules.Allocation.{Allocation}
use Rattle.schedule_meaning.specs.declared.schedules.Allocation.TheVariants.{Block, Live}
use Rattle.schedule_meaning.specs.declared.schedules.To.{To}
use Rattle.schedule_meaning.specs.declared.schedules.To.TheVariants.{Pool, Set}
use Rattle.schedule_meaning.specs.declared.schedules.Launch.{Launch}
use Rattle.schedule_meaning.proofs.Counted.{places_of_launches}
use Rattle.schedule_meaning.proofs.LiveRanges.{count_le, held_before, holds_takes}

-- ---- more cycles

module _ (g : LaunchGraph) (table : Table) (allocation : Allocation) (k m : ℕ) (ls : List Launch) (le : k ≤ m) where
  longer_by : HasRoom g allocation m ls → Fits g table allocation k ls → Fits g table allocation m ls
  longer_by room f = record {
    rows = f.rows;
    destinations = f.destinations;
    apart = f.apart;
    operands = f.operands;
    in_time = λ i d lt. (let ends = f.in_time i d lt in omega (arith, ends, le));
    targets = f.targets;
    memory = f.memory;
    one_branch = f.one_branch;
    after_branch = f.after_branch;
    pool = room;
  }

pub fits_longer_in_block : (g : LaunchGraph) (table : Table) (k m : ℕ) (ls : List Launch) → k ≤ m
    → Fits g table Block k ls → Fits g table Block m ls
fits_longer_in_block g table k m ls le f = longer_by g table Block k m ls le f.pool f

module _ (g : LaunchGraph) (ls : List Launch) where
  -- behind the last launch nothing is held but what was held in its cycle
  held_last : (k t : ℕ) → k ≤ t → All (λ l. l.cycle < suc k) ls
      → count_by (holds g Live ls t) ls ≤ count_by (holds g Live ls k) ls
  held_last k t le early =
      count_le (holds g Live ls t) (holds g Live ls k) ls
      (All-weaker (λ l. l.cycle < suc k) (λ l. holds g Live ls t l ≡ true → holds g Live ls k l ≡ true)
      (λ l lt h. held_before g ls k t l (omega arith) le h) ls early)

  none_held : (xs : List Launch) (t : ℕ) → All (λ l. l.cycle < 0) xs → count_by (holds g Live ls t) xs ≤ 0
  none_held [] t early = omega arith
  none_held (x ∷ xs) t early = let none : x.cycle < 0 = All-head (λ l. l.cycle < 0) x xs early in absurd (omega arith)

  either : (t k : ℕ) → (t < k) ⊎ (k ≤ t)
  either t k = grind arith

  pub room_longer : (k m : ℕ) → All (λ l. l.cycle < k) ls → HasRoom g Live k ls → HasRoom g Live m ls
  room_longer zero m early h t lt = let n = none_held ls t early in omega arith
  room_longer (suc k) m early h t lt =
      elim (either t (suc k)) [
        | inl less ↦ h t less
        | inr past ↦ (
            let last = held_last k t (omega arith) early in
            let room : count_by (holds g Live ls k) ls ≤ length g.pool = h k (omega arith) in
            omega arith)
      ]

module _ (g : LaunchGraph) (table : Table) where
  pub fits_longer : (allocation : Allocation) (k m : ℕ) (ls : List Launch) → IsTable table → k ≤ m
      → Fits g table allocation k ls → Fits g table allocation m ls
  fits_longer Block k m ls t le f = fits_longer_in_block g table k m ls le f
  fits_longer Live k m ls t le f =
      longer_by g table Live k m ls le
      (room_longer g ls k m (All-weaker (λ l. (l.cycle < k) × (l.slot < 8)) (λ l. l.cycle < k) (λ l h. h.0) ls
      (places_of_launches g table Live k ls t f)) f.pool) f

-- ---- by live ranges

module _ (g : LaunchGraph) (table : Table) (k : ℕ) (ls : List Launch) where
  pin_live : (l : Launch) (s : SetClass) (o : Option ℕ) → IsSomeAnd o (CanGoToPin g Block ls l s)
      → IsSomeAnd o (CanGoToPin g Live ls l s)
  pin_live l s None h = h
  pin_live l s (Some r) h = record { gives = h.gives; loads_over = λ load input. absurd (h.loads_over load input) }

  set_live : (l : Launch) (o : Option SetClass) → IsSomeAnd o (λ s. IsSomeAnd s.pin (CanGoToPin g Block ls l s))
      → IsSomeAnd o (λ s. IsSomeAnd s.pin (CanGoToPin g Live ls l s))
  set_live l None h = h
  set_live l (Some s) h = pin_live l s s.pin h

  go_live : (l : Launch) (to : To) → CanGoTo g Block ls l to → CanGoTo g Live ls l to
  go_live l Pool h = h
  go_live l (Set j) h = set_live l (slice_get g.sets j) h

  room_live : HasRoom g Block k ls → HasRoom g Live k ls
  room_live h t below =
      let fewer = count_le (holds g Live ls t) (takes_pool g) ls
      (λ i d lt held. holds_takes g ls Live t (get_or ls i d) held) in
      let room : count_by (takes_pool g) ls ≤ length g.pool = h in
      omega arith

  pub block_fits_live : Fits g table Block k ls → Fits g table Live k ls
  block_fits_live f = record {
    rows = f.rows;
    destinations = All-weaker (CanGo g Block ls) (CanGo g Live ls) (λ l h. go_live l l.to h) ls f.destinations;
    apart = f.apart;
    operands = f.operands;
    in_time = f.in_time;
    targets = f.targets;
    memory = f.memory;
    one_branch = f.one_branch;
    after_branch = f.after_branch;
    pool = room_live f.pool;
  }
