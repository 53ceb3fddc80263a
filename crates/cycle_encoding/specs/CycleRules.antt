-- What the formula of cycles, slots and values says: which launches the values of its variables show.
-- Source: this project.
use Rattle.std.specs.Prelude.{ℕ, ◌<◌, length, ◌≡◌, ◌↔◌, ◌≤◌, Bool, List, Some, None, All, AllPairs, Any, Contains}
use Rattle.std.specs.Prelude.{IsTrue, ◌⊎◌, count_by, IsSomeAnd, slice_get}
use Rattle.machine_table.specs.declared.tables.Table.{Table}
use Rattle.schedule_meaning.specs.declared.schedules.Launch.{Launch}
use Rattle.cnf_core.specs.Formula.{Satisfies}
use Rattle.cnf_core.specs.Counter.{Extends}
use Rattle.graph_meaning.specs.Graphs.{is_memory_name, is_input_register}
use Rattle.graph_meaning.specs.declared.graphs.LaunchGraph.{LaunchGraph}
use Rattle.graph_meaning.specs.declared.graphs.SetClass.{SetClass}
use Rattle.schedule_meaning.specs.Launches.{goes_to, pin_of, launches, is_load, is_store, class_at, memory_class_at, Gives}
use Rattle.schedule_meaning.specs.Fits.{CanLaunch, Collide, CanRead, EndsBy, IsInSomeRegister}
use Rattle.schedule_meaning.specs.declared.schedules.Allocation.{Allocation}
use Rattle.schedule_meaning.specs.declared.schedules.Allocation.TheVariants.{Live}
use Rattle.schedule_meaning.specs.declared.schedules.To.{To}
use Rattle.schedule_meaning.specs.declared.schedules.To.TheVariants.{Pool, Set}
use Rattle.cycle_encoding.specs.Shapes.{shown}
use Rattle.cycle_encoding.specs.Narrow.{accesses}
use Rattle.cycle_encoding.specs.CycleFormula.{Listed, launch_vars}
use Rattle.cycle_encoding.specs.Variables.{all_overwritten, is_overwriting, Overwritten}
use Rattle.cycle_encoding.specs.CycleFormula.{overwritten_vars, cycle_formula}

-- the launch is in a slot of the table, in one of k cycles
abbrev pub HasPlace : Table → ℕ → Launch → Type 0
HasPlace table k l = (l.slot < length table.slots) × (l.cycle < k)

-- a word target without a pin has its class in some register at the end
abbrev pub IsFreeReached : LaunchGraph → List Launch → SetClass → Type 0
IsFreeReached g ls s = s.pin ≡ None → IsTrue (is_memory_name s.name) ⊎ IsInSomeRegister g ls s.class

-- the launch gives the set's word, and by live ranges alone a load goes where it overwrites an input's register
pub record MayGoToPin (g : LaunchGraph) (a : Allocation) (l : Launch) (s : SetClass) (r : ℕ) : Type 0 where
  pub gives : Gives g s.class l
  pub loads_over : IsTrue (launches g is_load l) → IsTrue (is_input_register g r) → a ≡ Live

-- the launch goes to the pool, or to a set that is there and has a pin
abbrev pub MayGoTo : LaunchGraph → Allocation → Launch → To → Type 0
MayGoTo g a l Pool = Unit {0}
MayGoTo g a l (Set j) = IsSomeAnd (slice_get g.sets j) (λ s. IsSomeAnd s.pin (MayGoToPin g a l s))

-- the launch may go where it goes, as far as that hangs on it alone
abbrev pub MayGo : LaunchGraph → Allocation → Launch → Type 0
MayGo g a l = MayGoTo g a l l.to

-- launches keep the first four rules of a schedule, and the fifth for targets without a pin: of rows, destinations,
-- slots, operands, cycles and targets, and not those of memory, the branch and the pool; nor that no load overwrites an
-- input's register in the cycle of a store
pub record KeepsCycleRules (g : LaunchGraph) (table : Table) (a : Allocation) (k : ℕ) (ls : List Launch) : Type 0 where
  pub rows : All (CanLaunch g table) ls
  pub destinations : All (MayGo g a) ls
  pub apart : AllPairs (λ l m. ¬ Collide l m) ls
  pub operands : All (CanRead g table ls) ls
  pub in_time : All (EndsBy g table k) ls
  pub targets : All (IsFreeReached g ls) g.sets

-- the launch is a store of an earlier cycle than t, and leaves the memory of this class
pub record LeavesBelow (g : LaunchGraph) (t class : ℕ) (l : Launch) : Type 0 where
  pub store : IsTrue (launches g is_store l)
  pub early : l.cycle < t
  pub leaves : class_at g l.row ≡ class

-- each load and store reads the memory at entry, or one that a store of an earlier cycle leaves
abbrev pub FindsMemory : LaunchGraph → List Launch → Type 0
FindsMemory g ls =
    All
    (λ l. IsTrue (launches g accesses l)
    → (memory_class_at g l.row ≡ g.entry) ⊎ Any (LeavesBelow g l.cycle (memory_class_at g l.row)) ls)
    ls

-- a launch of these went to the set in a cycle below this one
abbrev pub WasOverwritten : List Launch → Overwritten → Type 0
WasOverwritten ls v = Any (λ l. IsTrue (goes_to v.set l) × (l.cycle < v.cycle)) ls

-- at most one launch goes to each pinned set, and what was overwritten is known to be so
pub record ArePinsKept (g : LaunchGraph) (k : ℕ) (ls : List Launch) (known : List Overwritten) : Type 0 where
  pub few : (j r : ℕ) → pin_of g (Set j) ≡ Some r → count_by (goes_to j) ls ≤ 1
  pub over : (v : Overwritten) → IsTrue (is_overwriting g v.set) → v.cycle ≤ k → WasOverwritten ls v
      → Contains known v

-- some values satisfy the formula, and show exactly these launches and what they overwrite, whatever they give variables
-- above the formula's
pub record AreShown (g : LaunchGraph) (table : Table) (k : ℕ) (e : Listed) (ls : List Launch) : Type 0 where
  pub values : ℕ → Bool
  pub satisfy : (w : ℕ → Bool) → Extends (cycle_formula g table k e).vars values w
      → Satisfies w (cycle_formula g table k e).clauses
  pub show : (w : ℕ → Bool) → Extends (cycle_formula g table k e).vars values w
      → (l : Launch) → Contains (shown w (launch_vars e)) l ↔ Contains ls l
  pub overwrite : (w : ℕ → Bool) → Extends (cycle_formula g table k e).vars values w
      → (v : Overwritten) → Contains (shown w (overwritten_vars g table k e)) v
      ↔ (Contains (all_overwritten g k) v × WasOverwritten ls v)
