-- When a schedule fits a graph and a table in k cycles: the nine rules that it keeps. Source: this project, over Denali
-- (PLDI 2002): issue slots, latencies, clusters, memory in order, the guard's branch.
use Rattle.std.specs.Prelude.{◌≡◌, ℕ, ◌+◌, ◌<◌, ◌≤◌, List, length, unwrap_or, All, AllPairs, Any, IsTrue, IsSomeAnd, IfSome, Option, Some, None, ◌⊎◌, count_by, slice_get}
use Rattle.machine_table.specs.Tables.{MayUse, latency_of}
use Rattle.graph_meaning.specs.Graphs.{memory_target, is_memory_name, is_input_register}
use Rattle.schedule_meaning.specs.Launches.{instr_at, launches, is_load, is_store, is_branch, operands_at, memory_class_at, class_at, IsZero, IsFree, IsUnwritten, HasInput, IsReadable, Gives, is_held, goes_to, overwrites, takes_pool}
use Rattle.schedule_meaning.specs.Lifetimes.{holds}
use Rattle.machine_table.specs.declared.tables.Table.{Table}
use Rattle.graph_meaning.specs.declared.graphs.SetClass.{SetClass}
use Rattle.graph_meaning.specs.declared.graphs.LaunchGraph.{LaunchGraph}
use Rattle.schedule_meaning.specs.declared.schedules.Allocation.{Allocation}
use Rattle.schedule_meaning.specs.declared.schedules.Allocation.TheVariants.{Block, Live}
use Rattle.schedule_meaning.specs.declared.schedules.To.{To}
use Rattle.schedule_meaning.specs.declared.schedules.To.TheVariants.{Pool, Set}
use Rattle.schedule_meaning.specs.declared.schedules.Launch.{Launch}
use Rattle.machine_table.specs.declared.tables.InstrKind.TheVariants.{Beq}

-- the row can be launched, or is the branch or a copy, in a slot that the table allows for its instruction
abbrev pub CanLaunch : LaunchGraph → Table → Launch → Type 0
CanLaunch g table l = IsSomeAnd (instr_at g l.row) (λ i. MayUse table i l.slot)

-- a load may overwrite an input's register: nowhere; or where no store launches in its cycle
abbrev pub MayLoadOver : LaunchGraph → Allocation → List Launch → Launch → Type 0
MayLoadOver g Block ls l = ⊥
MayLoadOver g Live ls l = All (λ m. IsTrue (launches g is_store m) → ¬ (m.cycle ≡ l.cycle)) ls

-- the launch gives the set's word, and where it is a load and the pin an input's register, it may overwrite that
pub record CanGoToPin (g : LaunchGraph) (a : Allocation) (ls : List Launch) (l : Launch) (s : SetClass) (r : ℕ) : Type 0
  where
    pub gives : Gives g s.class l
    pub loads_over : IsTrue (launches g is_load l) → IsTrue (is_input_register g r) → MayLoadOver g a ls l

-- the launch goes to the pool, or to a set that is there and has a pin
abbrev pub CanGoTo : LaunchGraph → Allocation → List Launch → Launch → To → Type 0
CanGoTo g a ls l Pool = Unit {0}
CanGoTo g a ls l (Set j) = IsSomeAnd (slice_get g.sets j) (λ s. IsSomeAnd s.pin (CanGoToPin g a ls l s))

abbrev pub CanGo : LaunchGraph → Allocation → List Launch → Launch → Type 0
CanGo g a ls l = CanGoTo g a ls l l.to

abbrev pub Collide : Launch → Launch → Type 0
Collide l m = (l.cycle ≡ m.cycle) × (l.slot ≡ m.slot)

-- each word operand is free, or is readable at the launch's cycle in its slot's cluster
abbrev pub CanRead : LaunchGraph → Table → List Launch → Launch → Type 0
CanRead g table ls l =
    All (λ o. IsFree g o ⊎ IsReadable g table ls l o.class) (operands_at g l.row)

abbrev pub EndsBy : LaunchGraph → Table → ℕ → Launch → Type 0
EndsBy g table k l = l.cycle + unwrap_or (latency_of table (unwrap_or (instr_at g l.row) Beq)) 0 ≤ k

-- the class's word is in some register at the end
abbrev pub IsInSomeRegister : LaunchGraph → List Launch → ℕ → Type 0
IsInSomeRegister g ls class = HasInput g class (IsUnwritten g ls) ⊎ IsZero g class ⊎ Any (Gives g class) ls

-- the pin holds the class's word at the end: one launch goes to its set, or none does and an input has the word there
abbrev pub IsInItsPin : LaunchGraph → ℕ → ℕ → ℕ → Type 0
IsInItsPin g launched class pin = (launched ≡ 1) ⊎ ((launched ≡ 0) × HasInput g class (λ r. r ≡ pin))

-- a word target has a place where its value is at the end: without a pin in any register, with one in that alone
abbrev pub IsWhereWanted : LaunchGraph → List Launch → ℕ → SetClass → Option ℕ → Type 0
IsWhereWanted g ls j s None = IsInSomeRegister g ls s.class
IsWhereWanted g ls j s (Some pin) = IsInItsPin g (count_by (goes_to j) ls) s.class pin

-- the j-th set is the memory, or has its place
abbrev pub IsReached : LaunchGraph → List Launch → ℕ → SetClass → Type 0
IsReached g ls j s = IsTrue (is_memory_name s.name) ⊎ IsWhereWanted g ls j s s.pin

abbrev pub AreReached : LaunchGraph → List Launch → Type 0
AreReached g ls = (j : ℕ) (s : SetClass) → slice_get g.sets j ≡ Some s → IsReached g ls j s

-- the store is of the latest cycle below t in which there is one
pub record IsLatestStore (g : LaunchGraph) (ls : List Launch) (t : ℕ) (l : Launch) : Type 0 where
  pub store : IsTrue (launches g is_store l)
  pub early : l.cycle < t
  pub latest : All (λ m. IsTrue (launches g is_store m) → m.cycle < t → m.cycle ≤ l.cycle) ls

-- the class of the memory left by the stores of cycles below t, which is the entry before the first
abbrev pub IsLeft : LaunchGraph → List Launch → ℕ → ℕ → Type 0
IsLeft g ls t class =
    ((class ≡ g.entry) × All (λ m. IsTrue (launches g is_store m) → t ≤ m.cycle) ls)
    ⊎ Any (λ l. IsLatestStore g ls t l × (class ≡ class_at g l.row)) ls

abbrev pub UsesMemory : LaunchGraph → Launch → Type 0
UsesMemory g l = IsTrue (launches g is_load l) ⊎ IsTrue (launches g is_store l)

-- no cycle has two stores
abbrev pub HasSingleStores : LaunchGraph → List Launch → Type 0
HasSingleStores g ls =
    AllPairs (λ l m. IsTrue (launches g is_store l) → IsTrue (launches g is_store m) → ¬ (l.cycle ≡ m.cycle)) ls

pub record KeepsMemory (g : LaunchGraph) (ls : List Launch) : Type 0 where
  pub each : All (λ l. UsesMemory g l → IsLeft g ls l.cycle (memory_class_at g l.row)) ls
  pub single : HasSingleStores g ls
  -- t is a cycle after all launches
  pub last : (t : ℕ) → All (λ l. l.cycle < t) ls → IsLeft g ls t (memory_target g)

abbrev pub HasOneBranch : LaunchGraph → List Launch → Type 0
HasOneBranch g ls = IfSome g.guard (λ _. count_by (launches g is_branch) ls ≡ 1)

-- with a guard, no store launches in an earlier cycle than the branch, nor does a load that is held, nor what overwrites
-- an input
abbrev pub Waits : LaunchGraph → List Launch → Launch → Type 0
Waits g ls l =
    IsTrue (launches g is_store l) ⊎ (IsTrue (launches g is_load l) × IsTrue (is_held g)) ⊎ IsTrue (overwrites g l) →
    All (λ b. IsTrue (launches g is_branch b) → b.cycle ≤ l.cycle) ls

-- there is a register of the pool for each launch that takes one; or in each cycle below k for each that holds one
abbrev pub HasRoom : LaunchGraph → Allocation → ℕ → List Launch → Type 0
HasRoom g Block k ls = count_by (takes_pool g) ls ≤ length g.pool
HasRoom g Live k ls = (t : ℕ) → t < k → count_by (holds g Live ls t) ls ≤ length g.pool

pub record Fits (g : LaunchGraph) (table : Table) (a : Allocation) (k : ℕ) (ls : List Launch) : Type 0 where
  pub rows : All (CanLaunch g table) ls
  pub destinations : All (CanGo g a ls) ls
  pub apart : AllPairs (λ l m. ¬ Collide l m) ls
  pub operands : All (CanRead g table ls) ls
  pub in_time : All (EndsBy g table k) ls
  pub targets : AreReached g ls
  pub memory : KeepsMemory g ls
  pub one_branch : HasOneBranch g ls
  pub after_branch : All (Waits g ls) ls
  pub pool : HasRoom g a k ls
