-- Which launch of a list breaks which rule first.
-- Source: this project.
use Rattle.std.specs.Prelude.{◌≡◌, ℕ, ◌<◌, List, length, Some, IsTrue, slice_get}
use Rattle.graph_meaning.specs.Graphs.{memory_target}
use Rattle.schedule_meaning.specs.Launches.{launches, is_store, memory_class_at, memory_before, memory_after}
use Rattle.schedule_meaning.specs.Fits.{CanLaunch, CanGo, Collide, CanRead, EndsBy, AreReached, UsesMemory, HasOneBranch, HasRoom, Waits}
use Rattle.schedule_meaning.specs.declared.fitting.Rule.{Rule}
use Rattle.schedule_meaning.specs.declared.fitting.Rule.TheVariants.{Rows, Apart, Operands, InTime, Targets, Memory, OneBranch, AfterBranch, Pool}
use Rattle.machine_table.specs.declared.tables.Table.{Table}
use Rattle.graph_meaning.specs.declared.graphs.LaunchGraph.{LaunchGraph}
use Rattle.schedule_meaning.specs.declared.schedules.Allocation.{Allocation}
use Rattle.schedule_meaning.specs.declared.schedules.Launch.{Launch}

-- the launch m stands earlier in the list than place i, and R holds of it
abbrev pub NoEarlier : List Launch → ℕ → (Launch → Type 0) → Type 0
NoEarlier ls i R = (j : ℕ) (m : Launch) → j < i → slice_get ls j ≡ Some m → ¬ R m

-- what rule 6 asks of the launch at place i
pub record KeepsMemoryAt (g : LaunchGraph) (ls : List Launch) (i : ℕ) (l : Launch) : Type 0 where
  pub reads : UsesMemory g l → memory_class_at g l.row ≡ memory_before g ls l.cycle
  pub single : IsTrue (launches g is_store l)
      → NoEarlier ls i (λ m. IsTrue (launches g is_store m) × (m.cycle ≡ l.cycle))

-- the number of each rule, of which some speak of a launch l at place i of the list, and three of the whole list alone
abbrev pub number : Rule → ℕ
number Rows = 1
number Apart = 2
number Operands = 3
number InTime = 4
number Targets = 5
number Memory = 6
number OneBranch = 7
number AfterBranch = 8
number Pool = 9

module _ (g : LaunchGraph) (table : Table) (a : Allocation) (k : ℕ) (ls : List Launch) where
  -- what a rule asks of one launch
  abbrev pub Asks : Rule → ℕ → Launch → Type 0
  Asks Rows i l = CanLaunch g table l × CanGo g a ls l
  Asks Apart i l = NoEarlier ls i (Collide l)
  Asks Operands i l = CanRead g table ls l
  Asks InTime i l = EndsBy g table k l
  Asks Memory i l = KeepsMemoryAt g ls i l
  Asks AfterBranch i l = Waits g ls l
  Asks _ i l = Unit {0}

  -- what it asks of the schedule as a whole
  abbrev pub AsksOfAll : Rule → Type 0
  AsksOfAll Targets = AreReached g ls
  AsksOfAll Memory = memory_after g ls ≡ memory_target g
  AsksOfAll OneBranch = HasOneBranch g ls
  AsksOfAll Pool = HasRoom g a k ls
  AsksOfAll _ = Unit {0}

  -- the rule is kept by the launches before place i
  abbrev pub KeptBelow : Rule → ℕ → Type 0
  KeptBelow rule i = (j : ℕ) (m : Launch) → j < i → slice_get ls j ≡ Some m → Asks rule j m

  pub record IsKept (rule : Rule) : Type 0 where
    pub each : KeptBelow rule (length ls)
    pub whole : AsksOfAll rule

  -- the first launch that breaks the rule; the list's length where none does and the whole breaks it
  pub data Breaks (rule : Rule) : ℕ → Type 0 where
    at : (i : ℕ) (l : Launch) → slice_get ls i ≡ Some l → KeptBelow rule i → ¬ Asks rule i l → Breaks rule i
    whole : KeptBelow rule (length ls) → ¬ AsksOfAll rule → Breaks rule (length ls)

  -- the least broken rule, and the first launch that breaks it
  pub record IsFirstBroken (launch rule : ℕ) : Type 0 where
    pub which : Rule
    pub is : number which ≡ rule
    pub earlier : (r : Rule) → number r < rule → IsKept r
    pub broken : Breaks which launch
