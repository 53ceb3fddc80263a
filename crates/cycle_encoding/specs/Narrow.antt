-- The narrow encoding, that with pins, and that by live ranges: variables only for launches that can start by their
-- cycle and whose word is wanted, by where they go, and only for wanted classes. Source: this project.
use Rattle.std.specs.Prelude.{◌≡◌, ℕ, ◌+◌, ◌≤◌, Bool, true, false, Some, None, Option, IsTrue, Contains, Decides, ◌⊎◌, ◌||◌, slice_get}
use Rattle.std.specs.List.{filter}
use Rattle.word_ops.specs.declared.sorts.Access.TheVariants.{Quad}
use Rattle.word_ops.specs.declared.sorts.Op.{Op}
use Rattle.word_ops.specs.declared.sorts.Op.TheVariants.{Store, Put}
use Rattle.machine_table.specs.Tables.{use_of}
use Rattle.graph_meaning.specs.Graphs.{is_memory_name, IsPin}
use Rattle.schedule_meaning.specs.Launches.{instr_at, launches, gives_word, is_load, is_store, is_branch, class_at}
use Rattle.schedule_meaning.specs.Launches.{operands_at, memory_class_at, HasInput, IsFree, IsClassOfInput}
use Rattle.schedule_meaning.specs.declared.schedules.Operand.{Operand}
use Rattle.machine_table.specs.declared.tables.Table.{Table}
use Rattle.machine_table.specs.declared.tables.Use.{Use}
use Rattle.machine_table.specs.declared.tables.InstrKind.{InstrKind}
use Rattle.machine_table.specs.declared.tables.InstrKind.TheVariants as kinds
use Rattle.graph_meaning.specs.declared.graphs.LaunchGraph.{LaunchGraph}
use Rattle.graph_meaning.specs.declared.graphs.LaunchRow.{LaunchRow}
use Rattle.graph_meaning.specs.declared.graphs.SetClass.{SetClass}
use Rattle.schedule_meaning.specs.declared.schedules.Allocation.{Allocation}
use Rattle.schedule_meaning.specs.declared.schedules.Allocation.TheVariants.{Live}
use Rattle.schedule_meaning.specs.declared.schedules.Launch.{Launch}
use Rattle.cycle_encoding.specs.Variables.{all_seen}
use Rattle.cycle_encoding.specs.Variables.{all_launches, made_classes}
use Rattle.cycle_encoding.specs.CycleFormula.{Listed}

-- the operators whose rows are stores of a 64-bit word
abbrev pub is_quad_store : Op → Bool
is_quad_store (Store Quad) = true
is_quad_store (Put Quad) = true
is_quad_store op = false

-- an input of the class has a register that is no pin
abbrev pub IsSafe : LaunchGraph → ℕ → Type 0
IsSafe g class = HasInput g class (λ r. ¬ IsPin g r)

-- a word operand of the row's number that is neither free nor of a class which is there without a launch
pub record Lacks (g : LaunchGraph) (IsThere : ℕ → Type 0) (row : ℕ) (o : Operand) : Type 0 where
  pub operand : Contains (operands_at g row) o
  pub free : ¬ IsFree g o
  pub there : ¬ IsThere o.class

-- the least set of classes with those of word targets; of what the branch lacks, and each store that can be launched or
-- is one of a 64-bit word; and of what each row or copy of a wanted class lacks that can be launched. A safe class is
-- wanted by a pinned target alone
pub data Wanted (g : LaunchGraph) : ℕ → Type 0 where
  target : (s : SetClass) → Contains g.sets s → ¬ IsTrue (is_memory_name s.name) → ¬ IsSafe g s.class
      → Wanted g s.class
  pinned : (s : SetClass) (r : ℕ) → Contains g.sets s → s.pin ≡ Some r → Wanted g s.class
  guard : (row : ℕ) (o : Operand) (i : InstrKind) → instr_at g row ≡ Some i → IsTrue (is_branch i)
      → Lacks g (IsSafe g) row o → Wanted g o.class
  store : (row : ℕ) (o : Operand) (i : InstrKind) → instr_at g row ≡ Some i → IsTrue (is_store i)
      → Lacks g (IsSafe g) row o → Wanted g o.class
  quad_store : (row : ℕ) (r : LaunchRow) (o : Operand) → slice_get g.rows row ≡ Some r → IsTrue (is_quad_store r.op)
      → Lacks g (IsSafe g) row o → Wanted g o.class
  operand : (row : ℕ) (o : Operand) (i : InstrKind) → instr_at g row ≡ Some i → IsTrue (gives_word i)
      → Wanted g (class_at g row) → Lacks g (IsSafe g) row o → Wanted g o.class

-- the instruction reads a memory: it is a load or a store
abbrev pub accesses : InstrKind → Bool
accesses i = is_load i || is_store i

-- a launch of the row can start only when this class has come: that of a word operand that the row lacks; and by live
-- ranges that of the memory which it reads, if that isn't the one at entry
pub data Awaits (g : LaunchGraph) (a : Allocation) (row : ℕ) : ℕ → Type 0 where
  word : (o : Operand) → Lacks g (IsClassOfInput g) row o → Awaits g a row o.class
  memory : (i : InstrKind) → a ≡ Live → instr_at g row ≡ Some i → IsTrue (accesses i)
      → ¬ (memory_class_at g row ≡ g.entry) → Awaits g a row (memory_class_at g row)

-- how many cycles behind its start a launch's class has come: a word after its latency, a store's memory in the next
abbrev pub delay_of : InstrKind → Use → Option ℕ
delay_of (kinds.Store access) u = Some 1
delay_of kinds.Beq u = None
delay_of i u = Some u.latency

-- some row or copy of the class can start so early that its word is ready by t in its own cluster, or its memory left
pub data HasCome (g : LaunchGraph) (table : Table) (a : Allocation) : ℕ → ℕ → Type 0 where
  come : (row start t delay : ℕ) (i : InstrKind) (u : Use) → instr_at g row ≡ Some i → use_of table i ≡ Some u
      → delay_of i u ≡ Some delay → start + delay ≤ t
      → ((class : ℕ) → Awaits g a row class → HasCome g table a class start)
      → HasCome g table a (class_at g row) t

-- each class that a launch of the row awaits has come by t
abbrev pub CanStart : LaunchGraph → Table → Allocation → ℕ → ℕ → Type 0
CanStart g table a row t = (class : ℕ) → Awaits g a row class → HasCome g table a class t

-- the launch has a variable
pub record HasVariable (g : LaunchGraph) (table : Table) (a : Allocation) (l : Launch) : Type 0 where
  pub start : CanStart g table a l.row l.cycle
  pub wanted : IsTrue (launches g is_store l) ⊎ IsTrue (launches g is_branch l) ⊎ Wanted g (class_at g l.row)

-- the lists of these encodings, in the order of all launches and of all made classes
pub record IsPinnedList (g : LaunchGraph) (table : Table) (a : Allocation) (k : ℕ) (e : Listed) : Type 0 where
  pub allocation_is : e.allocation ≡ a
  pub keep : Launch → Bool
  pub keeps : (l : Launch) → Contains (all_launches g table a k) l → Decides (keep l) (HasVariable g table a l)
  pub launches_are : e.launches ≡ filter keep (all_launches g table a k)
  pub want : ℕ → Bool
  pub wants : (c : ℕ) → Contains (made_classes g) c → Decides (want c) (Wanted g c)
  pub seen_are : e.seen ≡ all_seen table k (filter want (made_classes g))
