-- When a schedule fits a graph of which no set has a pin: what the rules say there.
-- Source: this project.
use Rattle.std.specs.Prelude.{ℕ, ◌<◌, ◌≤◌, List, length, Option, ◌==◌, ◌&&◌, ◌||◌, nat_lt, Bool, not, option_map, option_and_then, if◌then◌else◌, All, AllPairs, Any, IsTrue, ◌⊎◌, count_by, slice_get}
use Rattle.std.specs.Option.{option_map_or}
use Rattle.std.specs.List.{list_any}
use Rattle.machine_table.specs.Tables.{cluster_of}
use Rattle.graph_meaning.specs.Graphs.{is_memory_name, is_zero_class}
use Rattle.machine_table.specs.declared.tables.Table.{Table}
use Rattle.machine_table.specs.declared.tables.InstrKind.{InstrKind}
use Rattle.machine_table.specs.declared.tables.InstrKind.TheVariants.{Beq}
use Rattle.graph_meaning.specs.declared.graphs.SetClass.{SetClass}
use Rattle.graph_meaning.specs.declared.graphs.LaunchGraph.{LaunchGraph}
use Rattle.schedule_meaning.specs.Launches.{class_at, op_instr, guard_operands, row_operands, operands_at, launches, gives_word, is_load, is_store, is_branch, is_held, ready_in, Gives, IsFree, IsClassOfInput, IsZero}
use Rattle.schedule_meaning.specs.Lifetimes.{is_read_from}
use Rattle.schedule_meaning.specs.Fits.{CanLaunch, Collide, EndsBy, KeepsMemory, HasOneBranch}
use Rattle.schedule_meaning.specs.declared.schedules.Allocation.{Allocation}
use Rattle.schedule_meaning.specs.declared.schedules.Allocation.TheVariants.{Block, Live}
use Rattle.schedule_meaning.specs.declared.schedules.Launch.{Launch}
use Rattle.schedule_meaning.specs.declared.schedules.Operand.{Operand}

-- the instruction, class and operands of a row's number where there are no copies
abbrev pub plain_instr_at : LaunchGraph → ℕ → Option InstrKind
plain_instr_at g row =
    if row == length g.rows
    then option_map (λ _. Beq) g.guard
    else option_and_then (λ r. op_instr g r.op r.operands) (slice_get g.rows row)

abbrev pub plain_class_at : LaunchGraph → ℕ → ℕ
plain_class_at g row = option_map_or (λ r. r.class) (slice_get g.rows row) 0

abbrev pub plain_operands_at : LaunchGraph → ℕ → List Operand
plain_operands_at g row =
    if row == length g.rows then guard_operands g.guard else row_operands (slice_get g.rows row)

-- an input holds its word for good
abbrev pub IsPlainReadable : LaunchGraph → Table → List Launch → ℕ → ℕ → ℕ → Type 0
IsPlainReadable g table ls class cycle cluster =
    IsClassOfInput g class ⊎ Any (λ l. Gives g class l × (ready_in g table cluster l ≤ cycle)) ls

abbrev pub CanReadPlain : LaunchGraph → Table → List Launch → Launch → Type 0
CanReadPlain g table ls l =
    All (λ o. IsFree g o ⊎ IsPlainReadable g table ls o.class l.cycle (cluster_of table l.slot)) (operands_at g l.row)

abbrev pub IsPlainReached : LaunchGraph → List Launch → SetClass → Type 0
IsPlainReached g ls s =
    IsTrue (is_memory_name s.name) ⊎ IsClassOfInput g s.class ⊎ IsZero g s.class ⊎ Any (Gives g s.class) ls

abbrev pub WaitsPlain : LaunchGraph → List Launch → Launch → Type 0
WaitsPlain g ls l =
    IsTrue (launches g is_store l) ⊎ (IsTrue (launches g is_load l) × IsTrue (is_held g)) →
    All (λ b. IsTrue (launches g is_branch b) → b.cycle ≤ l.cycle) ls

-- the class is that of a word target, and neither the zero class nor of an input
abbrev pub is_wanted_plain : LaunchGraph → ℕ → Bool
is_wanted_plain g class =
    list_any (λ s. (s.class == class) && not (is_memory_name s.name)) g.sets
    && (not (is_zero_class g class) && not (list_any (λ i. i.class == class) g.inputs))

abbrev pub is_needed_plain : LaunchGraph → List Launch → ℕ → ℕ → Bool
is_needed_plain g ls t class = is_read_from g ls t class || is_wanted_plain g class

-- by live ranges, what gives a word holds a register in its own cycle, and in each later one at which its class is
-- needed
abbrev pub holds_plain : LaunchGraph → List Launch → ℕ → Launch → Bool
holds_plain g ls t l =
    launches g gives_word l
    && ((l.cycle == t) || (nat_lt l.cycle t && is_needed_plain g ls t (class_at g l.row)))

abbrev pub HasPlainRoom : LaunchGraph → Allocation → ℕ → List Launch → Type 0
HasPlainRoom g Block k ls = count_by (launches g gives_word) ls ≤ length g.pool
HasPlainRoom g Live k ls = (t : ℕ) → t < k → count_by (holds_plain g ls t) ls ≤ length g.pool

pub record FitsWithoutPins (g : LaunchGraph) (table : Table) (a : Allocation) (k : ℕ) (ls : List Launch) : Type 0 where
  pub rows : All (CanLaunch g table) ls
  pub apart : AllPairs (λ l m. ¬ Collide l m) ls
  pub operands : All (CanReadPlain g table ls) ls
  pub in_time : All (EndsBy g table k) ls
  pub targets : All (IsPlainReached g ls) g.sets
  pub memory : KeepsMemory g ls
  pub one_branch : HasOneBranch g ls
  pub after_branch : All (WaitsPlain g ls) ls
  pub pool : HasPlainRoom g a k ls
