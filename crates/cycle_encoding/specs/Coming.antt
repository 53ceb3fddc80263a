-- How it is found from which cycle a row can start: cycle by cycle, each class has the first by which it has come so
-- far. Source: this project.
use Rattle.std.specs.Prelude.{◌≡◌, ◌↔◌, ℕ, ◌+◌, ◌≤◌, ◌&&◌, ◌==◌, ◌++◌, not, nat_le, nat_lt, Bool, true, false, List, [], ◌∷◌}
use Rattle.std.specs.Prelude.{length, max, set, Option, None, Some, IsTrue, option_and_then, if◌then◌else◌}
use Rattle.std.specs.Prelude.{slice_index_or}
use Rattle.std.specs.Option.{option_map_or}
use Rattle.machine_table.specs.Tables.{use_of}
use Rattle.schedule_meaning.specs.Launches.{instr_at, class_at, memory_class_at}
use Rattle.machine_table.specs.declared.tables.Table.{Table}
use Rattle.graph_meaning.specs.declared.graphs.LaunchGraph.{LaunchGraph}
use Rattle.schedule_meaning.specs.declared.schedules.Allocation.{Allocation}
use Rattle.schedule_meaning.specs.declared.schedules.Allocation.TheVariants.{Block, Live}
use Rattle.cycle_encoding.specs.Counts.{row_is}
use Rattle.cycle_encoding.specs.Narrow.{CanStart, HasCome, accesses, delay_of}
use Rattle.cycle_encoding.specs.Lacking.{needs_of}
use Rattle.cycle_encoding.specs.declared.operands.There.TheVariants.{AtEntry}

-- the class of the memory that a launch of the row awaits, if it awaits one
abbrev pub memory_needs : LaunchGraph → Allocation → ℕ → List ℕ
memory_needs g Block row = []
memory_needs g Live row =
    if row_is g accesses row && not (memory_class_at g row == g.entry) then memory_class_at g row ∷ [] else []

-- the classes that have to come before a launch of the row can start
abbrev pub start_needs : LaunchGraph → Allocation → ℕ → List ℕ
start_needs g a row = needs_of AtEntry g row ++ memory_needs g a row

-- after how many cycles the row's class has come, if it gives one and the table names its instruction
abbrev pub delay_at : LaunchGraph → Table → ℕ → Option ℕ
delay_at g table row = option_and_then (λ i. option_and_then (delay_of i) (use_of table i)) (instr_at g row)

-- the class has come by t, as far as was found
abbrev pub is_come : List (Option ℕ) → ℕ → ℕ → Bool
is_come come t class = option_map_or (λ n. nat_le n t) (slice_index_or come class None) false

-- each of the classes has
abbrev pub are_come : List (Option ℕ) → ℕ → List ℕ → Bool
are_come come t [] = true
are_come come t (c ∷ cs) = is_come come t c && are_come come t cs

abbrev pub earlier : Option ℕ → ℕ → ℕ
earlier None n = n
earlier (Some m) n = if nat_lt m n then m else n

-- the class has come by n too
abbrev pub come_by : List (Option ℕ) → ℕ → ℕ → List (Option ℕ)
come_by come class n =
    if nat_lt class (length come) then set come class (Some (earlier (slice_index_or come class None) n)) else come

-- what was found is so
abbrev pub AreSound : LaunchGraph → Table → Allocation → List (Option ℕ) → Type 0
AreSound g table a come = (class n : ℕ) → slice_index_or come class None ≡ Some n → HasCome g table a class n

-- where the row can start at the cycle, its class was found to come
abbrev pub IsPassed : LaunchGraph → Table → Allocation → List (Option ℕ) → ℕ → ℕ → Type 0
IsPassed g table a come cycle row =
    (n : ℕ) → delay_at g table row ≡ Some n → CanStart g table a row cycle
    → IsTrue (is_come come (cycle + n) (class_at g row))

-- what has come by t was found
abbrev pub ComesAreFound : LaunchGraph → Table → Allocation → List (Option ℕ) → ℕ → Type 0
ComesAreFound g table a come t = (class : ℕ) → HasCome g table a class t → IsTrue (is_come come t class)

-- what was found to have come still is
abbrev pub StillCome : List (Option ℕ) → List (Option ℕ) → Type 0
StillCome old new = (t class : ℕ) → IsTrue (is_come old t class) → IsTrue (is_come new t class)

-- by each cycle up to t it is found exactly which classes have come
abbrev pub IsExactUpTo : LaunchGraph → Table → Allocation → List (Option ℕ) → ℕ → Type 0
IsExactUpTo g table a come t =
    (u class : ℕ) → u ≤ t → IsTrue (is_come come u class) ↔ HasCome g table a class u

-- the last of the cycles by which the classes have come, from one on, if all have
abbrev pub last_come_from : List (Option ℕ) → ℕ → List ℕ → Option ℕ
last_come_from come n [] = Some n
last_come_from come n (c ∷ cs) =
    option_map_or (λ m. last_come_from come (max n m) cs) (slice_index_or come c None) None

-- the cycle from which a row can start, or none
abbrev pub last_come : List (Option ℕ) → List ℕ → Option ℕ
last_come come cs = last_come_from come 0 cs
