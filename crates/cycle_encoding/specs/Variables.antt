-- What the first variables of a schedule's formula stand for: each launch by where it goes, what is seen of classes that
-- launches have to make, and which input registers are overwritten. Source: this project.
use Rattle.word_ops.specs.declared.sorts.Sort.TheVariants as sort
use Rattle.std.specs.Prelude.{ℕ, ◌==◌, ◌&&◌, nat_le, Bool, true, false, List, map, length, ◌+◌, ◌-◌, not, ◌||◌, [], ◌∷◌}
use Rattle.std.specs.Prelude.{slice_get, Option, Some, is_some, if◌then◌else◌}
use Rattle.std.specs.Option.{option_map_or}
use Rattle.std.specs.List.{filter, flat_map, list_any, range_with_len}
use Rattle.word_ops.specs.Meanings.{sort_of}
use Rattle.word_ops.specs.declared.sorts.Sort.{Sort}
use Rattle.graph_meaning.specs.Graphs.{constant_of, is_zero_class, is_input_register}
use Rattle.graph_meaning.specs.WellFormed.{next_class}
use Rattle.machine_table.specs.declared.tables.Table.{Table}
use Rattle.machine_table.specs.declared.tables.Use.{Use}
use Rattle.graph_meaning.specs.declared.graphs.LaunchGraph.{LaunchGraph}
pub use Rattle.cycle_encoding.specs.declared.seen.Seen.{Seen}
use Rattle.machine_table.specs.Tables.{use_of}
use Rattle.schedule_meaning.specs.Launches.{instr_at, class_at, gives_word, is_load, pin_of}
use Rattle.machine_table.specs.declared.tables.InstrKind.{InstrKind}
use Rattle.schedule_meaning.specs.declared.schedules.Allocation.{Allocation}
use Rattle.schedule_meaning.specs.declared.schedules.Launch.{Launch}
use Rattle.schedule_meaning.specs.declared.schedules.To.{To}
use Rattle.schedule_meaning.specs.declared.schedules.To.TheVariants.{Pool, Set}
use Rattle.cycle_encoding.specs.Allocations.{loads_overwrite}

-- ---- launches

-- the slots of a use, rising
abbrev pub slots_of : Table → Use → List ℕ
slots_of table u = filter (λ s. list_any (λ r. r == s) u.slots) (range_with_len 0 (length table.slots))

-- ---- classes

abbrev pub is_word : Sort → Bool
is_word sort.Word = true
is_word sort.Memory = false

-- some row of the class gives a word
abbrev pub is_word_class : LaunchGraph → ℕ → Bool
is_word_class g class = list_any (λ r. r.class == class && is_word (sort_of r.op)) g.rows

abbrev pub is_input : LaunchGraph → ℕ → Bool
is_input g class = list_any (λ i. i.class == class) g.inputs

abbrev pub is_byte : LaunchGraph → ℕ → Bool
is_byte g class = option_map_or (λ n. nat_le n 255) (constant_of g class) false

abbrev pub classes_of : LaunchGraph → List ℕ
classes_of g = range_with_len 0 (next_class g.rows)

-- ---- what is seen

-- the numbers of clusters that some slot has
abbrev pub clusters_of : Table → List ℕ
clusters_of table = filter (λ n. list_any (λ s. s.cluster == n) table.slots) (range_with_len 0 4)

-- of these classes, by class, cluster and cycle
abbrev pub all_seen : Table → ℕ → List ℕ → List Seen
all_seen table k classes =
    flat_map
    (λ c. flat_map
    (λ n. map (λ t. record { class = c; cluster = n; cycle = t }) (range_with_len 0 k))
    (clusters_of table))
    classes

-- ---- launches

-- a word of the instruction may go to the pin: by live ranges alone where the instruction is a load and the pin an
-- input's register
abbrev pub takes_pin : LaunchGraph → Allocation → InstrKind → ℕ → Bool
takes_pin g a i r = loads_overwrite a || not (is_load i && is_input_register g r)

-- the pinned set of this number takes a word of the class from the instruction
abbrev pub takes : LaunchGraph → Allocation → InstrKind → ℕ → ℕ → Bool
takes g a i class j =
    option_map_or
    (λ s. (s.class == class) && option_map_or (takes_pin g a i) s.pin false)
    (slice_get g.sets j) false

abbrev pub set_numbers : LaunchGraph → List ℕ
set_numbers g = range_with_len 0 (length g.sets)

-- the sets that have pins
abbrev pub pinned_sets : LaunchGraph → List ℕ
pinned_sets g = filter (λ j. is_some (pin_of g (Set j))) (set_numbers g)

-- where a launch of a row's number may go: to the pool, and where it gives a word, to each pinned set that takes it
abbrev pub destinations : LaunchGraph → Allocation → InstrKind → ℕ → List To
destinations g a i row =
    Pool ∷ (if gives_word i then map Set (filter (takes g a i (class_at g row)) (set_numbers g)) else [])

-- the launches of a row in the slots that its use allows, in each cycle from the first one from which it ends by k, to
-- each of these destinations
abbrev pub use_launches : Table → ℕ → ℕ → ℕ → List To → Use → List Launch
use_launches table k row first tos u =
    flat_map
    (λ s. flat_map
    (λ t. map (λ to. record { cycle = t; slot = s; row = row; to = to }) tos)
    (range_with_len first (k + 1 - u.latency - first)))
    (slots_of table u)

-- the launches of a row's number from a first cycle, if the row can be launched and the table names its instruction
abbrev pub row_launches : LaunchGraph → Table → Allocation → ℕ → Option ℕ → ℕ → List Launch
row_launches g table a k first row =
    option_map_or
    (λ i. option_map_or
    (λ u. option_map_or (λ n. use_launches table k row n (destinations g a i row) u) first [])
    (use_of table i) [])
    (instr_at g row) []

-- all numbers of rows: the rows, the branch of a guard, and the copies of sets
abbrev pub row_numbers : LaunchGraph → List ℕ
row_numbers g = range_with_len 0 (length g.rows + 1 + length g.sets)

-- the launches of each row from its first cycle that end by k: by row, then by slot, then by cycle, then by where they
-- go, the pool first
abbrev pub launches_from : LaunchGraph → Table → Allocation → ℕ → (ℕ → Option ℕ) → List Launch
launches_from g table a k firsts = flat_map (λ row. row_launches g table a k (firsts row) row) (row_numbers g)

-- all launches that end by k
abbrev pub all_launches : LaunchGraph → Table → Allocation → ℕ → List Launch
all_launches g table a k = launches_from g table a k (λ row. Some 0)

-- ---- classes

-- some set is pinned to the register
abbrev pub is_pin : LaunchGraph → ℕ → Bool
is_pin g r = list_any (λ s. option_map_or (λ q. q == r) s.pin false) g.sets

-- an input of the class has a register that is no pin, so that nothing writes it
abbrev pub is_safe : LaunchGraph → ℕ → Bool
is_safe g class = list_any (λ i. (i.class == class) && not (is_pin g i.reg)) g.inputs

-- those word classes that pass and launches have to make: not the zero class, and not of an input whose register nothing
-- writes
abbrev pub shown_classes : LaunchGraph → (ℕ → Bool) → List ℕ
shown_classes g wants =
    filter (λ c. wants c && (is_word_class g c && (not (is_safe g c) && not (is_zero_class g c)))) (classes_of g)

-- all of them
abbrev pub made_classes : LaunchGraph → List ℕ
made_classes g = shown_classes g (λ c. true)

-- ---- what is overwritten

-- the set is pinned to an input's register
abbrev pub is_overwriting : LaunchGraph → ℕ → Bool
is_overwriting g j = option_map_or (is_input_register g) (pin_of g (Set j)) false

abbrev pub overwriting_sets : LaunchGraph → List ℕ
overwriting_sets g = filter (is_overwriting g) (set_numbers g)

-- a launch went to the set in a cycle below this one
pub record Overwritten : Type 0 where
  pub set : ℕ
  pub cycle : ℕ

-- by set, then by cycle up to k
abbrev pub all_overwritten : LaunchGraph → ℕ → List Overwritten
all_overwritten g k =
    flat_map (λ j. map (λ t. record { set = j; cycle = t }) (range_with_len 0 (k + 1))) (overwriting_sets g)
