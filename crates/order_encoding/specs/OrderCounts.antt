-- What a row adds to the counts of memory and of a guard's branch, and the counts that hang on no row.
-- Source: this project.
use Rattle.std.specs.Prelude.{ℕ, ◌+◌, ◌-◌, ◌*◌, ◌&&◌, ◌||◌, nat_lt, Bool, length, ◌==◌, false, not, is_some, if◌then◌else◌}
use Rattle.std.specs.Option.{option_map_or}
use Rattle.schedule_meaning.specs.Launches.{is_load, is_store, is_held, gives_word, is_branch, is_pool, is_set}
use Rattle.schedule_meaning.specs.Launches.{class_at, operands_at, pin_of}
use Rattle.machine_table.specs.declared.tables.Table.{Table}
use Rattle.graph_meaning.specs.declared.graphs.LaunchGraph.{LaunchGraph}
use Rattle.cycle_encoding.specs.Variables.{slots_of}
use Rattle.cycle_encoding.specs.Counts.{one_if, row_is, row_use, can_begin, cycles_of, row_count}
use Rattle.cycle_encoding.specs.CycleFormula.{Scope, allocation_in, first_cycle_in}
use Rattle.cycle_encoding.specs.Families.{is_free, is_made_target}
use Rattle.order_encoding.specs.declared.adding.Part.{Part}
use Rattle.order_encoding.specs.declared.adding.Part.TheVariants.{Memory, Guard, Pool, Pins, Capacity}
use Rattle.order_encoding.specs.OrderVariables.{memory_classes}
use Rattle.std.specs.List.{count_by, list_any, sum_by, range_with_len}
use Rattle.cnf_core.specs.Counter.{at_most_size, at_most_vars}
use Rattle.graph_meaning.specs.Graphs.{is_input_register}
use Rattle.schedule_meaning.specs.declared.schedules.Allocation.{Allocation}
use Rattle.schedule_meaning.specs.declared.schedules.Allocation.TheVariants.{Block, Live}
use Rattle.schedule_meaning.specs.declared.schedules.Operand.{Operand}
use Rattle.schedule_meaning.specs.declared.schedules.To.{To}
use Rattle.slot_capacity.specs.Limits.{capacity_in}
use Rattle.slot_capacity.specs.CapacityCounts.{capacity_size, capacity_vars}
use Rattle.cycle_encoding.specs.Variables.{classes_of, row_numbers, overwriting_sets, pinned_sets}
use Rattle.cycle_encoding.specs.Counts.{row_destinations, sum_destined}
use Rattle.order_encoding.specs.PinFamilies.{unmet_sets}

-- ---- of a row

-- how many clauses say which memory a launch of the row uses
abbrev pub row_uses : LaunchGraph → ℕ → ℕ
row_uses g row = one_if (row_is g is_load row || row_is g is_store row) + one_if (row_is g is_store row) * 2

-- how many stores of the row may be launched in a cycle
abbrev pub row_stores : LaunchGraph → Table → ℕ → Scope → ℕ → ℕ → ℕ
row_stores g table k s cycle row =
    option_map_or
    (λ u. option_map_or
    (λ n. length (slots_of table u) * one_if (row_is g is_store row && can_begin k n u cycle))
    (first_cycle_in s row) 0)
    (row_use g table row) 0

-- a launch of the row waits for the branch
abbrev pub row_waits : LaunchGraph → ℕ → Bool
row_waits g row = row_is g is_store row || (row_is g is_load row && is_held g)

-- ---- of all rows

abbrev pub held_count : LaunchGraph → ℕ
held_count g = length (memory_classes g)

-- the row gives a word of the class
abbrev pub row_gives : LaunchGraph → ℕ → ℕ → Bool
row_gives g class row = row_is g gives_word row && (class_at g row == class)

-- how many slots, starts and cycles from then on there are
abbrev pub holds_count : Table → ℕ → ℕ
holds_count table k = length table.slots * sum_by (λ start. k - start) (range_with_len 0 k)

-- how many slots and cycles there are in which a launch may take a register
abbrev pub taken_places : Table → ℕ → ℕ
taken_places table k = length table.slots * k

-- a launch with this destination overwrites an input's register
abbrev pub overwrites_at : LaunchGraph → To → Bool
overwrites_at g to = option_map_or (is_input_register g) (pin_of g to) false

module _ (g : LaunchGraph) (table : Table) (k : ℕ) (s : Scope) where
  -- ---- memory

  -- how many stores may be launched in a cycle
  abbrev pub destined_stores : ℕ → ℕ
  destined_stores cycle =
      sum_by (λ row. row_stores g table k s cycle row * length (row_destinations g (allocation_in s) row)) (row_numbers g)

  abbrev pub memory_vars : ℕ
  memory_vars =
      held_count g * (k + 1) + k
      + ((k + 1) * at_most_vars 1 (held_count g)
      + sum_by (λ t. at_most_vars 1 (destined_stores t)) (range_with_len 0 k))

  abbrev pub memory_size : ℕ
  memory_size =
      (1 + count_by (λ c. not (c == g.entry)) (memory_classes g))
      + sum_destined g table k s (λ row to. row_uses g row)
      + k * (1 + held_count g)
      + ((k + 1) * at_most_size 1 (held_count g)
      + sum_by (λ t. at_most_size 1 (destined_stores t)) (range_with_len 0 k))
      + 1

  -- ---- the branch of a guard

  abbrev pub destined_branches : ℕ
  destined_branches = sum_destined g table k s (λ row to. one_if (row_is g is_branch row))

  abbrev pub guard_vars : ℕ
  guard_vars = if is_some g.guard then k + at_most_vars 1 destined_branches else 0

  abbrev pub guard_size : ℕ
  guard_size =
      if is_some g.guard
      then 1 + at_most_size 1 destined_branches
      + sum_destined g table k s (λ row to. one_if (row_waits g row)) + k
      else 0

  -- ---- registers, where they are kept to the end of the block

  abbrev pub registers_vars : ℕ
  registers_vars = taken_places table k + at_most_vars (length g.pool) (taken_places table k)

  abbrev pub registers_size : ℕ
  registers_size =
      sum_destined g table k s (λ row to. one_if (is_pool to && row_is g gives_word row))
      + at_most_size (length g.pool) (taken_places table k)

  -- ---- registers by live ranges

  -- a launch to the pool may give the class
  abbrev pub is_pooled_in : ℕ → Bool
  is_pooled_in class =
      list_any (λ row. row_gives g class row && nat_lt 0 (row_count g table k s row)) (row_numbers g)

  abbrev pub pooled_count : ℕ
  pooled_count = count_by is_pooled_in (classes_of g)

  abbrev pub is_pooled_operand_in : Operand → Bool
  is_pooled_operand_in o = not (is_free g o) && is_pooled_in o.class

  -- how many cycles there are from that of each launch of a row to the pool to the last one
  abbrev pub row_holds : ℕ → ℕ
  row_holds row =
      option_map_or
      (λ u. option_map_or
      (λ n. length (slots_of table u) * sum_by (λ t. 1 + (k - (t + 1))) (range_with_len n (cycles_of k n u)))
      (first_cycle_in s row) 0)
      (row_use g table row) 0

  abbrev pub live_vars : ℕ
  live_vars =
      pooled_count * k + holds_count table k
      + sum_by (λ t. at_most_vars (length g.pool) (length table.slots * (t + 1))) (range_with_len 0 k)

  abbrev pub live_size : ℕ
  live_size =
      sum_destined g table k s (λ row to. count_by is_pooled_operand_in (operands_at g row))
      + pooled_count * (k - 1)
      + count_by (λ t. is_made_target g t && is_pooled_in t.class) g.sets
      + sum_by (λ row. one_if (row_is g gives_word row) * row_holds row) (row_numbers g)
      + sum_by (λ t. at_most_size (length g.pool) (length table.slots * (t + 1))) (range_with_len 0 k)

  abbrev pub pool_vars : Allocation → ℕ
  pool_vars Block = registers_vars
  pool_vars Live = live_vars

  abbrev pub pool_size : Allocation → ℕ
  pool_size Block = registers_size
  pool_size Live = live_size

  -- ---- pins

  -- how many launches go to a set
  abbrev pub goes_count : ℕ → ℕ
  goes_count j = sum_destined g table k s (λ row to. one_if (is_set j to))

  abbrev pub late_count : ℕ
  late_count = sum_destined g table k s (λ row to. one_if (overwrites_at g to))

  -- how many loads overwrite an input's register
  abbrev pub over_load_count : ℕ
  over_load_count = sum_destined g table k s (λ row to. one_if (row_is g is_load row && overwrites_at g to))

  abbrev pub pins_vars : ℕ
  pins_vars = sum_by (λ j. at_most_vars 1 (goes_count j)) (pinned_sets g)

  abbrev pub pins_size : ℕ
  pins_size =
      sum_by (λ j. goes_count j + k) (overwriting_sets g)
      + sum_by (λ j. at_most_size 1 (goes_count j)) (pinned_sets g)
      + length (unmet_sets g)
      + (if is_some g.guard then late_count else 0)
      + over_load_count

-- ---- the counts of each part

abbrev pub part_vars : Part → LaunchGraph → Table → ℕ → Scope → ℕ
part_vars Memory g table k s = memory_vars g table k s
part_vars Guard g table k s = guard_vars g table k s
part_vars Pool g table k s = pool_vars g table k s (allocation_in s)
part_vars Pins g table k s = pins_vars g table k s
part_vars Capacity g table k s = capacity_vars g table k s (capacity_in s g table k)

abbrev pub part_size : Part → LaunchGraph → Table → ℕ → Scope → ℕ
part_size Memory g table k s = memory_size g table k s
part_size Guard g table k s = guard_size g table k s
part_size Pool g table k s = pool_size g table k s (allocation_in s)
part_size Pins g table k s = pins_size g table k s
part_size Capacity g table k s = capacity_size g table k s (capacity_in s g table k)
