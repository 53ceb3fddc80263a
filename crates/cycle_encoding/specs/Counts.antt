-- How many variables and clauses there are of cycles, slots and values, as numbers that are found row by row, before
-- any clause is. Source: this project.
use Rattle.std.specs.Prelude.{ℕ, ◌+◌, ◌-◌, ◌*◌, ◌==◌, ◌&&◌, nat_le, nat_lt, Bool, false, length, Option}
use Rattle.std.specs.Prelude.{option_and_then, if◌then◌else◌, not, List, []}
use Rattle.std.specs.Option.{option_map_or}
use Rattle.std.specs.List.{list_any, count_by, sum_by, range_with_len}
use Rattle.machine_table.specs.Tables.{use_of}
use Rattle.schedule_meaning.specs.Launches.{instr_at, operands_at, pin_of}
use Rattle.machine_table.specs.declared.tables.Table.{Table}
use Rattle.machine_table.specs.declared.tables.Use.{Use}
use Rattle.machine_table.specs.declared.tables.InstrKind.{InstrKind}
use Rattle.graph_meaning.specs.declared.graphs.LaunchGraph.{LaunchGraph}
use Rattle.cycle_encoding.specs.Variables.{slots_of, clusters_of}
use Rattle.cycle_encoding.specs.CycleFormula.{Scope, allocation_in, first_cycle_in, wants_in}
use Rattle.cnf_core.specs.Counter.{at_most_size, at_most_vars}
use Rattle.schedule_meaning.specs.declared.schedules.Allocation.{Allocation}
use Rattle.schedule_meaning.specs.declared.schedules.Operand.{Operand}
use Rattle.schedule_meaning.specs.declared.schedules.To.{To}
use Rattle.cycle_encoding.specs.Variables.{destinations, row_numbers, shown_classes}
use Rattle.cycle_encoding.specs.Variables.{overwriting_sets}
use Rattle.cycle_encoding.specs.Families.{is_made, is_made_target, is_input_at}

abbrev pub one_if : Bool → ℕ
one_if b = if b then 1 else 0

-- the instruction of a row's number passes the test
abbrev pub row_is : LaunchGraph → (InstrKind → Bool) → ℕ → Bool
row_is g test row = option_map_or test (instr_at g row) false

-- the use of a row's number
abbrev pub row_use : LaunchGraph → Table → ℕ → Option Use
row_use g table row = option_and_then (use_of table) (instr_at g row)

-- in how many cycles a use can begin, from a first one, if it has to end by k; and whether it can in this one
abbrev pub cycles_of : ℕ → ℕ → Use → ℕ
cycles_of k first u = k + 1 - u.latency - first

abbrev pub can_begin : ℕ → ℕ → Use → ℕ → Bool
can_begin k first u cycle = nat_le first cycle && nat_lt cycle (k + 1 - u.latency)

module _ (g : LaunchGraph) (table : Table) (k : ℕ) (s : Scope) where
  -- how many launches a row's number has to a destination; and whether one of them is in the slot and cycle
  abbrev pub row_count : ℕ → ℕ
  row_count row =
      option_map_or
      (λ u. option_map_or (λ n. length (slots_of table u) * cycles_of k n u) (first_cycle_in s row) 0)
      (row_use g table row) 0

  abbrev pub row_has : ℕ → ℕ → ℕ → Bool
  row_has slot cycle row =
      option_map_or
      (λ u. option_map_or
      (λ n. list_any (λ r. r == slot) u.slots && can_begin k n u cycle)
      (first_cycle_in s row) false)
      (row_use g table row) false

-- where launches of a row's number may go
abbrev pub row_destinations : LaunchGraph → Allocation → ℕ → List To
row_destinations g a row = option_map_or (λ i. destinations g a i row) (instr_at g row) []

-- a launch with this destination needs a clause for the operand
abbrev pub needs_clause : LaunchGraph → To → Operand → Bool
needs_clause g to o = is_made g o && not (option_map_or (is_input_at g o.class) (pin_of g to) false)

module _ (g : LaunchGraph) (table : Table) (k : ℕ) (s : Scope) where
  -- a sum over the launches of something that hangs on the row and on where it goes
  abbrev pub sum_destined : (ℕ → To → ℕ) → ℕ
  sum_destined f =
      sum_by (λ row. row_count g table k s row * sum_by (f row) (row_destinations g (allocation_in s) row))
      (row_numbers g)

  -- how many launches there are in a slot and cycle
  abbrev pub destined_at : ℕ → ℕ → ℕ
  destined_at slot cycle =
      sum_by (λ row. one_if (row_has g table k s slot cycle row) * length (row_destinations g (allocation_in s) row))
      (row_numbers g)

  -- a sum over slots and cycles
  abbrev pub sum_places : (ℕ → ℕ → ℕ) → ℕ
  sum_places f = sum_by (λ x. sum_by (f x) (range_with_len 0 k)) (range_with_len 0 (length table.slots))

  abbrev pub seen_count : ℕ
  seen_count = length (shown_classes g (wants_in s)) * (length (clusters_of table) * k)

  abbrev pub overwritten_count : ℕ
  overwritten_count = length (overwriting_sets g) * (k + 1)

  -- ---- the two counts

  abbrev pub cycle_vars : ℕ
  cycle_vars =
      sum_destined (λ row to. 1) + seen_count + overwritten_count
      + sum_places (λ x t. at_most_vars 1 (destined_at x t))

  abbrev pub cycle_size : ℕ
  cycle_size =
      count_by (is_made_target g) g.sets
      + sum_destined (λ row to. count_by (needs_clause g to) (operands_at g row))
      + seen_count
      + sum_places (λ x t. at_most_size 1 (destined_at x t))
