-- How many variables and clauses capacity has, as numbers that are found row by row, before any clause is.
-- Source: this project.
use Rattle.std.specs.Prelude.{ℕ, ◌+◌, ◌-◌, ◌*◌, ◌≤◌, ◌<◌, ◌^◌, min, All, List, length, if◌then◌else◌}
use Rattle.std.specs.Option.{option_map_or}
use Rattle.std.specs.List.{sum_by}
use Rattle.cnf_core.specs.Counter.{at_most_size, at_most_vars}
use Rattle.schedule_meaning.specs.Launches.{class_at}
use Rattle.schedule_meaning.specs.Limits.{most_cycles}
use Rattle.machine_table.specs.declared.tables.Table.{Table}
use Rattle.graph_meaning.specs.declared.graphs.LaunchGraph.{LaunchGraph}
use Rattle.cycle_encoding.specs.Counts.{row_destinations, row_use}
use Rattle.cycle_encoding.specs.CycleFormula.{Scope, allocation_in, first_cycle_in}
use Rattle.cycle_encoding.specs.Variables.{row_numbers, slots_of}
use Rattle.slot_capacity.specs.Makers.{makes_own}
use Rattle.slot_capacity.specs.CapacityClauses.{last_counted}
use Rattle.slot_capacity.specs.declared.deadlines.Deadline.{Deadline}
use Rattle.slot_capacity.specs.declared.limits.Capacity.{Capacity}

module _ (g : LaunchGraph) (table : Table) (k : ℕ) (s : Scope) where
  -- how many launches of a row's number, to one destination, there are up to a cycle
  abbrev pub row_count_up_to : ℕ → ℕ → ℕ
  row_count_up_to last row =
      option_map_or
      (λ u. option_map_or (λ n. length (slots_of table u) * (min (k + 1 - u.latency) (last + 1) - n))
      (first_cycle_in s row) 0)
      (row_use g table row) 0

  -- how many of them make a counted class by its last cycle
  abbrev pub row_made : List Deadline → ℕ → ℕ
  row_made counted row =
      if makes_own g row
      then option_map_or (λ last. row_count_up_to last row) (last_counted counted (class_at g row)) 0
      else 0

  abbrev pub made_count : List Deadline → ℕ
  made_count counted =
      sum_by (λ row. row_made counted row * length (row_destinations g (allocation_in s) row)) (row_numbers g)

  abbrev pub capacity_vars : Capacity → ℕ
  capacity_vars c =
      sum_by (λ x. x.last + 1 - x.first) c.counted + sum_by (λ m. at_most_vars m.most (length m.due)) c.limits

  abbrev pub capacity_size : Capacity → ℕ
  capacity_size c =
      made_count c.counted + sum_by (λ x. x.last - x.first) c.counted + length c.counted
      + sum_by (λ m. at_most_size m.most (length m.due)) c.limits

-- deadlines and limits are no more and no greater than they can be in 24 cycles on a table of eight slots, and a limit
-- counts no more classes than are counted
pub record IsSmall (c : Capacity) : Type 0 where
  pub counted : length c.counted < 2 ^ 30
  pub early : All (λ x. x.last ≤ most_cycles) c.counted
  pub limits : length c.limits < 2 ^ 16
  pub due : All (λ m. length m.due ≤ length c.counted) c.limits
  pub most : All (λ m. m.most ≤ 200) c.limits
