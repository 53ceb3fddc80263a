-- How many launches of a row there are up to a cycle, by its instruction, latency and first cycle.
use Rattle.std.proofs.Common.{◌≡◌, ℕ, ◌+◌, ◌-◌, ◌*◌, min, false, length, Option, Some, None, refl, sym, ap, ◌∙◌}
use Rattle.std.specs.Prelude.{◌==◌, option_map, option_and_then}
use Rattle.std.specs.Option.{option_map_or}
use Rattle.std.specs.List.{count_by, filter, list_any, range_with_len}
use Rattle.std.proofs.lemmas.List.Sums.{length-filter}
use Rattle.std.proofs.lemmas.Option.{none-some, same_Some}
use Rattle.machine_table.specs.Tables.{use_of, latency_of}
use Rattle.machine_table.specs.declared.tables.InstrKind.{InstrKind}
use Rattle.machine_table.specs.declared.tables.Table.{Table}
use Rattle.machine_table.specs.declared.tables.Use.{Use}
use Rattle.graph_meaning.specs.declared.graphs.LaunchGraph.{LaunchGraph}
use Rattle.schedule_meaning.specs.Launches.{instr_at}
use Rattle.cycle_encoding.specs.Counts.{row_use}
use Rattle.cycle_encoding.specs.CycleFormula.{Scope, first_cycle_in}
use Rattle.cycle_encoding.specs.Facts.{may_use}
use Rattle.cycle_encoding.specs.Variables.{slots_of}
use Rattle.slot_capacity.specs.CapacityCounts.{row_count_up_to}

module _ (g : LaunchGraph) (table : Table) (k : ℕ) (s : Scope) (last row : ℕ) where
  abbrev use_count : Option ℕ → Option Use → ℕ
  use_count first o =
      option_map_or
      (λ u. option_map_or (λ n. length (slots_of table u) * (min (k + 1 - u.latency) (last + 1) - n)) first 0) o 0

  abbrev count_of : Option ℕ → Option InstrKind → ℕ
  count_of first o = use_count first (option_and_then (use_of table) o)

  known : (instr : InstrKind) (n : ℕ) (o : Option Use) (latency : ℕ) → use_of table instr ≡ o
      → option_map (λ u. u.latency) o ≡ Some latency
      → use_count (Some n) o
      ≡ count_by (may_use table instr) (range_with_len 0 (length table.slots)) * (min (k + 1 - latency) (last + 1) - n)
  known instr n None latency e h = absurd (none-some latency h)
  known instr n (Some u) latency e h =
      let cycles = λ (m : ℕ). min (k + 1 - m) (last + 1) - n in
      ap (λ m. length (slots_of table u) * cycles m) (same_Some u.latency latency h)
      ∙ ap (λ (o : Option Use). length (filter (λ s. option_map_or (λ (u : Use). list_any (λ r. r == s) u.slots) o
      false)
      (range_with_len 0 (length table.slots))) * cycles latency) (sym e)
      ∙ ap (λ m. m * cycles latency) (length-filter (may_use table instr) (range_with_len 0 (length table.slots)))

  pub counted_to : (instr : InstrKind) (latency n : ℕ) → instr_at g row ≡ Some instr
      → latency_of table instr ≡ Some latency → first_cycle_in s row ≡ Some n
      → row_count_up_to g table k s last row
      ≡ count_by (may_use table instr) (range_with_len 0 (length table.slots)) * (min (k + 1 - latency) (last + 1) - n)
  counted_to instr latency n e h f =
      ap (count_of (first_cycle_in s row)) e ∙ ap (λ (o : Option ℕ). use_count o (use_of table instr)) f
      ∙ known instr n (use_of table instr) latency refl h

  no_first : (o : Option Use) → use_count None o ≡ 0
  no_first None = refl
  no_first (Some u) = refl

  pub none_counted_first : first_cycle_in s row ≡ None → row_count_up_to g table k s last row ≡ 0
  none_counted_first f = ap (λ (o : Option ℕ). use_count o (row_use g table row)) f ∙ no_first (row_use g table row)

  no_use : (o : Option Use) → option_map (λ u. u.latency) o ≡ None → use_count (first_cycle_in s row) o ≡ 0
  no_use None h = refl
  no_use (Some u) h = absurd (none-some u.latency (sym h))

  pub none_counted_use : (instr : InstrKind) → instr_at g row ≡ Some instr → latency_of table instr ≡ None
      → row_count_up_to g table k s last row ≡ 0
  none_counted_use instr e h = ap (count_of (first_cycle_in s row)) e ∙ no_use (use_of table instr) h

  pub none_counted_instr : instr_at g row ≡ None → row_count_up_to g table k s last row ≡ 0
  none_counted_instr e = ap (count_of (first_cycle_in s row)) e
