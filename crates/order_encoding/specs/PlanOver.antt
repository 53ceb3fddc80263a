-- What a part adds over a plan. Source: this project.
use Rattle.std.specs.Prelude.{ℕ, List, ◌≡◌, ◌+◌, ◌*◌, ◌<◌, ◌^◌, is_some, length}
use Rattle.std.specs.List.{range_with_len}
use Rattle.cnf_core.specs.Formula.{Formula}
use Rattle.machine_table.specs.declared.tables.Table.{Table}
use Rattle.graph_meaning.specs.declared.graphs.LaunchGraph.{LaunchGraph}
use Rattle.schedule_meaning.specs.declared.schedules.Launch.{Launch}
use Rattle.cycle_encoding.specs.Counts as cycles
use Rattle.cycle_encoding.specs.CycleFormula.{Listed, listed_in}
use Rattle.cycle_encoding.specs.Framed.{over}
use Rattle.cycle_encoding.specs.declared.frames.Frame.{Frame}
use Rattle.cycle_encoding.specs.declared.overwriting.OverwrittenVars.{OverwrittenVars}
use Rattle.cycle_encoding.specs.Shapes.{numbered, when}
use Rattle.cycle_encoding.specs.Variables.{Overwritten, all_overwritten, overwriting_sets}
use Rattle.slot_capacity.specs.CapacityCounts.{IsSmall}
use Rattle.slot_capacity.specs.CapacitySteps.{AreApart}
use Rattle.slot_capacity.specs.Limits.{capacity_in}
use Rattle.slot_capacity.specs.declared.limits.Capacity.{Capacity}
use Rattle.order_encoding.specs.WholeFormula.{formula_with_guard, formula_with_live_ranges, formula_with_pins}
use Rattle.order_encoding.specs.WholeFormula.{formula_with_registers, with_memory}
use Rattle.order_encoding.specs.OrderCounts.{held_count, memory_size, memory_vars}
use Rattle.order_encoding.specs.declared.plans.FirstSizes.{FirstSizes}
use Rattle.order_encoding.specs.declared.plans.Plan.{Plan}

-- what a definition says of the graph, the table, the cycles and the list of the scope
abbrev pub by_list : {X : Type 0} → Frame → (LaunchGraph → Table → ℕ → Listed → X) → X
by_list f says = says f.facts.now f.table.now f.k (over f listed_in)

-- what the formula says of due classes
pub record IsCapacityOf (f : Frame) (c : Capacity) : Type 0 where
  pub is : c ≡ capacity_in f.scope.now f.facts.now f.table.now f.k
  pub small : IsSmall c
  pub apart : AreApart c.counted

-- what may be overwritten: the sets, and up to which cycle
pub record AreOverwritten (f : Frame) (o : OverwrittenVars) : Type 0 where
  pub cycles_are : o.cycles ≡ f.k
  pub sets_are : o.sets.items ≡ overwriting_sets f.facts.now

-- the counts of the first parts
pub record AreFirstSizes (f : Frame) (s : FirstSizes) : Type 0 where
  pub cycle_vars : s.cycle.vars ≡ over f cycles.cycle_vars
  pub cycle_size : s.cycle.clauses ≡ over f cycles.cycle_size
  pub few_cycle_vars : s.cycle.vars < 2 ^ 50
  pub few_cycle_clauses : s.cycle.clauses < 2 ^ 63
  pub memory_vars : s.memory.vars ≡ over f memory_vars
  pub memory_size : s.memory.clauses ≡ over f memory_size
  pub few_memory_vars : s.memory.vars < 2 ^ 50
  pub few_memory_clauses : s.memory.clauses < 2 ^ 50
  pub held : s.held ≡ (f.k + 1) * held_count f.facts.now

module _ (p : Plan) where
  abbrev pub listed_by : Listed
  listed_by = over p.frame listed_in

  abbrev pub launched_by : List (ℕ × Launch)
  launched_by = numbered 0 p.launches.now

  abbrev pub lost_by : List (ℕ × Overwritten)
  lost_by = numbered p.over.now.first (all_overwritten p.frame.facts.now p.frame.k)

  -- the last of them
  abbrev pub last_lost : ℕ
  last_lost = p.over.now.first + length (all_overwritten p.frame.facts.now p.frame.k)

  -- the cycles, by the variables after this one
  abbrev pub cycles_by : ℕ → List (ℕ × ℕ)
  cycles_by first = numbered first (range_with_len 0 p.frame.k)

  abbrev pub memory_by : Formula → Formula
  memory_by f = with_memory p.frame.facts.now p.frame.k launched_by f

  abbrev pub guard_by : Formula → Formula
  guard_by f = formula_with_guard p.frame.facts.now p.frame.k launched_by f

  abbrev pub registers_by : Formula → Formula
  registers_by f = formula_with_registers p.frame.facts.now p.frame.k launched_by f p.frame.table.now

  abbrev pub live_ranges_by : Formula → Formula
  live_ranges_by f =
      formula_with_live_ranges p.frame.facts.now p.frame.k launched_by f p.frame.table.now lost_by

  abbrev pub branch_cycles : List ℕ
  branch_cycles = when (is_some p.frame.facts.now.guard) (range_with_len 0 p.frame.k)

  abbrev pub pins_by : ℕ → ℕ → Formula → Formula
  pins_by branches stores f =
      formula_with_pins p.frame.facts.now p.frame.k launched_by f lost_by (numbered branches branch_cycles)
      (cycles_by stores)
