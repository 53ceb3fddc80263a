-- The parts of the whole formula where sets may have pins, by names of their own.
use Rattle.std.proofs.Common.{◌≡◌, ◌++◌, ◌≤◌, ℕ, List, refl, arith}
use Rattle.cnf_core.specs.declared.literal.Lit.{Lit}
use Rattle.cnf_core.specs.Formula.{Formula}
use Rattle.machine_table.specs.declared.tables.Table.{Table}
use Rattle.graph_meaning.specs.declared.graphs.LaunchGraph.{LaunchGraph}
use Rattle.schedule_meaning.specs.declared.schedules.Allocation.{Allocation}
use Rattle.schedule_meaning.specs.declared.schedules.Allocation.TheVariants.{Block, Live}
use Rattle.schedule_meaning.specs.declared.schedules.Launch.{Launch}
use Rattle.cycle_encoding.specs.CycleFormula.{Listed, launch_vars}
use Rattle.cycle_encoding.specs.CycleFormula.{overwritten_vars, cycle_formula}
use Rattle.slot_capacity.specs.Limits.{capacity_of}
use Rattle.slot_capacity.specs.CapacityClauses.{added_capacity}
use Rattle.order_encoding.specs.OrderVariables.{Held, Taken}
use Rattle.order_encoding.specs.WholeFormula.{new_held, before_new_stores, new_stores, before_new_groups, new_groups, added_memory, new_come_cycles, new_come, before_new_branch, added_guard, new_taken, before_new_pool, added_registers, new_needs, before_new_holds, new_holds, before_hold_groups, added_live_ranges, formula_with_pool, added_pins, branch_vars, store_cycle_vars, memory_formula, guard_formula, pool_formula, pins_formula}
use Rattle.order_encoding.specs.LiveVariables.{Hold, Need}

module _ (g : LaunchGraph) (table : Table) (k : ℕ) (e : Listed) where
  abbrev xs : List (ℕ × Launch)
  xs = launch_vars e

  -- ---- memory

  abbrev cycles : Formula
  cycles = cycle_formula g table k e

  abbrev pub held_vars : List (ℕ × Held)
  held_vars = new_held g k xs cycles

  abbrev pub before_stores : ℕ
  before_stores = before_new_stores g k xs cycles

  abbrev pub store_vars : List (ℕ × ℕ)
  store_vars = new_stores g k xs cycles

  abbrev pub before_held : ℕ
  before_held = before_new_groups g k xs cycles

  abbrev pub memory_groups : List (List Lit)
  memory_groups = new_groups g k xs cycles

  abbrev pub memory_part : List (List Lit)
  memory_part = added_memory g k xs cycles

  abbrev pub after_memory : ℕ
  after_memory = (memory_formula g table k e).vars

  -- ---- the branch of a guard

  abbrev pub earliest_cycles : List ℕ
  earliest_cycles = new_come_cycles g k xs (memory_formula g table k e)

  abbrev pub come_vars : List (ℕ × ℕ)
  come_vars = new_come g k xs (memory_formula g table k e)

  abbrev pub before_branch : ℕ
  before_branch = before_new_branch g k xs (memory_formula g table k e)

  abbrev pub guard_part : List (List Lit)
  guard_part = added_guard g k xs (memory_formula g table k e)

  abbrev pub after_guard : ℕ
  after_guard = (guard_formula g table k e).vars

  -- ---- registers

  abbrev pub taken_vars : List (ℕ × Taken)
  taken_vars = new_taken g k xs (guard_formula g table k e) table

  abbrev pub before_pool : ℕ
  before_pool = before_new_pool g k xs (guard_formula g table k e) table

  abbrev pub registers_part : List (List Lit)
  registers_part = added_registers g k xs (guard_formula g table k e) table

  -- ---- registers by live ranges

  abbrev pub need_vars : List (ℕ × Need)
  need_vars = new_needs g k xs (guard_formula g table k e) table (overwritten_vars g table k e)

  abbrev pub before_holds : ℕ
  before_holds = before_new_holds g k xs (guard_formula g table k e) table (overwritten_vars g table k e)

  abbrev pub hold_vars : List (ℕ × Hold)
  hold_vars = new_holds g k xs (guard_formula g table k e) table (overwritten_vars g table k e)

  abbrev pub before_counts : ℕ
  before_counts = before_hold_groups g k xs (guard_formula g table k e) table (overwritten_vars g table k e)

  abbrev pub live_part : List (List Lit)
  live_part = added_live_ranges g k xs (guard_formula g table k e) table (overwritten_vars g table k e)

  -- ---- the one or the other

  abbrev pub pool_part_of : Allocation → List (List Lit)
  pool_part_of Block = registers_part
  pool_part_of Live = live_part

  abbrev pub pool_part : List (List Lit)
  pool_part = pool_part_of e.allocation

  abbrev pub pool_by : Allocation → Formula
  pool_by a = formula_with_pool g k xs (guard_formula g table k e) table (overwritten_vars g table k e) a

  pool_clauses_of : (a : Allocation) → (pool_by a).clauses ≡ (guard_formula g table k e).clauses ++ pool_part_of a
  pool_clauses_of Block = refl
  pool_clauses_of Live = refl

  pub pool-clauses : (pool_formula g table k e).clauses ≡ (guard_formula g table k e).clauses ++ pool_part
  pool-clauses = pool_clauses_of e.allocation

  pool_up : (a : Allocation) → (guard_formula g table k e).vars ≤ (pool_by a).vars
  pool_up Block = omega arith
  pool_up Live = omega arith

  pub pool-up : (guard_formula g table k e).vars ≤ (pool_formula g table k e).vars
  pool-up = pool_up e.allocation

  abbrev pub after_pool : ℕ
  after_pool = (pool_formula g table k e).vars

  -- ---- pins

  abbrev pub pins_part : List (List Lit)
  pins_part = added_pins g k xs (pool_formula g table k e) (overwritten_vars g table k e) (branch_vars g table k e) (store_cycle_vars g table k e)

  abbrev pub after_pins : ℕ
  after_pins = (pins_formula g table k e).vars

  abbrev pub capacity_part : List (List Lit)
  capacity_part = added_capacity g (capacity_of g table e.allocation k e.launches) xs (pins_formula g table k e)
