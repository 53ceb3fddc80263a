-- The formula of a schedule, that of all rules: the numbers of its variables, and its clauses in their order, part by
-- part. Source: this project.
use Rattle.std.specs.Prelude.{◌≡◌, ℕ, ◌+◌, ◌≤◌, List, ◌++◌, length, is_some}
use Rattle.std.specs.List.{range_with_len}
use Rattle.schedule_meaning.specs.Limits.{most_cycles}
use Rattle.cnf_core.specs.declared.literal.Lit.{Lit}
use Rattle.cnf_core.specs.Formula.{Formula}
use Rattle.machine_table.specs.declared.tables.Table.{Table}
use Rattle.graph_meaning.specs.declared.graphs.LaunchGraph.{LaunchGraph}
use Rattle.schedule_meaning.specs.declared.schedules.Allocation.{Allocation}
use Rattle.schedule_meaning.specs.declared.schedules.Allocation.TheVariants.{Block, Live}
use Rattle.schedule_meaning.specs.declared.schedules.Launch.{Launch}
use Rattle.cycle_encoding.specs.Shapes.{numbered, counters, counters_vars, when}
use Rattle.cycle_encoding.specs.Encodings.{AreListed}
use Rattle.cycle_encoding.specs.declared.encodings.Encoding.{Encoding}
use Rattle.cycle_encoding.specs.CycleFormula.{Listed, Scope, launch_vars, before_overwritten}
use Rattle.cycle_encoding.specs.Variables.{Overwritten}
use Rattle.cycle_encoding.specs.Plans.{PassesLimit}
use Rattle.cycle_encoding.specs.declared.plans.EncodeFault.{EncodeFault}
use Rattle.cycle_encoding.specs.declared.plans.EncodeFault.TheVariants as faults
use Rattle.cycle_encoding.specs.CycleFormula.{overwritten_vars, cycle_formula}
use Rattle.cycle_encoding.specs.CycleFormula.{listed_in}
use Rattle.order_encoding.specs.declared.adding.Part.{Part}
use Rattle.order_encoding.specs.declared.adding.Part.TheVariants.{Memory, Guard, Pool, Pins, Capacity}
use Rattle.order_encoding.specs.OrderVariables.{all_held, all_taken, Held, Taken}
use Rattle.order_encoding.specs.OrderFamilies.{entry_clauses, memory_clauses, kept_clauses, held_groups}
use Rattle.order_encoding.specs.OrderFamilies.{store_groups, last_memory_clauses, branch_clauses, branch_groups}
use Rattle.order_encoding.specs.OrderFamilies.{wait_clauses, come_clauses, register_groups}
use Rattle.order_encoding.specs.PinFamilies.{pool_clauses, overwritten_clauses, pin_groups, pin_clauses, late_clauses}
use Rattle.order_encoding.specs.PinFamilies.{load_clauses}
use Rattle.order_encoding.specs.LiveVariables.{Hold, Need, all_holds, all_needs, pooled_classes}
use Rattle.order_encoding.specs.LiveFamilies as live
use Rattle.order_encoding.specs.LiveFamilies.{need_clauses, earlier_clauses, hold_clauses, hold_groups}
use Rattle.slot_capacity.specs.Limits.{capacity_of}
use Rattle.slot_capacity.specs.CapacityClauses.{with_capacity}

-- ---- a formula f with a part more: xs are the launches with their variables, and each kind of new variables begins
-- after the last one before it

module _ (g : LaunchGraph) (k : ℕ) (xs : List (ℕ × Launch)) (f : Formula) where
  -- memory

  abbrev pub new_held : List (ℕ × Held)
  new_held = numbered f.vars (all_held g k)

  abbrev pub before_new_stores : ℕ
  before_new_stores = f.vars + length (all_held g k)

  abbrev pub new_stores : List (ℕ × ℕ)
  new_stores = numbered before_new_stores (range_with_len 0 k)

  abbrev pub before_new_groups : ℕ
  before_new_groups = before_new_stores + k

  abbrev pub new_groups : List (List Lit)
  new_groups = held_groups k new_held ++ store_groups g k xs

  abbrev pub added_memory : List (List Lit)
  added_memory =
      entry_clauses g new_held
      ++ memory_clauses g xs new_held new_stores
      ++ kept_clauses g k xs new_held new_stores
      ++ counters before_new_groups 1 new_groups
      ++ last_memory_clauses g k new_held

  abbrev pub with_memory : Formula
  with_memory =
      record { vars = before_new_groups + counters_vars 1 new_groups; clauses = f.clauses ++ added_memory }

  -- the branch of a guard

  abbrev pub new_come_cycles : List ℕ
  new_come_cycles = when (is_some g.guard) (range_with_len 0 k)

  abbrev pub new_come : List (ℕ × ℕ)
  new_come = numbered f.vars new_come_cycles

  abbrev pub before_new_branch : ℕ
  before_new_branch = f.vars + length new_come_cycles

  abbrev pub added_guard : List (List Lit)
  added_guard =
      branch_clauses g xs
      ++ counters before_new_branch 1 (branch_groups g xs)
      ++ wait_clauses g xs new_come
      ++ come_clauses g xs new_come

  abbrev pub formula_with_guard : Formula
  formula_with_guard =
      record { vars = before_new_branch + counters_vars 1 (branch_groups g xs); clauses = f.clauses ++ added_guard }

  -- registers

  module _ (table : Table) where
    abbrev pub new_taken : List (ℕ × Taken)
    new_taken = numbered f.vars (all_taken table k)

    abbrev pub before_new_pool : ℕ
    before_new_pool = f.vars + length (all_taken table k)

    abbrev pub added_registers : List (List Lit)
    added_registers =
        pool_clauses g xs new_taken ++ counters before_new_pool (length g.pool) (register_groups new_taken)

    abbrev pub formula_with_registers : Formula
    formula_with_registers = record {
      vars = before_new_pool + counters_vars (length g.pool) (register_groups new_taken);
      clauses = f.clauses ++ added_registers;
    }

  -- registers by live ranges: vs is what is overwritten, with variables that stand before

  module _ (table : Table) (vs : List (ℕ × Overwritten)) where
    abbrev pub new_needs : List (ℕ × Need)
    new_needs = numbered f.vars (all_needs k (pooled_classes g xs))

    abbrev pub before_new_holds : ℕ
    before_new_holds = f.vars + length (all_needs k (pooled_classes g xs))

    abbrev pub new_holds : List (ℕ × Hold)
    new_holds = numbered before_new_holds (all_holds table k)

    abbrev pub before_hold_groups : ℕ
    before_hold_groups = before_new_holds + length (all_holds table k)

    abbrev pub added_live_ranges : List (List Lit)
    added_live_ranges =
        need_clauses g xs new_needs
        ++ earlier_clauses new_needs
        ++ live.last_need_clauses g k xs new_needs vs
        ++ hold_clauses g k xs new_needs new_holds
        ++ counters before_hold_groups (length g.pool) (hold_groups k new_holds)

    abbrev pub formula_with_live_ranges : Formula
    formula_with_live_ranges = record {
      vars = before_hold_groups + counters_vars (length g.pool) (hold_groups k new_holds);
      clauses = f.clauses ++ added_live_ranges;
    }

    -- the one or the other
    abbrev pub formula_with_pool : Allocation → Formula
    formula_with_pool Block = formula_with_registers table
    formula_with_pool Live = formula_with_live_ranges

  -- pins: vs is what is overwritten, bs the cycles by which the branch was launched, ws the cycles in which there is a
  -- store, with variables that stand before

  module _ (vs : List (ℕ × Overwritten)) (bs ws : List (ℕ × ℕ)) where
    abbrev pub added_pins : List (List Lit)
    added_pins =
        overwritten_clauses g k xs vs
        ++ counters f.vars 1 (pin_groups g xs)
        ++ pin_clauses g xs
        ++ late_clauses g xs bs
        ++ load_clauses g xs ws

    abbrev pub formula_with_pins : Formula
    formula_with_pins = record { vars = f.vars + counters_vars 1 (pin_groups g xs); clauses = f.clauses ++ added_pins }

-- ---- the formulas of the calls, one after another

module _ (g : LaunchGraph) (table : Table) (k : ℕ) (e : Listed) where
  abbrev pub memory_formula : Formula
  memory_formula = with_memory g k (launch_vars e) (cycle_formula g table k e)

  abbrev pub guard_formula : Formula
  guard_formula = formula_with_guard g k (launch_vars e) memory_formula

  abbrev pub pool_formula : Formula
  pool_formula =
      formula_with_pool g k (launch_vars e) guard_formula table (overwritten_vars g table k e) e.allocation

  -- the cycles by which the branch was launched have the first variables behind those of memory, in which those of
  -- cycles with a store come behind what is held
  abbrev pub branch_vars : List (ℕ × ℕ)
  branch_vars = new_come g k (launch_vars e) memory_formula

  abbrev pub store_cycle_vars : List (ℕ × ℕ)
  store_cycle_vars = new_stores g k (launch_vars e) (cycle_formula g table k e)

  abbrev pub pins_formula : Formula
  pins_formula =
      formula_with_pins g k (launch_vars e) pool_formula (overwritten_vars g table k e) branch_vars store_cycle_vars

  abbrev pub whole_formula : Formula
  whole_formula =
      with_capacity g (capacity_of g table e.allocation k e.launches) (launch_vars e) pins_formula

-- ---- the parts behind that of cycles, slots and values

-- the formula of the parts before this one
abbrev pub before_part : Part → LaunchGraph → Table → ℕ → Listed → Formula
before_part Memory = cycle_formula
before_part Guard = memory_formula
before_part Pool = guard_formula
before_part Pins = pool_formula
before_part Capacity = pins_formula

-- and with this one
abbrev pub with_part : Part → LaunchGraph → Table → ℕ → Listed → Formula
with_part Memory = memory_formula
with_part Guard = guard_formula
with_part Pool = pool_formula
with_part Pins = pins_formula
with_part Capacity = whole_formula

-- registers and pins speak of what is overwritten: this many variables come before those of it
abbrev pub KnowsOverwritten : Part → ℕ → Listed → Type 0
KnowsOverwritten Pool before l = before ≡ before_overwritten l
KnowsOverwritten Pins before l = before ≡ before_overwritten l
KnowsOverwritten _ before l = Unit {0}

-- ---- what an encoding gives

-- these are the clauses for k cycles over the lists of the encoding
pub record IsFormulaOf (e : Encoding) (g : LaunchGraph) (table : Table) (k : ℕ) (f : Formula) : Type 0 where
  pub lists : Listed
  pub listed : AreListed e g table k lists
  pub is : f ≡ whole_formula g table k lists

-- a size has the counts of the clauses for k cycles, one of which passes its limit; want of memory says nothing
abbrev pub IsSizeFault : Encoding → LaunchGraph → Table → ℕ → EncodeFault → Type 0
IsSizeFault e g table k (faults.Size vars clauses) = (f : Formula) × IsFormulaOf e g table k f × PassesLimit f vars clauses
IsSizeFault e g table k faults.Memory = Unit {0}

-- for each number of cycles that may be asked for these are the encoding's clauses
abbrev pub AreFormulas : Encoding → LaunchGraph → Table → (ℕ → Formula) → Type 0
AreFormulas e g table formulas = (k : ℕ) → k ≤ most_cycles → IsFormulaOf e g table k (formulas k)

-- the clauses for k cycles over what a scope gives variables
abbrev pub formula_in : Scope → LaunchGraph → Table → ℕ → Formula
formula_in s g table k = whole_formula g table k (listed_in g table k s)
