use Rattle.std.proofs.Common.{◌≡◌, ◌∙◌, ◌≤◌, ℕ, ap, subst, sym}
use Rattle.schedule_meaning.specs.Limits.{most_cycles}
use Rattle.cnf_core.specs.Formula.{Formula}
use Rattle.graph_meaning.specs.declared.graphs.LaunchGraph.{LaunchGraph}
use Rattle.machine_table.specs.declared.tables.Table.{Table}
use Rattle.cycle_encoding.specs.CycleFormula.{Listed}
use Rattle.cycle_encoding.specs.Encodings.{AreListed, OnLists}
use Rattle.cycle_encoding.specs.CycleFormula.{before_overwritten, cycle_formula}
use Rattle.cycle_encoding.specs.Plans.{Plan}
use Rattle.cycle_encoding.specs.declared.encodings.Encoding.{Encoding}
use Rattle.order_encoding.specs.WholeFormula.{guard_formula, memory_formula, pins_formula, pool_formula}
use Rattle.schedule_cases.proofs.formulas.by_parts.Goals as goal

-- what is kept beside a formula over these lists
abbrev planned : Encoding → LaunchGraph → Table → ℕ → Listed → Plan
planned e g table k l = record {
  encoding = e;
  cycles = k;
  launches = l.launches;
  overwritten = before_overwritten l;
}

-- the plan is that of the encoding's lists, of which there are some
record IsPlanOf (e : Encoding) (g : LaunchGraph) (table : Table) (k : ℕ) (p : Plan) : Type 0 where
  some : (l : Listed) × AreListed e g table k l
  is : (l : Listed) → AreListed e g table k l → p ≡ planned e g table k l

module _ (e : Encoding) (g : LaunchGraph) (table : Table) (k : ℕ) (p : Plan) (of : IsPlanOf e g table k p) where
  cycles_are : p.cycles ≡ k
  cycles_are = ap (λ (x : Plan). x.cycles) (of.is of.some.0 of.some.1)

  few_cycles : k ≤ most_cycles → p.cycles ≤ most_cycles
  few_cycles few = subst (λ n. n ≤ most_cycles) (sym cycles_are) few

  listed : (l : Listed) → AreListed p.encoding g table p.cycles l → AreListed e g table k l
  listed l are =
      subst (λ n. AreListed e g table n l) cycles_are
      (subst (λ (x : Encoding). AreListed x g table p.cycles l) (ap (λ (x : Plan). x.encoding) (of.is of.some.0 of.some.1)) are)

  -- what holds of the encoding's lists holds of the plan's
  on_plan : (P : ℕ → Listed → Type 0) → ((l : Listed) → AreListed e g table k l → P k l)
      → OnLists p.encoding g table p.cycles (P p.cycles)
  on_plan P h = λ l are. subst (λ n. P n l) (sym cycles_are) (h l (listed l are))

  launches_are : OnLists p.encoding g table p.cycles (λ l. p.launches ≡ l.launches)
  launches_are = on_plan (λ n l. p.launches ≡ l.launches) (λ l are. ap (λ (x : Plan). x.launches) (of.is l are))

  overwritten_is : OnLists p.encoding g table p.cycles (λ l. p.overwritten ≡ before_overwritten l)
  overwritten_is =
      on_plan (λ n l. p.overwritten ≡ before_overwritten l) (λ l are. ap (λ (x : Plan). x.overwritten) (of.is l are))

-- a plan that is equal is one too
same_plan : (e : Encoding) (g : LaunchGraph) (table : Table) (k : ℕ) (p q : Plan) → q ≡ p → IsPlanOf e g table k p
    → IsPlanOf e g table k q
same_plan e g table k p q same of = record { some = of.some; is = λ l are. same ∙ of.is l are }

-- what holds by one plan holds by one that is equal
by_plan : (g : LaunchGraph) (table : Table) (p q : Plan) → p ≡ q → (P : ℕ → Listed → Type 0)
    → OnLists q.encoding g table q.cycles (P q.cycles) → OnLists p.encoding g table p.cycles (P p.cycles)
by_plan g table p q is P h = subst (λ (x : Plan). OnLists x.encoding g table x.cycles (P x.cycles)) (sym is) h

pub add_memory-requires-clause-cycles : goal.add_memory-requires-clause-cycles
add_memory-requires-clause-cycles c =
    few_cycles c.args.encoding c.args.graph.now c.args.table.now c.args.k c.in_ok-cycles.cycles.plan
    (record { some = c.in_ok-cycles.ensures.listed; is = c.in_ok-cycles.ensures.plan }) c.requires.cycles

pub add_memory-requires-clause-formula : goal.add_memory-requires-clause-formula
add_memory-requires-clause-formula c =
    on_plan c.args.encoding c.args.graph.now c.args.table.now c.args.k c.in_ok-cycles.cycles.plan
    (record { some = c.in_ok-cycles.ensures.listed; is = c.in_ok-cycles.ensures.plan })
    (λ n l. c.in_ok-cycles.cycles.cnf ≡ cycle_formula c.args.graph.now c.args.table.now n l)
    c.in_ok-cycles.ensures.formula

pub add_memory-requires-clause-plan : goal.add_memory-requires-clause-plan
add_memory-requires-clause-plan c =
    launches_are c.args.encoding c.args.graph.now c.args.table.now c.args.k c.in_ok-cycles.cycles.plan
    (record { some = c.in_ok-cycles.ensures.listed; is = c.in_ok-cycles.ensures.plan })

pub add_guard-requires-clause-cycles : goal.add_guard-requires-clause-cycles
add_guard-requires-clause-cycles c =
    few_cycles c.args.encoding c.args.graph.now c.args.table.now c.args.k c.in_ok-memory.memory.plan
    (same_plan c.args.encoding c.args.graph.now c.args.table.now c.args.k c.in_ok-cycles.cycles.plan c.in_ok-memory.memory.plan
    c.in_ok-memory.ensures.plan (record { some = c.in_ok-cycles.ensures.listed; is = c.in_ok-cycles.ensures.plan }))
    c.requires.cycles

pub add_guard-requires-clause-formula : goal.add_guard-requires-clause-formula
add_guard-requires-clause-formula c =
    by_plan c.args.graph.now c.args.table.now c.in_ok-memory.memory.plan c.in_ok-cycles.cycles.plan
    c.in_ok-memory.ensures.plan
    (λ n l. c.in_ok-memory.memory.cnf ≡ memory_formula c.args.graph.now c.args.table.now n l)
    c.in_ok-memory.ensures.formula

pub add_guard-requires-clause-plan : goal.add_guard-requires-clause-plan
add_guard-requires-clause-plan c =
    launches_are c.args.encoding c.args.graph.now c.args.table.now c.args.k c.in_ok-memory.memory.plan
    (same_plan c.args.encoding c.args.graph.now c.args.table.now c.args.k c.in_ok-cycles.cycles.plan c.in_ok-memory.memory.plan
    c.in_ok-memory.ensures.plan (record { some = c.in_ok-cycles.ensures.listed; is = c.in_ok-cycles.ensures.plan }))

pub add_pool-requires-clause-cycles : goal.add_pool-requires-clause-cycles
add_pool-requires-clause-cycles c =
    few_cycles c.args.encoding c.args.graph.now c.args.table.now c.args.k c.in_ok-guard.guard.plan
    (same_plan c.args.encoding c.args.graph.now c.args.table.now c.args.k c.in_ok-cycles.cycles.plan c.in_ok-guard.guard.plan
    (c.in_ok-guard.ensures.plan ∙ c.in_ok-memory.ensures.plan)
    (record { some = c.in_ok-cycles.ensures.listed; is = c.in_ok-cycles.ensures.plan }))
    c.requires.cycles

pub add_pool-requires-clause-formula : goal.add_pool-requires-clause-formula
add_pool-requires-clause-formula c =
    by_plan c.args.graph.now c.args.table.now c.in_ok-guard.guard.plan c.in_ok-memory.memory.plan c.in_ok-guard.ensures.plan
    (λ n l. c.in_ok-guard.guard.cnf ≡ guard_formula c.args.graph.now c.args.table.now n l)
    c.in_ok-guard.ensures.formula

pub add_pool-requires-clause-plan : goal.add_pool-requires-clause-plan
add_pool-requires-clause-plan c =
    launches_are c.args.encoding c.args.graph.now c.args.table.now c.args.k c.in_ok-guard.guard.plan
    (same_plan c.args.encoding c.args.graph.now c.args.table.now c.args.k c.in_ok-cycles.cycles.plan c.in_ok-guard.guard.plan
    (c.in_ok-guard.ensures.plan ∙ c.in_ok-memory.ensures.plan)
    (record { some = c.in_ok-cycles.ensures.listed; is = c.in_ok-cycles.ensures.plan }))

pub add_pins-requires-clause-cycles : goal.add_pins-requires-clause-cycles
add_pins-requires-clause-cycles c =
    few_cycles c.args.encoding c.args.graph.now c.args.table.now c.args.k c.in_ok-pool.pool.plan
    (same_plan c.args.encoding c.args.graph.now c.args.table.now c.args.k c.in_ok-cycles.cycles.plan c.in_ok-pool.pool.plan
    (c.in_ok-pool.ensures.plan ∙ c.in_ok-guard.ensures.plan ∙ c.in_ok-memory.ensures.plan)
    (record { some = c.in_ok-cycles.ensures.listed; is = c.in_ok-cycles.ensures.plan }))
    c.requires.cycles

pub add_pins-requires-clause-formula : goal.add_pins-requires-clause-formula
add_pins-requires-clause-formula c =
    by_plan c.args.graph.now c.args.table.now c.in_ok-pool.pool.plan c.in_ok-guard.guard.plan c.in_ok-pool.ensures.plan
    (λ n l. c.in_ok-pool.pool.cnf ≡ pool_formula c.args.graph.now c.args.table.now n l)
    c.in_ok-pool.ensures.formula

pub add_pins-requires-clause-plan : goal.add_pins-requires-clause-plan
add_pins-requires-clause-plan c =
    launches_are c.args.encoding c.args.graph.now c.args.table.now c.args.k c.in_ok-pool.pool.plan
    (same_plan c.args.encoding c.args.graph.now c.args.table.now c.args.k c.in_ok-cycles.cycles.plan c.in_ok-pool.pool.plan
    (c.in_ok-pool.ensures.plan ∙ c.in_ok-guard.ensures.plan ∙ c.in_ok-memory.ensures.plan)
    (record { some = c.in_ok-cycles.ensures.listed; is = c.in_ok-cycles.ensures.plan }))

pub add_pins-requires-clause-overwritten : goal.add_pins-requires-clause-overwritten
add_pins-requires-clause-overwritten c =
    overwritten_is c.args.encoding c.args.graph.now c.args.table.now c.args.k c.in_ok-pool.pool.plan
    (same_plan c.args.encoding c.args.graph.now c.args.table.now c.args.k c.in_ok-cycles.cycles.plan c.in_ok-pool.pool.plan
    (c.in_ok-pool.ensures.plan ∙ c.in_ok-guard.ensures.plan ∙ c.in_ok-memory.ensures.plan)
    (record { some = c.in_ok-cycles.ensures.listed; is = c.in_ok-cycles.ensures.plan }))

pub add_capacity-requires-clause-formula : goal.add_capacity-requires-clause-formula
add_capacity-requires-clause-formula c =
    by_plan c.args.graph.now c.args.table.now c.in_ok-pins.pins.plan c.in_ok-pool.pool.plan c.in_ok-pins.ensures.plan
    (λ n l. c.in_ok-pins.pins.cnf ≡ pins_formula c.args.graph.now c.args.table.now n l)
    c.in_ok-pins.ensures.formula
