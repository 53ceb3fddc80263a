use Rattle.std.proofs.Common.{◌≡◌, ◌∙◌, ◌≤◌, List, ap, sym, subst, arith}
use Rattle.std.specs.Prelude.{length}
use Rattle.cycle_encoding.specs.Limits.{most_vars, most_clauses}
use Rattle.cnf_core.specs.Formula.{Formula}
use Rattle.schedule_meaning.specs.declared.schedules.Launch.{Launch}
use Rattle.cycle_encoding.specs.CycleFormula.{before_overwritten, cycle_formula, listed_in}
use Rattle.cycle_encoding.specs.Plans.{IsTooLarge}
use Rattle.cycle_encoding.proofs.Built.{on_ok_more}
use Rattle.order_encoding.specs.WholeFormula.{KnowsOverwritten, memory_formula, pins_formula, pool_formula, with_part}
use Rattle.order_encoding.specs.declared.adding.Part.TheVariants.{Memory, Guard, Pool, Pins, Capacity}
use Rattle.order_encoding.proofs.Composed.{come_within, launches_within, over_within}
use Rattle.order_encoding.proofs.Begins.{branches_are, branches_begin, branches_within, stores_are, stores_begin, stores_within}
use Rattle.order_encoding.proofs.Limits.{capacity_is, guard_is, memory_is, pins_is}
use Rattle.order_encoding.proofs.PartSteps.{after_named, before_named, clauses_named, vars_named}
use Rattle.order_encoding.proofs.adding.extend.Goals as goal

pub extend_by_memory-requires-clause-exist : goal.extend_by_memory-requires-clause-exist
extend_by_memory-requires-clause-exist c =
    let g = c.args.plan.now.frame.facts.now in
    let table = c.args.plan.now.frame.table.now in
    let k = c.args.plan.now.frame.k in
    let s = c.args.plan.now.frame.scope.now in
    let e = listed_in g table k s in
    let f = c.args.cnf.now in
    let before = before_named c.args.part Memory c.in-Memory.is g table k s f c.requires.formula in
    let long = ap (λ (ls : List Launch). length ls) c.requires.launches in
    let many : f.vars ≡ (cycle_formula g table k e).vars = ap (λ (x : Formula). x.vars) before in
    omega arith

pub extend_by_memory-requires-clause-vars : goal.extend_by_memory-requires-clause-vars
extend_by_memory-requires-clause-vars c =
    let g = c.args.plan.now.frame.facts.now in
    let table = c.args.plan.now.frame.table.now in
    let k = c.args.plan.now.frame.k in
    let s = c.args.plan.now.frame.scope.now in
    let e = listed_in g table k s in
    let f = c.args.cnf.now in
    let before = before_named c.args.part Memory c.in-Memory.is g table k s f c.requires.formula in
    let is = memory_is g table k e c.args.plan.now.launches.now c.requires.launches f before in
    subst (λ (x : Formula). x.vars ≤ most_vars) (sym is) (vars_named c.args.part Memory c.in-Memory.is g table k s c.requires.within)

pub extend_by_memory-requires-clause-clauses : goal.extend_by_memory-requires-clause-clauses
extend_by_memory-requires-clause-clauses c =
    let g = c.args.plan.now.frame.facts.now in
    let table = c.args.plan.now.frame.table.now in
    let k = c.args.plan.now.frame.k in
    let s = c.args.plan.now.frame.scope.now in
    let e = listed_in g table k s in
    let f = c.args.cnf.now in
    let before = before_named c.args.part Memory c.in-Memory.is g table k s f c.requires.formula in
    let is = memory_is g table k e c.args.plan.now.launches.now c.requires.launches f before in
    subst (λ (x : Formula). length x.clauses ≤ most_clauses) (sym is) (clauses_named c.args.part Memory c.in-Memory.is g table k s c.requires.within)

pub returns-in-Memory : goal.returns-in-Memory
returns-in-Memory c =
    let g = c.args.plan.now.frame.facts.now in
    let table = c.args.plan.now.frame.table.now in
    let k = c.args.plan.now.frame.k in
    let s = c.args.plan.now.frame.scope.now in
    let e = listed_in g table k s in
    let f = c.args.cnf.now in
    let before = before_named c.args.part Memory c.in-Memory.is g table k s f c.requires.formula in
    let is = memory_is g table k e c.args.plan.now.launches.now c.requires.launches f before in
    on_ok_more _ _ c.extend_by_memory.result (λ new. after_named c.args.part Memory c.in-Memory.is g table k s c.extend_by_memory.new.cnf (new ∙ is)) c.extend_by_memory.ensures

pub extend_by_guard-requires-clause-exist : goal.extend_by_guard-requires-clause-exist
extend_by_guard-requires-clause-exist c =
    let g = c.args.plan.now.frame.facts.now in
    let table = c.args.plan.now.frame.table.now in
    let k = c.args.plan.now.frame.k in
    let s = c.args.plan.now.frame.scope.now in
    let e = listed_in g table k s in
    let f = c.args.cnf.now in
    let before = before_named c.args.part Guard c.in-Guard.is g table k s f c.requires.formula in
    let long = ap (λ (ls : List Launch). length ls) c.requires.launches in
    let many : f.vars ≡ (memory_formula g table k e).vars = ap (λ (x : Formula). x.vars) before in
    omega arith

pub extend_by_guard-requires-clause-vars : goal.extend_by_guard-requires-clause-vars
extend_by_guard-requires-clause-vars c =
    let g = c.args.plan.now.frame.facts.now in
    let table = c.args.plan.now.frame.table.now in
    let k = c.args.plan.now.frame.k in
    let s = c.args.plan.now.frame.scope.now in
    let e = listed_in g table k s in
    let f = c.args.cnf.now in
    let before = before_named c.args.part Guard c.in-Guard.is g table k s f c.requires.formula in
    let is = guard_is g table k e c.args.plan.now.launches.now c.requires.launches f before in
    subst (λ (x : Formula). x.vars ≤ most_vars) (sym is) (vars_named c.args.part Guard c.in-Guard.is g table k s c.requires.within)

pub extend_by_guard-requires-clause-clauses : goal.extend_by_guard-requires-clause-clauses
extend_by_guard-requires-clause-clauses c =
    let g = c.args.plan.now.frame.facts.now in
    let table = c.args.plan.now.frame.table.now in
    let k = c.args.plan.now.frame.k in
    let s = c.args.plan.now.frame.scope.now in
    let e = listed_in g table k s in
    let f = c.args.cnf.now in
    let before = before_named c.args.part Guard c.in-Guard.is g table k s f c.requires.formula in
    let is = guard_is g table k e c.args.plan.now.launches.now c.requires.launches f before in
    subst (λ (x : Formula). length x.clauses ≤ most_clauses) (sym is) (clauses_named c.args.part Guard c.in-Guard.is g table k s c.requires.within)

pub returns-in-Guard : goal.returns-in-Guard
returns-in-Guard c =
    let g = c.args.plan.now.frame.facts.now in
    let table = c.args.plan.now.frame.table.now in
    let k = c.args.plan.now.frame.k in
    let s = c.args.plan.now.frame.scope.now in
    let e = listed_in g table k s in
    let f = c.args.cnf.now in
    let before = before_named c.args.part Guard c.in-Guard.is g table k s f c.requires.formula in
    let is = guard_is g table k e c.args.plan.now.launches.now c.requires.launches f before in
    on_ok_more _ _ c.extend_by_guard.result (λ new. after_named c.args.part Guard c.in-Guard.is g table k s c.extend_by_guard.new.cnf (new ∙ is)) c.extend_by_guard.ensures

pub extend_by_pool-requires-clause-formula : goal.extend_by_pool-requires-clause-formula
extend_by_pool-requires-clause-formula c =
    let g = c.args.plan.now.frame.facts.now in
    let table = c.args.plan.now.frame.table.now in
    let k = c.args.plan.now.frame.k in
    let s = c.args.plan.now.frame.scope.now in
    let e = listed_in g table k s in
    let f = c.args.cnf.now in
    before_named c.args.part Pool c.in-Pool.is g table k s f c.requires.formula

pub extend_by_pool-requires-clause-overwritten : goal.extend_by_pool-requires-clause-overwritten
extend_by_pool-requires-clause-overwritten c =
    let g = c.args.plan.now.frame.facts.now in
    let table = c.args.plan.now.frame.table.now in
    let k = c.args.plan.now.frame.k in
    let s = c.args.plan.now.frame.scope.now in
    let e = listed_in g table k s in
    let f = c.args.cnf.now in
    subst (λ p. KnowsOverwritten p c.args.plan.now.over.now.first e) c.in-Pool.is c.requires.overwritten

pub extend_by_pool-requires-clause-within : goal.extend_by_pool-requires-clause-within
extend_by_pool-requires-clause-within c =
    let g = c.args.plan.now.frame.facts.now in
    let table = c.args.plan.now.frame.table.now in
    let k = c.args.plan.now.frame.k in
    let s = c.args.plan.now.frame.scope.now in
    let e = listed_in g table k s in
    let f = c.args.cnf.now in
    subst (λ p. IsTooLarge (with_part p g table k e) → ⊥) c.in-Pool.is c.requires.within

pub returns-in-Pool : goal.returns-in-Pool
returns-in-Pool c =
    let g = c.args.plan.now.frame.facts.now in
    let table = c.args.plan.now.frame.table.now in
    let k = c.args.plan.now.frame.k in
    let s = c.args.plan.now.frame.scope.now in
    let e = listed_in g table k s in
    let f = c.args.cnf.now in
    on_ok_more _ _ c.extend_by_pool.result (λ new. after_named c.args.part Pool c.in-Pool.is g table k s c.extend_by_pool.new.cnf new) c.extend_by_pool.ensures

pub extend_by_pins-requires-clause-launches : goal.extend_by_pins-requires-clause-launches
extend_by_pins-requires-clause-launches c =
    let g = c.args.plan.now.frame.facts.now in
    let table = c.args.plan.now.frame.table.now in
    let k = c.args.plan.now.frame.k in
    let s = c.args.plan.now.frame.scope.now in
    let e = listed_in g table k s in
    let f = c.args.cnf.now in
    let before = before_named c.args.part Pins c.in-Pins.is g table k s f c.requires.formula in
    let over : c.args.plan.now.over.now.first ≡ before_overwritten e = subst (λ p. KnowsOverwritten p c.args.plan.now.over.now.first e) c.in-Pins.is c.requires.overwritten in
    let branches = branches_are c.args.plan.now.frame c.args.plan.now.sizes c.requires.sizes (c.parts_are_counted.ensures.memory_vars g table k s) in
    let long = ap (λ (ls : List Launch). length ls) c.requires.launches in
    omega arith

pub extend_by_pins-requires-clause-exist : goal.extend_by_pins-requires-clause-exist
extend_by_pins-requires-clause-exist c =
    let g = c.args.plan.now.frame.facts.now in
    let table = c.args.plan.now.frame.table.now in
    let k = c.args.plan.now.frame.k in
    let s = c.args.plan.now.frame.scope.now in
    let e = listed_in g table k s in
    let f = c.args.cnf.now in
    let before = before_named c.args.part Pins c.in-Pins.is g table k s f c.requires.formula in
    let over : c.args.plan.now.over.now.first ≡ before_overwritten e = subst (λ p. KnowsOverwritten p c.args.plan.now.over.now.first e) c.in-Pins.is c.requires.overwritten in
    let branches = branches_are c.args.plan.now.frame c.args.plan.now.sizes c.requires.sizes (c.parts_are_counted.ensures.memory_vars g table k s) in
    let within = over_within g table k e in
    omega arith

pub extend_by_pins-requires-clause-branches : goal.extend_by_pins-requires-clause-branches
extend_by_pins-requires-clause-branches c =
    let g = c.args.plan.now.frame.facts.now in
    let table = c.args.plan.now.frame.table.now in
    let k = c.args.plan.now.frame.k in
    let s = c.args.plan.now.frame.scope.now in
    let e = listed_in g table k s in
    let f = c.args.cnf.now in
    let before = before_named c.args.part Pins c.in-Pins.is g table k s f c.requires.formula in
    let over : c.args.plan.now.over.now.first ≡ before_overwritten e = subst (λ p. KnowsOverwritten p c.args.plan.now.over.now.first e) c.in-Pins.is c.requires.overwritten in
    let branches = branches_are c.args.plan.now.frame c.args.plan.now.sizes c.requires.sizes (c.parts_are_counted.ensures.memory_vars g table k s) in
    let within = come_within g table k e in
    let many : f.vars ≡ (pool_formula g table k e).vars = ap (λ (x : Formula). x.vars) before in
    omega arith

pub extend_by_pins-requires-clause-vars : goal.extend_by_pins-requires-clause-vars
extend_by_pins-requires-clause-vars c =
    let g = c.args.plan.now.frame.facts.now in
    let table = c.args.plan.now.frame.table.now in
    let k = c.args.plan.now.frame.k in
    let s = c.args.plan.now.frame.scope.now in
    let e = listed_in g table k s in
    let f = c.args.cnf.now in
    let before = before_named c.args.part Pins c.in-Pins.is g table k s f c.requires.formula in
    let over : c.args.plan.now.over.now.first ≡ before_overwritten e = subst (λ p. KnowsOverwritten p c.args.plan.now.over.now.first e) c.in-Pins.is c.requires.overwritten in
    let branches = branches_are c.args.plan.now.frame c.args.plan.now.sizes c.requires.sizes (c.parts_are_counted.ensures.memory_vars g table k s) in
    let is = pins_is g table k e c.args.plan.now.launches.now c.requires.launches f c.args.plan.now.over.now.first (branches_begin c.args.plan.now.frame c.args.plan.now.sizes c.requires.sizes) (stores_begin c.args.plan.now.frame c.args.plan.now.sizes c.requires.sizes) over branches (stores_are c.args.plan.now.frame c.args.plan.now.sizes c.requires.sizes (c.cycle_counts_are_found.ensures.vars g table k s)) before in
    subst (λ (x : Formula). x.vars ≤ most_vars) (sym is) (vars_named c.args.part Pins c.in-Pins.is g table k s c.requires.within)

pub extend_by_pins-requires-clause-clauses : goal.extend_by_pins-requires-clause-clauses
extend_by_pins-requires-clause-clauses c =
    let g = c.args.plan.now.frame.facts.now in
    let table = c.args.plan.now.frame.table.now in
    let k = c.args.plan.now.frame.k in
    let s = c.args.plan.now.frame.scope.now in
    let e = listed_in g table k s in
    let f = c.args.cnf.now in
    let before = before_named c.args.part Pins c.in-Pins.is g table k s f c.requires.formula in
    let over : c.args.plan.now.over.now.first ≡ before_overwritten e = subst (λ p. KnowsOverwritten p c.args.plan.now.over.now.first e) c.in-Pins.is c.requires.overwritten in
    let branches = branches_are c.args.plan.now.frame c.args.plan.now.sizes c.requires.sizes (c.parts_are_counted.ensures.memory_vars g table k s) in
    let is = pins_is g table k e c.args.plan.now.launches.now c.requires.launches f c.args.plan.now.over.now.first (branches_begin c.args.plan.now.frame c.args.plan.now.sizes c.requires.sizes) (stores_begin c.args.plan.now.frame c.args.plan.now.sizes c.requires.sizes) over branches (stores_are c.args.plan.now.frame c.args.plan.now.sizes c.requires.sizes (c.cycle_counts_are_found.ensures.vars g table k s)) before in
    subst (λ (x : Formula). length x.clauses ≤ most_clauses) (sym is) (clauses_named c.args.part Pins c.in-Pins.is g table k s c.requires.within)

pub returns-in-Pins : goal.returns-in-Pins
returns-in-Pins c =
    let g = c.args.plan.now.frame.facts.now in
    let table = c.args.plan.now.frame.table.now in
    let k = c.args.plan.now.frame.k in
    let s = c.args.plan.now.frame.scope.now in
    let e = listed_in g table k s in
    let f = c.args.cnf.now in
    let before = before_named c.args.part Pins c.in-Pins.is g table k s f c.requires.formula in
    let over : c.args.plan.now.over.now.first ≡ before_overwritten e = subst (λ p. KnowsOverwritten p c.args.plan.now.over.now.first e) c.in-Pins.is c.requires.overwritten in
    let branches = branches_are c.args.plan.now.frame c.args.plan.now.sizes c.requires.sizes (c.parts_are_counted.ensures.memory_vars g table k s) in
    let is = pins_is g table k e c.args.plan.now.launches.now c.requires.launches f c.args.plan.now.over.now.first (branches_begin c.args.plan.now.frame c.args.plan.now.sizes c.requires.sizes) (stores_begin c.args.plan.now.frame c.args.plan.now.sizes c.requires.sizes) over branches (stores_are c.args.plan.now.frame c.args.plan.now.sizes c.requires.sizes (c.cycle_counts_are_found.ensures.vars g table k s)) before in
    on_ok_more _ _ c.extend_by_pins.result (λ new. after_named c.args.part Pins c.in-Pins.is g table k s c.extend_by_pins.new.cnf (new ∙ is)) c.extend_by_pins.ensures

pub extend_by_pins-requires-clause-before_stores : goal.extend_by_pins-requires-clause-before_stores
extend_by_pins-requires-clause-before_stores c =
    let g = c.args.plan.now.frame.facts.now in
    let table = c.args.plan.now.frame.table.now in
    let k = c.args.plan.now.frame.k in
    let s = c.args.plan.now.frame.scope.now in
    let e = listed_in g table k s in
    let f = c.args.cnf.now in
    let stores = stores_are c.args.plan.now.frame c.args.plan.now.sizes c.requires.sizes (c.cycle_counts_are_found.ensures.vars g table k s) in
    let long = ap (λ (ls : List Launch). length ls) c.requires.launches in
    omega arith

pub extend_by_pins-requires-clause-stores : goal.extend_by_pins-requires-clause-stores
extend_by_pins-requires-clause-stores c =
    let g = c.args.plan.now.frame.facts.now in
    let table = c.args.plan.now.frame.table.now in
    let k = c.args.plan.now.frame.k in
    let s = c.args.plan.now.frame.scope.now in
    let e = listed_in g table k s in
    let f = c.args.cnf.now in
    let before = before_named c.args.part Pins c.in-Pins.is g table k s f c.requires.formula in
    let stores = stores_are c.args.plan.now.frame c.args.plan.now.sizes c.requires.sizes (c.cycle_counts_are_found.ensures.vars g table k s) in
    let within = come_within g table k e in
    let many : f.vars ≡ (pool_formula g table k e).vars = ap (λ (x : Formula). x.vars) before in
    omega arith

pub extend_by_capacity-requires-clause-exist : goal.extend_by_capacity-requires-clause-exist
extend_by_capacity-requires-clause-exist c =
    let g = c.args.plan.now.frame.facts.now in
    let table = c.args.plan.now.frame.table.now in
    let k = c.args.plan.now.frame.k in
    let s = c.args.plan.now.frame.scope.now in
    let e = listed_in g table k s in
    let f = c.args.cnf.now in
    let before = before_named c.args.part Capacity c.in-Capacity.is g table k s f c.requires.formula in
    let long = ap (λ (ls : List Launch). length ls) c.requires.launches in
    let many : f.vars ≡ (pins_formula g table k e).vars = ap (λ (x : Formula). x.vars) before in
    let within = launches_within g table k e in
    omega (arith, long, many, within)

pub extend_by_capacity-requires-clause-vars : goal.extend_by_capacity-requires-clause-vars
extend_by_capacity-requires-clause-vars c =
    let g = c.args.plan.now.frame.facts.now in
    let table = c.args.plan.now.frame.table.now in
    let k = c.args.plan.now.frame.k in
    let s = c.args.plan.now.frame.scope.now in
    let e = listed_in g table k s in
    let f = c.args.cnf.now in
    let before = before_named c.args.part Capacity c.in-Capacity.is g table k s f c.requires.formula in
    let is = capacity_is g table k e c.args.plan.now.launches.now c.requires.launches f c.args.plan.now.capacity.now c.requires.capacity.is before in
    subst (λ (x : Formula). x.vars ≤ most_vars) (sym is) (vars_named c.args.part Capacity c.in-Capacity.is g table k s c.requires.within)

pub extend_by_capacity-requires-clause-clauses : goal.extend_by_capacity-requires-clause-clauses
extend_by_capacity-requires-clause-clauses c =
    let g = c.args.plan.now.frame.facts.now in
    let table = c.args.plan.now.frame.table.now in
    let k = c.args.plan.now.frame.k in
    let s = c.args.plan.now.frame.scope.now in
    let e = listed_in g table k s in
    let f = c.args.cnf.now in
    let before = before_named c.args.part Capacity c.in-Capacity.is g table k s f c.requires.formula in
    let is = capacity_is g table k e c.args.plan.now.launches.now c.requires.launches f c.args.plan.now.capacity.now c.requires.capacity.is before in
    subst (λ (x : Formula). length x.clauses ≤ most_clauses) (sym is) (clauses_named c.args.part Capacity c.in-Capacity.is g table k s c.requires.within)

pub returns-in-Capacity : goal.returns-in-Capacity
returns-in-Capacity c =
    let g = c.args.plan.now.frame.facts.now in
    let table = c.args.plan.now.frame.table.now in
    let k = c.args.plan.now.frame.k in
    let s = c.args.plan.now.frame.scope.now in
    let e = listed_in g table k s in
    let f = c.args.cnf.now in
    let before = before_named c.args.part Capacity c.in-Capacity.is g table k s f c.requires.formula in
    let is = capacity_is g table k e c.args.plan.now.launches.now c.requires.launches f c.args.plan.now.capacity.now c.requires.capacity.is before in
    on_ok_more _ _ c.extend_by_capacity.result (λ new. after_named c.args.part Capacity c.in-Capacity.is g table k s c.extend_by_capacity.new.cnf (new ∙ is)) c.extend_by_capacity.ensures

pub overflow_add-branches : goal.overflow_add-branches
overflow_add-branches c =
    let g = c.args.plan.now.frame.facts.now in
    let table = c.args.plan.now.frame.table.now in
    let k = c.args.plan.now.frame.k in
    let s = c.args.plan.now.frame.scope.now in
    let within = subst (λ p. IsTooLarge (with_part p g table k (listed_in g table k s)) → ⊥) c.in-Pins.is c.requires.within in
    let few = branches_within c.args.plan.now.frame c.args.plan.now.sizes c.requires.sizes within (c.parts_are_counted.ensures.memory_vars g table k s) in
    omega (arith, few)

pub overflow_cast-branches : goal.overflow_cast-branches
overflow_cast-branches c =
    let g = c.args.plan.now.frame.facts.now in
    let table = c.args.plan.now.frame.table.now in
    let k = c.args.plan.now.frame.k in
    let s = c.args.plan.now.frame.scope.now in
    let within = subst (λ p. IsTooLarge (with_part p g table k (listed_in g table k s)) → ⊥) c.in-Pins.is c.requires.within in
    let few = branches_within c.args.plan.now.frame c.args.plan.now.sizes c.requires.sizes within (c.parts_are_counted.ensures.memory_vars g table k s) in
    omega (arith, few)

pub overflow_add-stores : goal.overflow_add-stores
overflow_add-stores c =
    let g = c.args.plan.now.frame.facts.now in
    let table = c.args.plan.now.frame.table.now in
    let k = c.args.plan.now.frame.k in
    let s = c.args.plan.now.frame.scope.now in
    let within = subst (λ p. IsTooLarge (with_part p g table k (listed_in g table k s)) → ⊥) c.in-Pins.is c.requires.within in
    let few = stores_within c.args.plan.now.frame c.args.plan.now.sizes c.requires.sizes within (c.cycle_counts_are_found.ensures.vars g table k s) in
    omega (arith, few)

pub overflow_cast-stores : goal.overflow_cast-stores
overflow_cast-stores c =
    let g = c.args.plan.now.frame.facts.now in
    let table = c.args.plan.now.frame.table.now in
    let k = c.args.plan.now.frame.k in
    let s = c.args.plan.now.frame.scope.now in
    let within = subst (λ p. IsTooLarge (with_part p g table k (listed_in g table k s)) → ⊥) c.in-Pins.is c.requires.within in
    let few = stores_within c.args.plan.now.frame c.args.plan.now.sizes c.requires.sizes within (c.cycle_counts_are_found.ensures.vars g table k s) in
    omega (arith, few)
