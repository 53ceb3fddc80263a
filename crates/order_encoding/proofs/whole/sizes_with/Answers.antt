use Rattle.std.proofs.Common.{◌∙◌, ap, arith}
use Rattle.slot_capacity.specs.CapacityCounts.{capacity_size, capacity_vars}
use Rattle.order_encoding.proofs.whole.sizes_with.Goals as goal

pub returns-clause-vars : goal.returns-clause-vars
returns-clause-vars c =
    let is = c.counts_are_found.ensures.vars c.args.frame.now.facts.now c.args.frame.now.table.now c.args.frame.now.k c.args.frame.now.scope.now in
    let cycles = c.requires.first.cycle_vars in
    let memory = c.requires.first.memory_vars in
    let guard = c.guard_sizes.ensures.vars in
    let pool = c.in_ok-pool_sizes.ensures.vars in
    let pins = c.pins_sizes.ensures.vars in
    let one = c.both-with_memory.ensures.vars in
    let two = c.both-with_guard.ensures.vars in
    let three = c.both-with_pool.ensures.vars in
    let four = c.both-with_pins.ensures.vars in
    let capacity = c.capacity_sizes.ensures.vars ∙ ap (capacity_vars c.args.frame.now.facts.now c.args.frame.now.table.now c.args.frame.now.k c.args.frame.now.scope.now) c.requires.capacity.is in
    let five = c.both.ensures.vars in
    omega arith

pub returns-clause-clauses : goal.returns-clause-clauses
returns-clause-clauses c =
    let is = c.counts_are_found.ensures.clauses c.args.frame.now.facts.now c.args.frame.now.table.now c.args.frame.now.k c.args.frame.now.scope.now in
    let cycles = c.requires.first.cycle_size in
    let memory = c.requires.first.memory_size in
    let guard = c.guard_sizes.ensures.clauses in
    let pool = c.in_ok-pool_sizes.ensures.clauses in
    let pins = c.pins_sizes.ensures.clauses in
    let one = c.both-with_memory.ensures.clauses in
    let two = c.both-with_guard.ensures.clauses in
    let three = c.both-with_pool.ensures.clauses in
    let four = c.both-with_pins.ensures.clauses in
    let capacity = c.capacity_sizes.ensures.clauses ∙ ap (capacity_size c.args.frame.now.facts.now c.args.frame.now.table.now c.args.frame.now.k c.args.frame.now.scope.now) c.requires.capacity.is in
    let five = c.both.ensures.clauses in
    omega arith

pub returns-clause-few : goal.returns-clause-few
returns-clause-few c =
    let cycle_vars = c.requires.first.few_cycle_vars in
    let cycle_clauses = c.requires.first.few_cycle_clauses in
    let memory_vars = c.requires.first.few_memory_vars in
    let memory_clauses = c.requires.first.few_memory_clauses in
    let guard_vars = c.guard_sizes.ensures.few_vars in
    let guard_clauses = c.guard_sizes.ensures.few_clauses in
    let pool_vars = c.in_ok-pool_sizes.ensures.few_vars in
    let pool_clauses = c.in_ok-pool_sizes.ensures.few_clauses in
    let pins_vars = c.pins_sizes.ensures.few_vars in
    let pins_clauses = c.pins_sizes.ensures.few_clauses in
    let one = c.both-with_memory.ensures in
    let two = c.both-with_guard.ensures in
    let three = c.both-with_pool.ensures in
    let four = c.both-with_pins.ensures in
    let slots_vars = c.capacity_sizes.ensures.few_vars in
    let slots_clauses = c.capacity_sizes.ensures.few_clauses in
    let five = c.both.ensures in
    let v1 = one.vars in
    let v2 = two.vars in
    let v3 = three.vars in
    let v4 = four.vars in
    let v5 = five.vars in
    let c1 = one.clauses in
    let c2 = two.clauses in
    let c3 = three.clauses in
    let c4 = four.clauses in
    let c5 = five.clauses in
    (omega arith, omega arith)

pub both-with_memory-requires-clause-vars : goal.both-with_memory-requires-clause-vars
both-with_memory-requires-clause-vars c =
    let a = c.requires.first.few_cycle_vars in
    let b = c.requires.first.few_memory_vars in
    omega arith

pub both-with_memory-requires-clause-clauses : goal.both-with_memory-requires-clause-clauses
both-with_memory-requires-clause-clauses c =
    let a = c.requires.first.few_cycle_clauses in
    let b = c.requires.first.few_memory_clauses in
    omega arith

pub both-with_guard-requires-clause-vars : goal.both-with_guard-requires-clause-vars
both-with_guard-requires-clause-vars c =
    let a = c.requires.first.few_cycle_vars in
    let b = c.requires.first.few_memory_vars in
    let s1 = c.both-with_memory.ensures.vars in
    let p1 = c.guard_sizes.ensures.few_vars in
    omega arith

pub both-with_guard-requires-clause-clauses : goal.both-with_guard-requires-clause-clauses
both-with_guard-requires-clause-clauses c =
    let a = c.requires.first.few_cycle_clauses in
    let b = c.requires.first.few_memory_clauses in
    let s1 = c.both-with_memory.ensures.clauses in
    let p1 = c.guard_sizes.ensures.few_clauses in
    omega arith

pub both-with_pool-requires-clause-vars : goal.both-with_pool-requires-clause-vars
both-with_pool-requires-clause-vars c =
    let a = c.requires.first.few_cycle_vars in
    let b = c.requires.first.few_memory_vars in
    let s1 = c.both-with_memory.ensures.vars in
    let p1 = c.guard_sizes.ensures.few_vars in
    let s2 = c.both-with_guard.ensures.vars in
    let p2 = c.in_ok-pool_sizes.ensures.few_vars in
    omega arith

pub both-with_pool-requires-clause-clauses : goal.both-with_pool-requires-clause-clauses
both-with_pool-requires-clause-clauses c =
    let a = c.requires.first.few_cycle_clauses in
    let b = c.requires.first.few_memory_clauses in
    let s1 = c.both-with_memory.ensures.clauses in
    let p1 = c.guard_sizes.ensures.few_clauses in
    let s2 = c.both-with_guard.ensures.clauses in
    let p2 = c.in_ok-pool_sizes.ensures.few_clauses in
    omega arith

pub both-with_pins-requires-clause-vars : goal.both-with_pins-requires-clause-vars
both-with_pins-requires-clause-vars c =
    let a = c.requires.first.few_cycle_vars in
    let b = c.requires.first.few_memory_vars in
    let s1 = c.both-with_memory.ensures.vars in
    let p1 = c.guard_sizes.ensures.few_vars in
    let s2 = c.both-with_guard.ensures.vars in
    let p2 = c.in_ok-pool_sizes.ensures.few_vars in
    let s3 = c.both-with_pool.ensures.vars in
    let p3 = c.pins_sizes.ensures.few_vars in
    omega arith

pub both-with_pins-requires-clause-clauses : goal.both-with_pins-requires-clause-clauses
both-with_pins-requires-clause-clauses c =
    let a = c.requires.first.few_cycle_clauses in
    let b = c.requires.first.few_memory_clauses in
    let s1 = c.both-with_memory.ensures.clauses in
    let p1 = c.guard_sizes.ensures.few_clauses in
    let s2 = c.both-with_guard.ensures.clauses in
    let p2 = c.in_ok-pool_sizes.ensures.few_clauses in
    let s3 = c.both-with_pool.ensures.clauses in
    let p3 = c.pins_sizes.ensures.few_clauses in
    omega arith

pub both-requires-clause-vars : goal.both-requires-clause-vars
both-requires-clause-vars c =
    let a = c.requires.first.few_cycle_vars in
    let b = c.requires.first.few_memory_vars in
    let s1 = c.both-with_memory.ensures.vars in
    let p1 = c.guard_sizes.ensures.few_vars in
    let s2 = c.both-with_guard.ensures.vars in
    let p2 = c.in_ok-pool_sizes.ensures.few_vars in
    let s3 = c.both-with_pool.ensures.vars in
    let p3 = c.pins_sizes.ensures.few_vars in
    let s4 = c.both-with_pins.ensures.vars in
    let p4 = c.capacity_sizes.ensures.few_vars in
    omega arith

pub both-requires-clause-clauses : goal.both-requires-clause-clauses
both-requires-clause-clauses c =
    let a = c.requires.first.few_cycle_clauses in
    let b = c.requires.first.few_memory_clauses in
    let s1 = c.both-with_memory.ensures.clauses in
    let p1 = c.guard_sizes.ensures.few_clauses in
    let s2 = c.both-with_guard.ensures.clauses in
    let p2 = c.in_ok-pool_sizes.ensures.few_clauses in
    let s3 = c.both-with_pool.ensures.clauses in
    let p3 = c.pins_sizes.ensures.few_clauses in
    let s4 = c.both-with_pins.ensures.clauses in
    let p4 = c.capacity_sizes.ensures.few_clauses in
    omega arith
