use Rattle.std.proofs.Common.{arith}
use Rattle.std.specs.Prelude.{is_some}
use Rattle.std.specs.List.{range_with_len}
use Rattle.cycle_encoding.specs.Shapes.{numbered, when}
use Rattle.cycle_encoding.specs.Steps.{with_clauses}
use Rattle.cycle_encoding.specs.Variables.{all_overwritten}
use Rattle.order_encoding.specs.PinFamilies.{overwritten_clauses, pin_groups, pin_clauses, late_clauses, load_clauses}
use Rattle.order_encoding.specs.WholeFormula.{formula_with_pins}
use Rattle.order_encoding.proofs.AddSteps.{then_same}
use Rattle.order_encoding.proofs.Extended.{pins-room1, pins-room2, pins-room3, pins-room4, pins-room5, pins-vars1, pins-vars2, pins-vars3, pins-vars4, pins-end}
use Rattle.order_encoding.proofs.pins.extend_by_pins.Goals as goal

pub add_overwritten-requires-clause-room : goal.add_overwritten-requires-clause-room
add_overwritten-requires-clause-room c =
    let g = c.args.plan.now.frame.facts.now in
    let k = c.args.plan.now.frame.k in
    let f = c.args.cnf.now in
    let xs = numbered 0 c.args.plan.now.launches.now in
    let vs = numbered c.args.plan.now.over.now.first (all_overwritten g k) in
    let bs = numbered c.args.branches (when (is_some g.guard) (range_with_len 0 k)) in
    let ws = numbered c.args.stores (range_with_len 0 k) in
    let O = overwritten_clauses g k xs vs in
    let P = pin_clauses g xs in
    let T = late_clauses g xs bs in
    let A = load_clauses g xs ws in
    let G = pin_groups g xs in
    let size = c.counters_count.ensures.size in
    pins-room1 O P T A G f f f f f size c.requires.clauses

pub add_pin_counters-requires-clause-exist : goal.add_pin_counters-requires-clause-exist
add_pin_counters-requires-clause-exist c =
    let g = c.args.plan.now.frame.facts.now in
    let k = c.args.plan.now.frame.k in
    let f = c.args.cnf.now in
    let xs = numbered 0 c.args.plan.now.launches.now in
    let vs = numbered c.args.plan.now.over.now.first (all_overwritten g k) in
    let bs = numbered c.args.branches (when (is_some g.guard) (range_with_len 0 k)) in
    let ws = numbered c.args.stores (range_with_len 0 k) in
    let O = overwritten_clauses g k xs vs in
    let P = pin_clauses g xs in
    let T = late_clauses g xs bs in
    let A = load_clauses g xs ws in
    let G = pin_groups g xs in
    let size = c.counters_count.ensures.size in
    let f1 = c.add_overwritten.new.cnf in
    let e1 = c.in_ok-add_overwritten.ensures in
    let launches = c.requires.launches in
    let exist = c.requires.exist in
    let branches = c.requires.branches in
    let stores = c.requires.stores in
    let limit = c.requires.vars in
    let v = pins-vars1 O P T A G f f1 f1 f1 f1 e1 in
    omega arith

pub add_pin_counters-requires-clause-vars : goal.add_pin_counters-requires-clause-vars
add_pin_counters-requires-clause-vars c =
    let g = c.args.plan.now.frame.facts.now in
    let k = c.args.plan.now.frame.k in
    let f = c.args.cnf.now in
    let xs = numbered 0 c.args.plan.now.launches.now in
    let vs = numbered c.args.plan.now.over.now.first (all_overwritten g k) in
    let bs = numbered c.args.branches (when (is_some g.guard) (range_with_len 0 k)) in
    let ws = numbered c.args.stores (range_with_len 0 k) in
    let O = overwritten_clauses g k xs vs in
    let P = pin_clauses g xs in
    let T = late_clauses g xs bs in
    let A = load_clauses g xs ws in
    let G = pin_groups g xs in
    let size = c.counters_count.ensures.size in
    let f1 = c.add_overwritten.new.cnf in
    let e1 = c.in_ok-add_overwritten.ensures in
    let launches = c.requires.launches in
    let exist = c.requires.exist in
    let branches = c.requires.branches in
    let stores = c.requires.stores in
    let limit = c.requires.vars in
    let v = pins-vars1 O P T A G f f1 f1 f1 f1 e1 in
    omega arith

pub add_pin_counters-requires-clause-room : goal.add_pin_counters-requires-clause-room
add_pin_counters-requires-clause-room c =
    let g = c.args.plan.now.frame.facts.now in
    let k = c.args.plan.now.frame.k in
    let f = c.args.cnf.now in
    let xs = numbered 0 c.args.plan.now.launches.now in
    let vs = numbered c.args.plan.now.over.now.first (all_overwritten g k) in
    let bs = numbered c.args.branches (when (is_some g.guard) (range_with_len 0 k)) in
    let ws = numbered c.args.stores (range_with_len 0 k) in
    let O = overwritten_clauses g k xs vs in
    let P = pin_clauses g xs in
    let T = late_clauses g xs bs in
    let A = load_clauses g xs ws in
    let G = pin_groups g xs in
    let size = c.counters_count.ensures.size in
    let f1 = c.add_overwritten.new.cnf in
    let e1 = c.in_ok-add_overwritten.ensures in
    pins-room2 O P T A G f f1 f1 f1 f1 size c.requires.clauses e1

pub add_reached-requires-clause-exist : goal.add_reached-requires-clause-exist
add_reached-requires-clause-exist c =
    let g = c.args.plan.now.frame.facts.now in
    let k = c.args.plan.now.frame.k in
    let f = c.args.cnf.now in
    let xs = numbered 0 c.args.plan.now.launches.now in
    let vs = numbered c.args.plan.now.over.now.first (all_overwritten g k) in
    let bs = numbered c.args.branches (when (is_some g.guard) (range_with_len 0 k)) in
    let ws = numbered c.args.stores (range_with_len 0 k) in
    let O = overwritten_clauses g k xs vs in
    let P = pin_clauses g xs in
    let T = late_clauses g xs bs in
    let A = load_clauses g xs ws in
    let G = pin_groups g xs in
    let size = c.counters_count.ensures.size in
    let f1 = c.add_overwritten.new.cnf in
    let e1 = c.in_ok-add_overwritten.ensures in
    let f2 = c.add_pin_counters.new.cnf in
    let e2 = c.in_ok-add_pin_counters.ensures in
    let launches = c.requires.launches in
    let exist = c.requires.exist in
    let branches = c.requires.branches in
    let stores = c.requires.stores in
    let limit = c.requires.vars in
    let v = pins-vars2 O P T A G f f1 f2 f2 f2 e1 e2 in
    omega arith

pub add_reached-requires-clause-few : goal.add_reached-requires-clause-few
add_reached-requires-clause-few c =
    let g = c.args.plan.now.frame.facts.now in
    let k = c.args.plan.now.frame.k in
    let f = c.args.cnf.now in
    let xs = numbered 0 c.args.plan.now.launches.now in
    let vs = numbered c.args.plan.now.over.now.first (all_overwritten g k) in
    let bs = numbered c.args.branches (when (is_some g.guard) (range_with_len 0 k)) in
    let ws = numbered c.args.stores (range_with_len 0 k) in
    let O = overwritten_clauses g k xs vs in
    let P = pin_clauses g xs in
    let T = late_clauses g xs bs in
    let A = load_clauses g xs ws in
    let G = pin_groups g xs in
    let size = c.counters_count.ensures.size in
    let f1 = c.add_overwritten.new.cnf in
    let e1 = c.in_ok-add_overwritten.ensures in
    let f2 = c.add_pin_counters.new.cnf in
    let e2 = c.in_ok-add_pin_counters.ensures in
    let launches = c.requires.launches in
    let exist = c.requires.exist in
    let branches = c.requires.branches in
    let stores = c.requires.stores in
    let limit = c.requires.vars in
    let v = pins-vars2 O P T A G f f1 f2 f2 f2 e1 e2 in
    omega arith

pub add_reached-requires-clause-room : goal.add_reached-requires-clause-room
add_reached-requires-clause-room c =
    let g = c.args.plan.now.frame.facts.now in
    let k = c.args.plan.now.frame.k in
    let f = c.args.cnf.now in
    let xs = numbered 0 c.args.plan.now.launches.now in
    let vs = numbered c.args.plan.now.over.now.first (all_overwritten g k) in
    let bs = numbered c.args.branches (when (is_some g.guard) (range_with_len 0 k)) in
    let ws = numbered c.args.stores (range_with_len 0 k) in
    let O = overwritten_clauses g k xs vs in
    let P = pin_clauses g xs in
    let T = late_clauses g xs bs in
    let A = load_clauses g xs ws in
    let G = pin_groups g xs in
    let size = c.counters_count.ensures.size in
    let f1 = c.add_overwritten.new.cnf in
    let e1 = c.in_ok-add_overwritten.ensures in
    let f2 = c.add_pin_counters.new.cnf in
    let e2 = c.in_ok-add_pin_counters.ensures in
    pins-room3 O P T A G f f1 f2 f2 f2 size c.requires.clauses e1 e2

pub add_late_of_guard-requires-clause-exist : goal.add_late_of_guard-requires-clause-exist
add_late_of_guard-requires-clause-exist c =
    let g = c.args.plan.now.frame.facts.now in
    let k = c.args.plan.now.frame.k in
    let f = c.args.cnf.now in
    let xs = numbered 0 c.args.plan.now.launches.now in
    let vs = numbered c.args.plan.now.over.now.first (all_overwritten g k) in
    let bs = numbered c.args.branches (when (is_some g.guard) (range_with_len 0 k)) in
    let ws = numbered c.args.stores (range_with_len 0 k) in
    let O = overwritten_clauses g k xs vs in
    let P = pin_clauses g xs in
    let T = late_clauses g xs bs in
    let A = load_clauses g xs ws in
    let G = pin_groups g xs in
    let size = c.counters_count.ensures.size in
    let f1 = c.add_overwritten.new.cnf in
    let e1 = c.in_ok-add_overwritten.ensures in
    let f2 = c.add_pin_counters.new.cnf in
    let e2 = c.in_ok-add_pin_counters.ensures in
    let f3 = c.add_reached.new.cnf in
    let e3 = c.in_ok-add_reached.ensures in
    let launches = c.requires.launches in
    let exist = c.requires.exist in
    let branches = c.requires.branches in
    let stores = c.requires.stores in
    let limit = c.requires.vars in
    let v = pins-vars3 O P T A G f f1 f2 f3 f3 e1 e2 e3 in
    omega arith

pub add_late_of_guard-requires-clause-few : goal.add_late_of_guard-requires-clause-few
add_late_of_guard-requires-clause-few c =
    let g = c.args.plan.now.frame.facts.now in
    let k = c.args.plan.now.frame.k in
    let f = c.args.cnf.now in
    let xs = numbered 0 c.args.plan.now.launches.now in
    let vs = numbered c.args.plan.now.over.now.first (all_overwritten g k) in
    let bs = numbered c.args.branches (when (is_some g.guard) (range_with_len 0 k)) in
    let ws = numbered c.args.stores (range_with_len 0 k) in
    let O = overwritten_clauses g k xs vs in
    let P = pin_clauses g xs in
    let T = late_clauses g xs bs in
    let A = load_clauses g xs ws in
    let G = pin_groups g xs in
    let size = c.counters_count.ensures.size in
    let f1 = c.add_overwritten.new.cnf in
    let e1 = c.in_ok-add_overwritten.ensures in
    let f2 = c.add_pin_counters.new.cnf in
    let e2 = c.in_ok-add_pin_counters.ensures in
    let f3 = c.add_reached.new.cnf in
    let e3 = c.in_ok-add_reached.ensures in
    let launches = c.requires.launches in
    let exist = c.requires.exist in
    let branches = c.requires.branches in
    let stores = c.requires.stores in
    let limit = c.requires.vars in
    let v = pins-vars3 O P T A G f f1 f2 f3 f3 e1 e2 e3 in
    omega arith

pub add_late_of_guard-requires-clause-room : goal.add_late_of_guard-requires-clause-room
add_late_of_guard-requires-clause-room c =
    let g = c.args.plan.now.frame.facts.now in
    let k = c.args.plan.now.frame.k in
    let f = c.args.cnf.now in
    let xs = numbered 0 c.args.plan.now.launches.now in
    let vs = numbered c.args.plan.now.over.now.first (all_overwritten g k) in
    let bs = numbered c.args.branches (when (is_some g.guard) (range_with_len 0 k)) in
    let ws = numbered c.args.stores (range_with_len 0 k) in
    let O = overwritten_clauses g k xs vs in
    let P = pin_clauses g xs in
    let T = late_clauses g xs bs in
    let A = load_clauses g xs ws in
    let G = pin_groups g xs in
    let size = c.counters_count.ensures.size in
    let f1 = c.add_overwritten.new.cnf in
    let e1 = c.in_ok-add_overwritten.ensures in
    let f2 = c.add_pin_counters.new.cnf in
    let e2 = c.in_ok-add_pin_counters.ensures in
    let f3 = c.add_reached.new.cnf in
    let e3 = c.in_ok-add_reached.ensures in
    pins-room4 O P T A G f f1 f2 f3 f3 size c.requires.clauses e1 e2 e3

pub add_over_loads-requires-clause-exist : goal.add_over_loads-requires-clause-exist
add_over_loads-requires-clause-exist c =
    let g = c.args.plan.now.frame.facts.now in
    let k = c.args.plan.now.frame.k in
    let f = c.args.cnf.now in
    let xs = numbered 0 c.args.plan.now.launches.now in
    let vs = numbered c.args.plan.now.over.now.first (all_overwritten g k) in
    let bs = numbered c.args.branches (when (is_some g.guard) (range_with_len 0 k)) in
    let ws = numbered c.args.stores (range_with_len 0 k) in
    let O = overwritten_clauses g k xs vs in
    let P = pin_clauses g xs in
    let T = late_clauses g xs bs in
    let A = load_clauses g xs ws in
    let G = pin_groups g xs in
    let size = c.counters_count.ensures.size in
    let f1 = c.add_overwritten.new.cnf in
    let e1 = c.in_ok-add_overwritten.ensures in
    let f2 = c.add_pin_counters.new.cnf in
    let e2 = c.in_ok-add_pin_counters.ensures in
    let f3 = c.add_reached.new.cnf in
    let e3 = c.in_ok-add_reached.ensures in
    let f4 = c.add_late_of_guard.new.cnf in
    let e4 = c.in_ok-add_late_of_guard.ensures in
    let launches = c.requires.launches in
    let exist = c.requires.exist in
    let branches = c.requires.branches in
    let stores = c.requires.stores in
    let limit = c.requires.vars in
    let v = pins-vars4 O P T A G f f1 f2 f3 f4 e1 e2 e3 e4 in
    omega arith

pub add_over_loads-requires-clause-few : goal.add_over_loads-requires-clause-few
add_over_loads-requires-clause-few c =
    let g = c.args.plan.now.frame.facts.now in
    let k = c.args.plan.now.frame.k in
    let f = c.args.cnf.now in
    let xs = numbered 0 c.args.plan.now.launches.now in
    let vs = numbered c.args.plan.now.over.now.first (all_overwritten g k) in
    let bs = numbered c.args.branches (when (is_some g.guard) (range_with_len 0 k)) in
    let ws = numbered c.args.stores (range_with_len 0 k) in
    let O = overwritten_clauses g k xs vs in
    let P = pin_clauses g xs in
    let T = late_clauses g xs bs in
    let A = load_clauses g xs ws in
    let G = pin_groups g xs in
    let size = c.counters_count.ensures.size in
    let f1 = c.add_overwritten.new.cnf in
    let e1 = c.in_ok-add_overwritten.ensures in
    let f2 = c.add_pin_counters.new.cnf in
    let e2 = c.in_ok-add_pin_counters.ensures in
    let f3 = c.add_reached.new.cnf in
    let e3 = c.in_ok-add_reached.ensures in
    let f4 = c.add_late_of_guard.new.cnf in
    let e4 = c.in_ok-add_late_of_guard.ensures in
    let launches = c.requires.launches in
    let exist = c.requires.exist in
    let branches = c.requires.branches in
    let stores = c.requires.stores in
    let limit = c.requires.vars in
    let v = pins-vars4 O P T A G f f1 f2 f3 f4 e1 e2 e3 e4 in
    omega arith

pub add_over_loads-requires-clause-room : goal.add_over_loads-requires-clause-room
add_over_loads-requires-clause-room c =
    let g = c.args.plan.now.frame.facts.now in
    let k = c.args.plan.now.frame.k in
    let f = c.args.cnf.now in
    let xs = numbered 0 c.args.plan.now.launches.now in
    let vs = numbered c.args.plan.now.over.now.first (all_overwritten g k) in
    let bs = numbered c.args.branches (when (is_some g.guard) (range_with_len 0 k)) in
    let ws = numbered c.args.stores (range_with_len 0 k) in
    let O = overwritten_clauses g k xs vs in
    let P = pin_clauses g xs in
    let T = late_clauses g xs bs in
    let A = load_clauses g xs ws in
    let G = pin_groups g xs in
    let size = c.counters_count.ensures.size in
    let f1 = c.add_overwritten.new.cnf in
    let e1 = c.in_ok-add_overwritten.ensures in
    let f2 = c.add_pin_counters.new.cnf in
    let e2 = c.in_ok-add_pin_counters.ensures in
    let f3 = c.add_reached.new.cnf in
    let e3 = c.in_ok-add_reached.ensures in
    let f4 = c.add_late_of_guard.new.cnf in
    let e4 = c.in_ok-add_late_of_guard.ensures in
    pins-room5 O P T A G f f1 f2 f3 f4 size c.requires.clauses e1 e2 e3 e4

pub returns : goal.returns
returns c =
    let g = c.args.plan.now.frame.facts.now in
    let k = c.args.plan.now.frame.k in
    let f = c.args.cnf.now in
    let xs = numbered 0 c.args.plan.now.launches.now in
    let vs = numbered c.args.plan.now.over.now.first (all_overwritten g k) in
    let bs = numbered c.args.branches (when (is_some g.guard) (range_with_len 0 k)) in
    let ws = numbered c.args.stores (range_with_len 0 k) in
    let O = overwritten_clauses g k xs vs in
    let P = pin_clauses g xs in
    let T = late_clauses g xs bs in
    let A = load_clauses g xs ws in
    let G = pin_groups g xs in
    let size = c.counters_count.ensures.size in
    let f1 = c.add_overwritten.new.cnf in
    let e1 = c.in_ok-add_overwritten.ensures in
    let f2 = c.add_pin_counters.new.cnf in
    let e2 = c.in_ok-add_pin_counters.ensures in
    let f3 = c.add_reached.new.cnf in
    let e3 = c.in_ok-add_reached.ensures in
    let f4 = c.add_late_of_guard.new.cnf in
    let e4 = c.in_ok-add_late_of_guard.ensures in
    then_same c.add_over_loads.result c.add_over_loads.new.cnf (with_clauses f4 A) (formula_with_pins g k xs f vs bs ws) (pins-end O P T A G f f1 f2 f3 f4 e1 e2 e3 e4) c.add_over_loads.ensures
