use Rattle.std.proofs.Common.{◌∙◌, ◌+◌, ◌≤◌, refl, sym, ap, subst, arith}
use Rattle.std.specs.Prelude.{length}
use Rattle.std.specs.List.{range_with_len}
use Rattle.cycle_encoding.specs.Limits.{most_vars, most_clauses}
use Rattle.cnf_core.specs.Formula.{Formula}
use Rattle.cycle_encoding.specs.Shapes.{numbered}
use Rattle.cycle_encoding.specs.Steps.{with_clauses}
use Rattle.order_encoding.specs.OrderVariables.{all_held}
use Rattle.order_encoding.specs.OrderFamilies.{entry_clauses, memory_clauses, kept_clauses, held_groups, store_groups, last_memory_clauses}
use Rattle.order_encoding.specs.WholeFormula.{with_memory}
use Rattle.order_encoding.proofs.AddSteps.{then_same}
use Rattle.order_encoding.proofs.Extended.{room1, room2, room3, room4, room5, room6, vars4, limit4, limit5, memory-ends, memory-by-numbers}
use Rattle.order_encoding.proofs.memory.extend_by_memory.Goals as goal

pub add_entry-requires-clause-room : goal.add_entry-requires-clause-room
add_entry-requires-clause-room c =
    let g = c.args.plan.now.frame.facts.now in
    let k = c.args.plan.now.frame.k in
    let f = c.args.cnf.now in
    let xs = numbered 0 c.args.plan.now.launches.now in
    let held = c.in_ok-held.held in
    let j = held.cycles in
    let b = c.add_memory_vars-before_stores.result in
    let m = numbered held.first (all_held g j) in
    let w = numbered b (range_with_len 0 j) in
    let n = f.vars + length (all_held g j) + j in
    let E = entry_clauses g m in
    let M = memory_clauses g xs m w in
    let K = kept_clauses g j xs m w in
    let L = last_memory_clauses g j m in
    let G1 = held_groups j m in
    let G2 = store_groups g k xs in
    let f1 = c.add_memory_vars-before_stores.new.cnf in
    let is = memory-by-numbers g xs f k j held.first b n c.in_ok-held.ensures.cycles (c.in_ok-held.ensures.first ∙ c.vars.ensures.value) c.add_memory_vars-before_stores.ensures.value refl in
    let few = subst (λ (h : Formula). length h.clauses ≤ most_clauses) (sym is) c.requires.clauses in
    let limit = subst (λ (h : Formula). h.vars ≤ most_vars) (sym is) c.requires.vars in
    let e1 = c.add_memory_vars-before_stores.ensures.vars in
    let size = c.counters_count.ensures.size in
    room1 E M K L G1 G2 n f f1 f1 f1 f1 f1 f1 e1 size few

pub add_uses-requires-clause-room : goal.add_uses-requires-clause-room
add_uses-requires-clause-room c =
    let g = c.args.plan.now.frame.facts.now in
    let k = c.args.plan.now.frame.k in
    let f = c.args.cnf.now in
    let xs = numbered 0 c.args.plan.now.launches.now in
    let held = c.in_ok-held.held in
    let j = held.cycles in
    let b = c.add_memory_vars-before_stores.result in
    let m = numbered held.first (all_held g j) in
    let w = numbered b (range_with_len 0 j) in
    let n = f.vars + length (all_held g j) + j in
    let E = entry_clauses g m in
    let M = memory_clauses g xs m w in
    let K = kept_clauses g j xs m w in
    let L = last_memory_clauses g j m in
    let G1 = held_groups j m in
    let G2 = store_groups g k xs in
    let f1 = c.add_memory_vars-before_stores.new.cnf in
    let is = memory-by-numbers g xs f k j held.first b n c.in_ok-held.ensures.cycles (c.in_ok-held.ensures.first ∙ c.vars.ensures.value) c.add_memory_vars-before_stores.ensures.value refl in
    let few = subst (λ (h : Formula). length h.clauses ≤ most_clauses) (sym is) c.requires.clauses in
    let limit = subst (λ (h : Formula). h.vars ≤ most_vars) (sym is) c.requires.vars in
    let e1 = c.add_memory_vars-before_stores.ensures.vars in
    let size = c.counters_count.ensures.size in
    let f2 = c.add_entry.new.cnf in
    let e2 = c.in_ok-add_entry.ensures in
    room2 E M K L G1 G2 n f f1 f2 f2 f2 f2 f2 e1 size few e2

pub add_kept-requires-clause-room : goal.add_kept-requires-clause-room
add_kept-requires-clause-room c =
    let g = c.args.plan.now.frame.facts.now in
    let k = c.args.plan.now.frame.k in
    let f = c.args.cnf.now in
    let xs = numbered 0 c.args.plan.now.launches.now in
    let held = c.in_ok-held.held in
    let j = held.cycles in
    let b = c.add_memory_vars-before_stores.result in
    let m = numbered held.first (all_held g j) in
    let w = numbered b (range_with_len 0 j) in
    let n = f.vars + length (all_held g j) + j in
    let E = entry_clauses g m in
    let M = memory_clauses g xs m w in
    let K = kept_clauses g j xs m w in
    let L = last_memory_clauses g j m in
    let G1 = held_groups j m in
    let G2 = store_groups g k xs in
    let f1 = c.add_memory_vars-before_stores.new.cnf in
    let is = memory-by-numbers g xs f k j held.first b n c.in_ok-held.ensures.cycles (c.in_ok-held.ensures.first ∙ c.vars.ensures.value) c.add_memory_vars-before_stores.ensures.value refl in
    let few = subst (λ (h : Formula). length h.clauses ≤ most_clauses) (sym is) c.requires.clauses in
    let limit = subst (λ (h : Formula). h.vars ≤ most_vars) (sym is) c.requires.vars in
    let e1 = c.add_memory_vars-before_stores.ensures.vars in
    let size = c.counters_count.ensures.size in
    let f2 = c.add_entry.new.cnf in
    let e2 = c.in_ok-add_entry.ensures in
    let f3 = c.add_uses.new.cnf in
    let e3 = c.in_ok-add_uses.ensures in
    room3 E M K L G1 G2 n f f1 f2 f3 f3 f3 f3 e1 size few e2 e3

pub add_held_counters-requires-clause-vars : goal.add_held_counters-requires-clause-vars
add_held_counters-requires-clause-vars c =
    let g = c.args.plan.now.frame.facts.now in
    let k = c.args.plan.now.frame.k in
    let f = c.args.cnf.now in
    let xs = numbered 0 c.args.plan.now.launches.now in
    let held = c.in_ok-held.held in
    let j = held.cycles in
    let b = c.add_memory_vars-before_stores.result in
    let m = numbered held.first (all_held g j) in
    let w = numbered b (range_with_len 0 j) in
    let n = f.vars + length (all_held g j) + j in
    let E = entry_clauses g m in
    let M = memory_clauses g xs m w in
    let K = kept_clauses g j xs m w in
    let L = last_memory_clauses g j m in
    let G1 = held_groups j m in
    let G2 = store_groups g k xs in
    let f1 = c.add_memory_vars-before_stores.new.cnf in
    let is = memory-by-numbers g xs f k j held.first b n c.in_ok-held.ensures.cycles (c.in_ok-held.ensures.first ∙ c.vars.ensures.value) c.add_memory_vars-before_stores.ensures.value refl in
    let few = subst (λ (h : Formula). length h.clauses ≤ most_clauses) (sym is) c.requires.clauses in
    let limit = subst (λ (h : Formula). h.vars ≤ most_vars) (sym is) c.requires.vars in
    let e1 = c.add_memory_vars-before_stores.ensures.vars in
    let size = c.counters_count.ensures.size in
    let f2 = c.add_entry.new.cnf in
    let e2 = c.in_ok-add_entry.ensures in
    let f3 = c.add_uses.new.cnf in
    let e3 = c.in_ok-add_uses.ensures in
    let f4 = c.add_kept.new.cnf in
    let e4 = c.in_ok-add_kept.ensures in
    let v = vars4 E M K L G1 G2 n f f1 f2 f3 f4 f4 f4 e1 e2 e3 e4 in
    limit4 E M K L G1 G2 n f f1 f2 f3 f4 f4 f4 e1 f4.vars v limit

pub add_held_counters-requires-clause-room : goal.add_held_counters-requires-clause-room
add_held_counters-requires-clause-room c =
    let g = c.args.plan.now.frame.facts.now in
    let k = c.args.plan.now.frame.k in
    let f = c.args.cnf.now in
    let xs = numbered 0 c.args.plan.now.launches.now in
    let held = c.in_ok-held.held in
    let j = held.cycles in
    let b = c.add_memory_vars-before_stores.result in
    let m = numbered held.first (all_held g j) in
    let w = numbered b (range_with_len 0 j) in
    let n = f.vars + length (all_held g j) + j in
    let E = entry_clauses g m in
    let M = memory_clauses g xs m w in
    let K = kept_clauses g j xs m w in
    let L = last_memory_clauses g j m in
    let G1 = held_groups j m in
    let G2 = store_groups g k xs in
    let f1 = c.add_memory_vars-before_stores.new.cnf in
    let is = memory-by-numbers g xs f k j held.first b n c.in_ok-held.ensures.cycles (c.in_ok-held.ensures.first ∙ c.vars.ensures.value) c.add_memory_vars-before_stores.ensures.value refl in
    let few = subst (λ (h : Formula). length h.clauses ≤ most_clauses) (sym is) c.requires.clauses in
    let limit = subst (λ (h : Formula). h.vars ≤ most_vars) (sym is) c.requires.vars in
    let e1 = c.add_memory_vars-before_stores.ensures.vars in
    let size = c.counters_count.ensures.size in
    let f2 = c.add_entry.new.cnf in
    let e2 = c.in_ok-add_entry.ensures in
    let f3 = c.add_uses.new.cnf in
    let e3 = c.in_ok-add_uses.ensures in
    let f4 = c.add_kept.new.cnf in
    let e4 = c.in_ok-add_kept.ensures in
    room4 E M K L G1 G2 n f f1 f2 f3 f4 f4 f4 e1 size few e2 e3 e4

pub add_store_counters-requires-clause-vars : goal.add_store_counters-requires-clause-vars
add_store_counters-requires-clause-vars c =
    let g = c.args.plan.now.frame.facts.now in
    let k = c.args.plan.now.frame.k in
    let f = c.args.cnf.now in
    let xs = numbered 0 c.args.plan.now.launches.now in
    let held = c.in_ok-held.held in
    let j = held.cycles in
    let b = c.add_memory_vars-before_stores.result in
    let m = numbered held.first (all_held g j) in
    let w = numbered b (range_with_len 0 j) in
    let n = f.vars + length (all_held g j) + j in
    let E = entry_clauses g m in
    let M = memory_clauses g xs m w in
    let K = kept_clauses g j xs m w in
    let L = last_memory_clauses g j m in
    let G1 = held_groups j m in
    let G2 = store_groups g k xs in
    let f1 = c.add_memory_vars-before_stores.new.cnf in
    let is = memory-by-numbers g xs f k j held.first b n c.in_ok-held.ensures.cycles (c.in_ok-held.ensures.first ∙ c.vars.ensures.value) c.add_memory_vars-before_stores.ensures.value refl in
    let few = subst (λ (h : Formula). length h.clauses ≤ most_clauses) (sym is) c.requires.clauses in
    let limit = subst (λ (h : Formula). h.vars ≤ most_vars) (sym is) c.requires.vars in
    let e1 = c.add_memory_vars-before_stores.ensures.vars in
    let size = c.counters_count.ensures.size in
    let f2 = c.add_entry.new.cnf in
    let e2 = c.in_ok-add_entry.ensures in
    let f3 = c.add_uses.new.cnf in
    let e3 = c.in_ok-add_uses.ensures in
    let f4 = c.add_kept.new.cnf in
    let e4 = c.in_ok-add_kept.ensures in
    let f5 = c.add_held_counters.new.cnf in
    let e5 = c.in_ok-add_held_counters.ensures in
    let v = vars4 E M K L G1 G2 n f f1 f2 f3 f4 f5 f5 e1 e2 e3 e4 in
    limit5 E M K L G1 G2 n f f1 f2 f3 f4 f5 f5 e1 n refl v e5 limit

pub add_store_counters-requires-clause-room : goal.add_store_counters-requires-clause-room
add_store_counters-requires-clause-room c =
    let g = c.args.plan.now.frame.facts.now in
    let k = c.args.plan.now.frame.k in
    let f = c.args.cnf.now in
    let xs = numbered 0 c.args.plan.now.launches.now in
    let held = c.in_ok-held.held in
    let j = held.cycles in
    let b = c.add_memory_vars-before_stores.result in
    let m = numbered held.first (all_held g j) in
    let w = numbered b (range_with_len 0 j) in
    let n = f.vars + length (all_held g j) + j in
    let E = entry_clauses g m in
    let M = memory_clauses g xs m w in
    let K = kept_clauses g j xs m w in
    let L = last_memory_clauses g j m in
    let G1 = held_groups j m in
    let G2 = store_groups g k xs in
    let f1 = c.add_memory_vars-before_stores.new.cnf in
    let is = memory-by-numbers g xs f k j held.first b n c.in_ok-held.ensures.cycles (c.in_ok-held.ensures.first ∙ c.vars.ensures.value) c.add_memory_vars-before_stores.ensures.value refl in
    let few = subst (λ (h : Formula). length h.clauses ≤ most_clauses) (sym is) c.requires.clauses in
    let limit = subst (λ (h : Formula). h.vars ≤ most_vars) (sym is) c.requires.vars in
    let e1 = c.add_memory_vars-before_stores.ensures.vars in
    let size = c.counters_count.ensures.size in
    let f2 = c.add_entry.new.cnf in
    let e2 = c.in_ok-add_entry.ensures in
    let f3 = c.add_uses.new.cnf in
    let e3 = c.in_ok-add_uses.ensures in
    let f4 = c.add_kept.new.cnf in
    let e4 = c.in_ok-add_kept.ensures in
    let f5 = c.add_held_counters.new.cnf in
    let e5 = c.in_ok-add_held_counters.ensures in
    room5 E M K L G1 G2 n f f1 f2 f3 f4 f5 f5 e1 size few e2 e3 e4 e5

pub add_last-requires-clause-few : goal.add_last-requires-clause-few
add_last-requires-clause-few c =
    let g = c.args.plan.now.frame.facts.now in
    let k = c.args.plan.now.frame.k in
    let f = c.args.cnf.now in
    let xs = numbered 0 c.args.plan.now.launches.now in
    let held = c.in_ok-held.held in
    let j = held.cycles in
    let b = c.add_memory_vars-before_stores.result in
    let m = numbered held.first (all_held g j) in
    let w = numbered b (range_with_len 0 j) in
    let n = f.vars + length (all_held g j) + j in
    let E = entry_clauses g m in
    let M = memory_clauses g xs m w in
    let K = kept_clauses g j xs m w in
    let L = last_memory_clauses g j m in
    let G1 = held_groups j m in
    let G2 = store_groups g k xs in
    let f1 = c.add_memory_vars-before_stores.new.cnf in
    let is = memory-by-numbers g xs f k j held.first b n c.in_ok-held.ensures.cycles (c.in_ok-held.ensures.first ∙ c.vars.ensures.value) c.add_memory_vars-before_stores.ensures.value refl in
    let few = subst (λ (h : Formula). length h.clauses ≤ most_clauses) (sym is) c.requires.clauses in
    let limit = subst (λ (h : Formula). h.vars ≤ most_vars) (sym is) c.requires.vars in
    let e1 = c.add_memory_vars-before_stores.ensures.vars in
    let size = c.counters_count.ensures.size in
    let f2 = c.add_entry.new.cnf in
    let e2 = c.in_ok-add_entry.ensures in
    let f3 = c.add_uses.new.cnf in
    let e3 = c.in_ok-add_uses.ensures in
    let f4 = c.add_kept.new.cnf in
    let e4 = c.in_ok-add_kept.ensures in
    let f5 = c.add_held_counters.new.cnf in
    let e5 = c.in_ok-add_held_counters.ensures in
    let f6 = c.add_store_counters.new.cnf in
    let e6 = c.in_ok-add_store_counters.ensures in
    let v = vars4 E M K L G1 G2 n f f1 f2 f3 f4 f5 f6 e1 e2 e3 e4 in
    let l = limit5 E M K L G1 G2 n f f1 f2 f3 f4 f5 f6 e1 n refl v e5 limit in
    let a = ap (λ (h : Formula). h.vars) e6 in
    omega arith

pub add_last-requires-clause-room : goal.add_last-requires-clause-room
add_last-requires-clause-room c =
    let g = c.args.plan.now.frame.facts.now in
    let k = c.args.plan.now.frame.k in
    let f = c.args.cnf.now in
    let xs = numbered 0 c.args.plan.now.launches.now in
    let held = c.in_ok-held.held in
    let j = held.cycles in
    let b = c.add_memory_vars-before_stores.result in
    let m = numbered held.first (all_held g j) in
    let w = numbered b (range_with_len 0 j) in
    let n = f.vars + length (all_held g j) + j in
    let E = entry_clauses g m in
    let M = memory_clauses g xs m w in
    let K = kept_clauses g j xs m w in
    let L = last_memory_clauses g j m in
    let G1 = held_groups j m in
    let G2 = store_groups g k xs in
    let f1 = c.add_memory_vars-before_stores.new.cnf in
    let is = memory-by-numbers g xs f k j held.first b n c.in_ok-held.ensures.cycles (c.in_ok-held.ensures.first ∙ c.vars.ensures.value) c.add_memory_vars-before_stores.ensures.value refl in
    let few = subst (λ (h : Formula). length h.clauses ≤ most_clauses) (sym is) c.requires.clauses in
    let limit = subst (λ (h : Formula). h.vars ≤ most_vars) (sym is) c.requires.vars in
    let e1 = c.add_memory_vars-before_stores.ensures.vars in
    let size = c.counters_count.ensures.size in
    let f2 = c.add_entry.new.cnf in
    let e2 = c.in_ok-add_entry.ensures in
    let f3 = c.add_uses.new.cnf in
    let e3 = c.in_ok-add_uses.ensures in
    let f4 = c.add_kept.new.cnf in
    let e4 = c.in_ok-add_kept.ensures in
    let f5 = c.add_held_counters.new.cnf in
    let e5 = c.in_ok-add_held_counters.ensures in
    let f6 = c.add_store_counters.new.cnf in
    let e6 = c.in_ok-add_store_counters.ensures in
    let room = room6 E M K L G1 G2 n f f1 f2 f3 f4 f5 f6 e1 size few e2 e3 e4 e5 e6 in
    omega arith

pub returns : goal.returns
returns c =
    let g = c.args.plan.now.frame.facts.now in
    let k = c.args.plan.now.frame.k in
    let f = c.args.cnf.now in
    let xs = numbered 0 c.args.plan.now.launches.now in
    let held = c.in_ok-held.held in
    let j = held.cycles in
    let b = c.add_memory_vars-before_stores.result in
    let m = numbered held.first (all_held g j) in
    let w = numbered b (range_with_len 0 j) in
    let n = f.vars + length (all_held g j) + j in
    let E = entry_clauses g m in
    let M = memory_clauses g xs m w in
    let K = kept_clauses g j xs m w in
    let L = last_memory_clauses g j m in
    let G1 = held_groups j m in
    let G2 = store_groups g k xs in
    let f1 = c.add_memory_vars-before_stores.new.cnf in
    let is = memory-by-numbers g xs f k j held.first b n c.in_ok-held.ensures.cycles (c.in_ok-held.ensures.first ∙ c.vars.ensures.value) c.add_memory_vars-before_stores.ensures.value refl in
    let few = subst (λ (h : Formula). length h.clauses ≤ most_clauses) (sym is) c.requires.clauses in
    let limit = subst (λ (h : Formula). h.vars ≤ most_vars) (sym is) c.requires.vars in
    let e1 = c.add_memory_vars-before_stores.ensures.vars in
    let size = c.counters_count.ensures.size in
    let f2 = c.add_entry.new.cnf in
    let e2 = c.in_ok-add_entry.ensures in
    let f3 = c.add_uses.new.cnf in
    let e3 = c.in_ok-add_uses.ensures in
    let f4 = c.add_kept.new.cnf in
    let e4 = c.in_ok-add_kept.ensures in
    let f5 = c.add_held_counters.new.cnf in
    let e5 = c.in_ok-add_held_counters.ensures in
    let f6 = c.add_store_counters.new.cnf in
    let e6 = c.in_ok-add_store_counters.ensures in
    then_same c.add_last.result c.add_last.new.cnf (with_clauses f6 L) (with_memory g k xs f) (memory-ends E M K L G1 G2 n f f1 f2 f3 f4 f5 f6 e1 e2 e3 e4 e5 e6 ∙ is) c.add_last.ensures
