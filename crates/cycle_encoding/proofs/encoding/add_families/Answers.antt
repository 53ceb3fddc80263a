use Rattle.cycle_encoding.specs.Shapes.{numbered}
use Rattle.cycle_encoding.specs.Families.{slot_groups}
use Rattle.cycle_encoding.specs.CycleFormula.{allocation_in, before_counters}
use Rattle.cycle_encoding.proofs.Rows.{counters-size}
use Rattle.cycle_encoding.proofs.Built.{on_ok_more}
use Rattle.cycle_encoding.proofs.Assembled.{targets-room, operands-room, seen-room, slots-vars, slots-room, all-built}
use Rattle.cycle_encoding.proofs.encoding.add_families.Goals as goal

pub add_targets-requires-clause-room : goal.add_targets-requires-clause-room
add_targets-requires-clause-room c = targets-room c.args.vars.now.frame.facts.now c.args.vars.now.frame.table.now (allocation_in c.args.vars.now.frame.scope.now) c.args.vars.now.frame.k c.args.vars.now.launches.now c.args.vars.now.seen.seen.items c.args.vars.now.seen.first c.args.vars.now.over.first c.args.vars.now.over.cycles c.requires.are.first c.requires.are.next c.requires.are.cycles c.args.cnf.now c.requires.empty c.requires.clauses

pub add_operands-requires-clause-room : goal.add_operands-requires-clause-room
add_operands-requires-clause-room c = operands-room c.args.vars.now.frame.facts.now c.args.vars.now.frame.table.now (allocation_in c.args.vars.now.frame.scope.now) c.args.vars.now.frame.k c.args.vars.now.launches.now c.args.vars.now.seen.seen.items c.args.vars.now.seen.first c.args.vars.now.over.first c.args.vars.now.over.cycles c.requires.are.first c.requires.are.next c.requires.are.cycles c.args.cnf.now c.requires.empty c.requires.clauses c.add_targets.new.cnf c.in_ok-add_targets.ensures

pub add_seen-requires-clause-room : goal.add_seen-requires-clause-room
add_seen-requires-clause-room c = seen-room c.args.vars.now.frame.facts.now c.args.vars.now.frame.table.now (allocation_in c.args.vars.now.frame.scope.now) c.args.vars.now.frame.k c.args.vars.now.launches.now c.args.vars.now.seen.seen.items c.args.vars.now.seen.first c.args.vars.now.over.first c.args.vars.now.over.cycles c.requires.are.first c.requires.are.next c.requires.are.cycles c.args.cnf.now c.requires.empty c.requires.clauses c.add_targets.new.cnf c.in_ok-add_targets.ensures c.add_operands.new.cnf c.in_ok-add_operands.ensures

pub add_slots-requires-clause-vars : goal.add_slots-requires-clause-vars
add_slots-requires-clause-vars c = slots-vars c.args.vars.now.frame.facts.now c.args.vars.now.frame.table.now (allocation_in c.args.vars.now.frame.scope.now) c.args.vars.now.frame.k c.args.vars.now.launches.now c.args.vars.now.seen.seen.items c.args.vars.now.seen.first c.args.vars.now.over.first c.args.vars.now.over.cycles c.requires.are.first c.requires.are.next c.requires.are.cycles c.args.cnf.now c.requires.empty c.requires.clauses c.add_targets.new.cnf c.in_ok-add_targets.ensures c.add_operands.new.cnf c.in_ok-add_operands.ensures c.add_seen.new.cnf c.in_ok-add_seen.ensures c.len.result c.len.ensures c.requires.vars

pub add_slots-requires-clause-room : goal.add_slots-requires-clause-room
add_slots-requires-clause-room c = slots-room c.args.vars.now.frame.facts.now c.args.vars.now.frame.table.now (allocation_in c.args.vars.now.frame.scope.now) c.args.vars.now.frame.k c.args.vars.now.launches.now c.args.vars.now.seen.seen.items c.args.vars.now.seen.first c.args.vars.now.over.first c.args.vars.now.over.cycles c.requires.are.first c.requires.are.next c.requires.are.cycles c.args.cnf.now c.requires.empty c.requires.clauses c.add_targets.new.cnf c.in_ok-add_targets.ensures c.add_operands.new.cnf c.in_ok-add_operands.ensures c.add_seen.new.cnf c.in_ok-add_seen.ensures c.len.result c.len.ensures (counters-size 1 c.counters_count.ensures.size (before_counters c.args.vars.now.frame.facts.now c.args.vars.now.frame.table.now c.args.vars.now.frame.k (record { allocation = allocation_in c.args.vars.now.frame.scope.now; launches = c.args.vars.now.launches.now; seen = c.args.vars.now.seen.seen.items })) (slot_groups c.args.vars.now.frame.table.now c.args.vars.now.frame.k (numbered 0 c.args.vars.now.launches.now)))

pub returns : goal.returns
returns c = on_ok_more _ _ c.add_slots.result (λ e. all-built c.args.vars.now.frame.facts.now c.args.vars.now.frame.table.now (allocation_in c.args.vars.now.frame.scope.now) c.args.vars.now.frame.k c.args.vars.now.launches.now c.args.vars.now.seen.seen.items c.args.vars.now.seen.first c.args.vars.now.over.first c.args.vars.now.over.cycles c.requires.are.first c.requires.are.next c.requires.are.cycles c.args.cnf.now c.requires.empty c.requires.clauses c.add_targets.new.cnf c.in_ok-add_targets.ensures c.add_operands.new.cnf c.in_ok-add_operands.ensures c.add_seen.new.cnf c.in_ok-add_seen.ensures c.len.result c.len.ensures c.add_slots.new.cnf e) c.add_slots.ensures
