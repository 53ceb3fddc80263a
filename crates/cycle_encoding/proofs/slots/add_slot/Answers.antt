use Rattle.std.proofs.Common.{◌∙◌, arith}
use Rattle.cycle_encoding.specs.Shapes.{numbered}
use Rattle.cycle_encoding.proofs.Rows.{one_added, next_vars, next_room, next_exist, next_short}
use Rattle.cycle_encoding.proofs.Sorted.{list_below, list_vars}
use Rattle.cycle_encoding.proofs.slots.add_slot.Goals as goal

pub bounds-as_slice-cycle : goal.bounds-as_slice-cycle
bounds-as_slice-cycle c = list_below c.args.slot c.args.k c.loop-cycle.cycle c.args.launches.now c.in_ok-lists.lists.items c.as_slice.result.now c.in_ok-lists.ensures c.as_slice.ensures.value c.loop-cycle-test.true

pub at_most_one-requires-clause-exist : goal.at_most_one-requires-clause-exist
at_most_one-requires-clause-exist c = next_exist c.args.cnf.now c.loop-cycle.cnf c.args.slot c.loop-cycle.cycle c.args.k c.args.launches.now c.deref.result.now c.loop-cycle.invariant (list_vars c.args.slot c.args.k c.loop-cycle.cycle c.args.launches.now c.in_ok-lists.lists.items c.as_slice.result.now c.in_ok-lists.ensures c.as_slice.ensures.value c.loop-cycle-test.true c.index-as_slice-cycle.result c.as_slice-in-loop-cycle.result.now c.in_ok-lits.lits.items c.deref.result.now c.index-as_slice-cycle.is c.as_slice-in-loop-cycle.ensures c.in_ok-lits.ensures c.deref.ensures.value) c.loop-cycle-test.true c.requires.exist

pub at_most_one-requires-clause-short : goal.at_most_one-requires-clause-short
at_most_one-requires-clause-short c = next_short c.args.cnf.now c.loop-cycle.cnf c.args.slot c.loop-cycle.cycle c.args.k c.args.launches.now c.deref.result.now c.loop-cycle.invariant (list_vars c.args.slot c.args.k c.loop-cycle.cycle c.args.launches.now c.in_ok-lists.lists.items c.as_slice.result.now c.in_ok-lists.ensures c.as_slice.ensures.value c.loop-cycle-test.true c.index-as_slice-cycle.result c.as_slice-in-loop-cycle.result.now c.in_ok-lits.lits.items c.deref.result.now c.index-as_slice-cycle.is c.as_slice-in-loop-cycle.ensures c.in_ok-lits.ensures c.deref.ensures.value) c.loop-cycle-test.true (let a = c.requires.exist in let b = c.requires.vars in omega arith)

pub at_most_one-requires-clause-vars : goal.at_most_one-requires-clause-vars
at_most_one-requires-clause-vars c = next_vars c.args.cnf.now c.loop-cycle.cnf c.args.slot c.loop-cycle.cycle c.args.k c.args.launches.now c.deref.result.now c.loop-cycle.invariant (list_vars c.args.slot c.args.k c.loop-cycle.cycle c.args.launches.now c.in_ok-lists.lists.items c.as_slice.result.now c.in_ok-lists.ensures c.as_slice.ensures.value c.loop-cycle-test.true c.index-as_slice-cycle.result c.as_slice-in-loop-cycle.result.now c.in_ok-lits.lits.items c.deref.result.now c.index-as_slice-cycle.is c.as_slice-in-loop-cycle.ensures c.in_ok-lits.ensures c.deref.ensures.value) c.loop-cycle-test.true c.requires.vars

pub at_most_one-requires-clause-room : goal.at_most_one-requires-clause-room
at_most_one-requires-clause-room c = next_room c.args.cnf.now c.loop-cycle.cnf c.args.slot c.loop-cycle.cycle c.args.k c.args.launches.now c.deref.result.now c.loop-cycle.invariant (list_vars c.args.slot c.args.k c.loop-cycle.cycle c.args.launches.now c.in_ok-lists.lists.items c.as_slice.result.now c.in_ok-lists.ensures c.as_slice.ensures.value c.loop-cycle-test.true c.index-as_slice-cycle.result c.as_slice-in-loop-cycle.result.now c.in_ok-lits.lits.items c.deref.result.now c.index-as_slice-cycle.is c.as_slice-in-loop-cycle.ensures c.in_ok-lits.ensures c.deref.ensures.value) c.loop-cycle-test.true c.counters_count.ensures.size c.requires.room

pub loop-cycle-preserved : goal.loop-cycle-preserved
loop-cycle-preserved c = c.in_ok-at_most_one.ensures.exact ∙ one_added c.args.cnf.now c.loop-cycle.cnf c.deref.result.now c.args.slot c.loop-cycle.cycle (numbered 0 c.args.launches.now) c.loop-cycle.invariant (list_vars c.args.slot c.args.k c.loop-cycle.cycle c.args.launches.now c.in_ok-lists.lists.items c.as_slice.result.now c.in_ok-lists.ensures c.as_slice.ensures.value c.loop-cycle-test.true c.index-as_slice-cycle.result c.as_slice-in-loop-cycle.result.now c.in_ok-lits.lits.items c.deref.result.now c.index-as_slice-cycle.is c.as_slice-in-loop-cycle.ensures c.in_ok-lits.ensures c.deref.ensures.value)
