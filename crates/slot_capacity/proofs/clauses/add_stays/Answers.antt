use Rattle.std.proofs.Common.{◌≡◌, ◌+◌, ap, arith}
use Rattle.cnf_core.specs.Formula.{Formula}
use Rattle.slot_capacity.proofs.ClauseSteps.{before-more, before-within, stays-room, stays-step}
use Rattle.slot_capacity.proofs.Things.{no_deadline}
use Rattle.slot_capacity.proofs.clauses.add_stays.Goals as goal

pub overflow_add-before : goal.overflow_add-before
overflow_add-before c =
    let within =
    before-within c.args.counted.now c.args.first c.loop-one.one-index no_deadline c.loop-one-test.true
    c.loop-one.before
    c.cycles_of-cycles.result c.loop-one.invariant.here c.cycles_of-cycles.ensures in
    let exist = c.requires.exist in
    let few = c.requires.few in
    omega arith

pub add_class_stays-requires-clause-exist : goal.add_class_stays-requires-clause-exist
add_class_stays-requires-clause-exist c =
    let within =
    before-within c.args.counted.now c.args.first c.loop-one.one-index no_deadline c.loop-one-test.true
    c.loop-one.before
    c.cycles_of-cycles.result c.loop-one.invariant.here c.cycles_of-cycles.ensures in
    let exist = c.requires.exist in
    let same : c.loop-one.cnf.vars ≡ c.args.cnf.now.vars = ap (λ (f : Formula). f.vars) c.loop-one.invariant.is in
    omega arith

pub add_class_stays-requires-clause-room : goal.add_class_stays-requires-clause-room
add_class_stays-requires-clause-room c =
    stays-room c.args.counted.now c.requires.apart c.args.first c.loop-one.one-index no_deadline
    c.loop-one-test.true c.args.cnf.now
    c.loop-one.cnf c.loop-one.before c.cycles_of-cycles.result c.loop-one.invariant.here c.cycles_of-cycles.ensures
    c.loop-one.invariant.is c.requires.room

pub loop-one-preserved : goal.loop-one-preserved
loop-one-preserved c =
    let new = c.loop-one.before + c.cycles_of-cycles.result in
    record {
      is =
          stays-step c.args.counted.now c.requires.apart c.args.first c.loop-one.one-index no_deadline
          c.loop-one-test.true
          c.args.cnf.now c.loop-one.cnf c.loop-one.before c.cycles_of-cycles.result c.loop-one.invariant.here
          c.cycles_of-cycles.ensures c.add_class_stays.new.cnf c.loop-one.invariant.is c.in_ok-add_class_stays.ensures;
      here =
          before-more c.args.counted.now c.args.first c.loop-one.one-index no_deadline c.loop-one-test.true
          c.loop-one.before new
          c.cycles_of-cycles.result c.loop-one.invariant.here c.cycles_of-cycles.ensures
          (let z : new ≡ c.loop-one.before + c.cycles_of-cycles.result = omega arith in z);
    }
