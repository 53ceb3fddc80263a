use Rattle.std.proofs.Common.{◌≡◌, ◌+◌, ap, arith}
use Rattle.cnf_core.specs.Formula.{Formula}
use Rattle.slot_capacity.proofs.ClauseSteps.{before-more, before-within, ends-exist, ends-room, ends-step}
use Rattle.slot_capacity.proofs.Things.{no_deadline}
use Rattle.slot_capacity.proofs.clauses.add_ends.Goals as goal

pub overflow_add-before : goal.overflow_add-before
overflow_add-before c =
    let within =
    before-within c.args.counted.now c.args.first c.loop-one.one-index no_deadline c.loop-one-test.true
    c.loop-one.before
    c.cycles_of-before.result c.loop-one.invariant.here c.cycles_of-before.ensures in
    let exist = c.requires.exist in
    let few = c.requires.few in
    omega arith

pub add-requires-clause-exist : goal.add-requires-clause-exist
add-requires-clause-exist c =
    let same : c.loop-one.cnf.vars ≡ c.args.cnf.now.vars = ap (λ (f : Formula). f.vars) c.loop-one.invariant.is in
    let exist = c.requires.exist in
    ends-exist c.args.counted.now c.requires.apart c.args.first c.loop-one.one-index no_deadline c.loop-one-test.true
    c.args.cnf.now c.loop-one.cnf c.loop-one.before c.cycles_of-before.result c.loop-one.invariant.here
    c.cycles_of-before.ensures c.loop-one.cnf.vars (omega arith)

pub add-requires-clause-room : goal.add-requires-clause-room
add-requires-clause-room c =
    ends-room c.args.counted.now c.requires.apart c.args.first c.loop-one.one-index no_deadline c.loop-one-test.true
    c.args.cnf.now
    c.loop-one.cnf c.loop-one.before c.cycles_of-before.result c.loop-one.invariant.here c.cycles_of-before.ensures
    c.loop-one.invariant.is c.requires.room

pub loop-one-preserved : goal.loop-one-preserved
loop-one-preserved c =
    let new = c.loop-one.before + c.cycles_of-before.result in
    record {
      is =
          ends-step c.args.counted.now c.requires.apart c.args.first c.loop-one.one-index no_deadline
          c.loop-one-test.true
          c.args.cnf.now c.loop-one.cnf c.loop-one.before c.cycles_of-before.result c.loop-one.invariant.here
          c.cycles_of-before.ensures
          c.add.new.self new (let z : new ≡ c.loop-one.before + c.cycles_of-before.result = omega arith in z)
          c.loop-one.invariant.is c.in_ok-add.ensures.ok;
      here =
          before-more c.args.counted.now c.args.first c.loop-one.one-index no_deadline c.loop-one-test.true
          c.loop-one.before new
          c.cycles_of-before.result c.loop-one.invariant.here c.cycles_of-before.ensures
          (let z : new ≡ c.loop-one.before + c.cycles_of-before.result = omega arith in z);
    }
