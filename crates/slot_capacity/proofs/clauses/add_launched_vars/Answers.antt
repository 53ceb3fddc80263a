use Rattle.slot_capacity.proofs.ClauseSteps.{vars-more, vars-room}
use Rattle.slot_capacity.proofs.Things.{no_deadline}
use Rattle.slot_capacity.proofs.clauses.add_launched_vars.Goals as goal

pub add_vars-requires : goal.add_vars-requires
add_vars-requires c =
    vars-room c.args.counted.now c.loop-one.one-index no_deadline c.loop-one-test.true c.args.cnf.now c.loop-one.cnf
    c.cycles_of.result c.loop-one.invariant c.cycles_of.ensures c.requires.few

pub loop-one-preserved : goal.loop-one-preserved
loop-one-preserved c =
    vars-more c.args.counted.now c.loop-one.one-index no_deadline c.loop-one-test.true c.args.cnf.now c.loop-one.cnf
    c.cycles_of.result c.loop-one.invariant c.cycles_of.ensures c.add_vars.new.cnf c.add_vars.ensures
