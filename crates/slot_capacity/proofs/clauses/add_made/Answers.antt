use Rattle.std.proofs.Common.{◌+◌, refl, arith}
use Rattle.cycle_encoding.specs.Shapes.{numbered}
use Rattle.cycle_encoding.proofs.Adding.{implied_room, implied_step}
use Rattle.slot_capacity.specs.CapacityClauses.{all_launched, makes_counted}
use Rattle.slot_capacity.proofs.clauses.add_made.Goals as goal

pub add_make-requires-clause-room : goal.add_make-requires-clause-room
add_make-requires-clause-room c =
    let f = makes_counted c.args.facts.now c.args.counted.now
    (numbered c.args.first (all_launched c.args.counted.now)) in
    implied_room f 0 c.args.launches.now c.loop-index.index _ c.args.cnf.now c.loop-index.cnf c.loop-index-test.true
    c.loop-index.invariant c.requires.room

pub loop-index-preserved : goal.loop-index-preserved
loop-index-preserved c =
    let f = makes_counted c.args.facts.now c.args.counted.now
    (numbered c.args.first (all_launched c.args.counted.now)) in
    implied_step f 0 c.args.launches.now c.loop-index.index _ c.args.cnf.now c.loop-index.cnf c.loop-index-test.true
    c.loop-index.invariant (c.loop-index.index + 1) c.add_make.new.cnf _ (omega arith) refl c.in_ok-add_make.ensures
