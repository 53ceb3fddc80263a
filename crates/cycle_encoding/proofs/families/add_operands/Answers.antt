use Rattle.std.proofs.Common.{◌∙◌, ◌+◌, arith}
use Rattle.cycle_encoding.specs.Variables.{all_overwritten}
use Rattle.cycle_encoding.specs.Shapes.{numbered}
use Rattle.cycle_encoding.proofs.Adding.{implied_step, implied_room}
use Rattle.cycle_encoding.proofs.FamilySteps.{clauses_of, sights-are, room_of}
use Rattle.cycle_encoding.proofs.families.add_operands.Goals as goal

pub add_sights-requires-clause-room : goal.add_sights-requires-clause-room
add_sights-requires-clause-room c =
    let g = c.args.vars.now.frame.facts.now in
    let table = c.args.vars.now.frame.table.now in
    let ds = numbered c.args.vars.now.seen.first c.args.vars.now.seen.seen.items in
    let vs = numbered c.args.vars.now.over.first (all_overwritten g c.args.vars.now.over.cycles) in
    let room = implied_room (clauses_of g table ds vs) 0 c.args.vars.now.launches.now c.loop-index.index _ c.args.cnf.now c.loop-index.cnf c.loop-index-test.true c.loop-index.invariant c.requires.room in
    room_of g table ds vs _ c.deref.result.now (c.deref.ensures.value ∙ c.in_ok-needed.ensures) c.loop-index.cnf room

pub loop-index-preserved : goal.loop-index-preserved
loop-index-preserved c =
    let g = c.args.vars.now.frame.facts.now in
    let table = c.args.vars.now.frame.table.now in
    let ds = numbered c.args.vars.now.seen.first c.args.vars.now.seen.seen.items in
    let vs = numbered c.args.vars.now.over.first (all_overwritten g c.args.vars.now.over.cycles) in
    implied_step (clauses_of g table ds vs) 0 c.args.vars.now.launches.now c.loop-index.index _ c.args.cnf.now c.loop-index.cnf c.loop-index-test.true c.loop-index.invariant (c.loop-index.index + 1) c.add_sights.new.cnf _ (omega arith) (sights-are g table ds vs _ c.deref.result.now (c.deref.ensures.value ∙ c.in_ok-needed.ensures)) c.in_ok-add_sights.ensures
