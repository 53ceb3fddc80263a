use Rattle.std.proofs.Common.{◌+◌, [], ◌∷◌, refl, arith, List, subst}
use Rattle.std.specs.Prelude.{length, ◌<◌}
use Rattle.cycle_encoding.specs.Shapes.{numbered, vars_of}
use Rattle.cycle_encoding.specs.Variables.{Seen}
use Rattle.cycle_encoding.specs.Families.{makes}
use Rattle.cycle_encoding.proofs.Adding.{implied_room}
use Rattle.cycle_encoding.proofs.FamilySteps.{seen_step}
use Rattle.cycle_encoding.proofs.families.add_seen.Goals as goal

pub add_thing-requires-clause-room : goal.add_thing-requires-clause-room
add_thing-requires-clause-room c =
    let f = λ (d : Seen). vars_of (makes c.args.vars.now.frame.facts.now c.args.vars.now.frame.table.now d) (numbered 0 c.args.vars.now.launches.now) ∷ [] in
    let lt = subst (λ (xs : List Seen). c.loop-index.index < length xs) c.as_slice-thing-items.ensures.value c.loop-index-test.true in
    let room = implied_room f c.args.vars.now.seen.first c.args.vars.now.seen.seen.items c.loop-index.index (record { class = 0; cluster = 0; cycle = 0 }) c.args.cnf.now c.loop-index.cnf lt c.loop-index.invariant c.requires.room in
    omega arith

pub loop-index-preserved : goal.loop-index-preserved
loop-index-preserved c = seen_step c.args.vars.now.frame.facts.now c.args.vars.now.frame.table.now c.args.vars.now.launches.now c.args.vars.now.seen.first c.as_slice-thing-items.result.now c.args.vars.now.seen.seen.items c.loop-index.index _ c.args.cnf.now c.loop-index.cnf c.add_thing.new.cnf (c.args.vars.now.seen.first + c.loop-index.index + 1) c.as_slice-thing-items.ensures.value c.loop-index-test.true c.loop-index.invariant refl c.in_ok-add_thing.ensures
