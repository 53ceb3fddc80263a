use Rattle.std.proofs.Common.{◌≡◌, false, rules}
use Rattle.schedule_meaning.specs.Launches.{gives}
use Rattle.schedule_meaning.proofs.Going.{no_other_word}
use Rattle.schedule_meaning.proofs.destinations.can_go_to_pin.Goals as goal

pub returns-then-not-gives : goal.returns-then-not-gives
returns-then-not-gives c =
    let fails : gives c.args.graph.now c.args.set.now.class c.args.launch ≡ false = search rules in
    no_other_word c.args.graph.now c.args.allocation c.args.list.now c.args.launch c.args.set.now c.args.pin fails
