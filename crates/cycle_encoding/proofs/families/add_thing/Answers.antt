use Rattle.std.proofs.Common.{◌∙◌}
use Rattle.cycle_encoding.specs.Steps.{given_in}
use Rattle.cycle_encoding.proofs.Tables.{in_table}
use Rattle.cycle_encoding.proofs.families.add_thing.Goals as goal

pub add_sight-requires-clause-given : goal.add_sight-requires-clause-given
add_sight-requires-clause-given c =
    let h = c.in-Some.ensures.lookup in
    c.as_slice.ensures ∙ in_table (λ class. given_in c.args.vars.now.frame.facts.now class c.args.vars.now.launches.now) c.args.makers.now c.args.sight.thing.class _ c.in-Some.given.now c.requires.makers h.0 h.1
