use Rattle.std.proofs.Common.{◌∙◌}
use Rattle.cycle_encoding.proofs.Adding.{then_added}
use Rattle.cycle_encoding.proofs.FamilySteps.{clause-is, clause-exists}
use Rattle.cycle_encoding.proofs.families.add_sight.Goals as goal

pub add-requires-clause-exist : goal.add-requires-clause-exist
add-requires-clause-exist c = clause-exists c.args.vars.now.frame.facts.now c.args.vars.now.frame.table.now c.args.sight.thing c.args.vars.now.launches.now c.args.given.now c.requires.given c.args.cnf.now.vars c.args.sight.var c.deref.result.now (c.deref.ensures.value ∙ c.in_ok-clause.ensures) c.requires.var c.requires.exist

pub returns : goal.returns
returns c =
    let is = clause-is c.args.vars.now.frame.facts.now c.args.vars.now.frame.table.now c.args.sight.thing c.args.vars.now.launches.now c.args.given.now c.requires.given c.args.sight.var c.deref.result.now (c.deref.ensures.value ∙ c.in_ok-clause.ensures) in
    then_added c.add.result c.args.cnf.now c.add.new.self c.deref.result.now _ c.add.ensures.ok is
