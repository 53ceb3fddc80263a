use Rattle.std.proofs.Common.{sym, ◌∙◌}
use Rattle.cycle_encoding.proofs.FamilySteps.{given_step, given_none}
use Rattle.cycle_encoding.proofs.families.giving.Goals as goal

pub loop-index-preserved : goal.loop-index-preserved
loop-index-preserved c = given_step c.args.facts.now c.args.class c.args.launches.now c.loop-index.index _ c.loop-index.given.items c.push_giving.new.given.items c.loop-index-test.true c.loop-index.invariant c.in_ok-push_giving.ensures

pub loop-index-init : goal.loop-index-init
loop-index-init c = c.new-given.ensures.items ∙ sym (given_none c.args.facts.now c.args.class)
