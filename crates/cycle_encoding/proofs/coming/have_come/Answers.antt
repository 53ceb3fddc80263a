use Rattle.std.proofs.Common.{◌∙◌, sym}
use Rattle.cycle_encoding.proofs.ComeSteps.{are-more, are-not}
use Rattle.cycle_encoding.proofs.coming.have_come.Goals as goal

pub returns-then-not-has_come : goal.returns-then-not-has_come
returns-then-not-has_come c = are-not c.args.come.now c.args.cycle c.args.classes.now c.loop-class.class-index _ c.loop-class-test.true (sym c.has_come.ensures ∙ c.if-not-has_come.true)

pub loop-class-preserved : goal.loop-class-preserved
loop-class-preserved c = are-more c.args.come.now c.args.cycle c.args.classes.now c.loop-class.class-index _ c.loop-class-test.true c.loop-class.invariant (sym c.has_come.ensures ∙ c.if-not-has_come.false)
