use Rattle.axiom_base.proofs.Giving.{sum_given}
use Rattle.axiom_base.proofs.conditions.high_displacement_of_sum.Goals as goal

pub returns : goal.returns
returns c = sum_given c.args.c c.in_ok-rest.rest c.high_displacement.result c.ranges.c.fits c.in_ok-rest.ensures c.high_displacement.ensures
