use Rattle.least_launch.specs.SolvedGoals.{MayLessen}
use Rattle.std.proofs.Common.{subst}
use Rattle.least_launch.proofs.Solved.{none_stays}
use Rattle.least_launch.proofs.solving.with_fewest.Goals as goal

pub lessened-requires-clause-can : goal.lessened-requires-clause-can
lessened-requires-clause-can c = subst (MayLessen c.args.table.now c.args.allocation) c.in-Ok.ensures.ok c.requires.can

pub returns-in-Err : goal.returns-in-Err
returns-in-Err c =
    none_stays c.args.table.now c.args.allocation c.args.conflicts c.args.answered c.in-Err.other c.in-Err.ensures.err.1
    c.in-Err.ensures.err.0
