use Rattle.std.proofs.Common.{rules}
use Rattle.axiom_base.proofs.Giving.{no_rest}
use Rattle.axiom_base.proofs.conditions.high_part.Goals as goal

pub returns-in-Some : goal.returns-in-Some
returns-in-Some c = let p = c.in_ok-e.ensures in let h = c.in-Some.ensures in (p.0.0, p.0.1, p.1, (c.in-Some.field-0, search rules, h.1, h.0))

pub returns-in-None : goal.returns-in-None
returns-in-None c = no_rest c.args.c c.in_ok-e.e c.ranges.c.fits c.in_ok-e.ensures c.in-None.ensures
