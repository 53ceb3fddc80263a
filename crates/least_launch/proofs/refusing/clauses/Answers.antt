use Rattle.std.proofs.Common.{subst, sym}
use Rattle.cnf_core.specs.Formula.{Formula, Satisfies}
use Rattle.cycle_encoding.specs.CycleFormula.{listed_in}
use Rattle.least_launch.proofs.refusing.clauses.Goals as goal

pub returns-in-Ok-clause-each : goal.returns-in-Ok-clause-each
returns-in-Ok-clause-each c = λ ls fits few.
    let g = c.args.facts.now in
    let table = c.args.table.now in
    let k = c.args.k in
    let s = c.args.scope.now in
    let v = c.fewer_clauses_say_fits.ensures.some s.encoding g table k c.args.n (listed_in g table k s) ls
    c.requires.table c.requires.graph (c.requires.scope.lists k c.requires.cycles) c.in-Ok.ensures.over fits few in
    (v.0, subst (λ (f : Formula). Satisfies v.0 f.clauses) (sym c.in-Ok.ensures.formula) v.1)
