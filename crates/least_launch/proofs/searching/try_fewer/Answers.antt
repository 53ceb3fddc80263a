use Rattle.std.proofs.Common.{rules, subst}
use Rattle.std.specs.Prelude.{IsPermutation}
use Rattle.cnf_core.specs.Formula.{Formula, Satisfies, assigned}
use Rattle.cnf_core.specs.Outcome.{IsRefuted as IsRefutedFormula, IsSolved, IsSpent as IsSpentFormula}
use Rattle.cycle_encoding.specs.CycleFormula.{allocation_in, listed_in}
use Rattle.cycle_encoding.specs.Plans.{Plan}
use Rattle.cycle_encoding.specs.Shapes.{numbered, shown}
use Rattle.cycle_encoding.specs.Faults.{EncodeFaultIs}
use Rattle.denali_run.specs.Encodings.{encoding_for}
use Rattle.least_launch.specs.FewerLaunches.{fewer_in}
use Rattle.least_launch.specs.Steps.{IsStep}
use Rattle.denali_run.proofs.RisingCycles.{own_scope}
use Rattle.sat_core.specs.Verdicts.{IfRefuted, IfSat, IfSpent}
use Rattle.least_launch.proofs.Searched.{fewer_step, large_step, none_fewer, refuted_step, renamed, spent_step}
use Rattle.least_launch.proofs.searching.try_fewer.Goals as goal

pub returns-in-Err-Size : goal.returns-in-Err-Size
returns-in-Err-Size c =
    let fault = c.in-Err-Size in
    renamed (IsStep c.args.facts.now c.args.table.now (allocation_in c.args.scope.now) c.args.k c.args.conflicts c.args.n)
    _ _ _ _ fault.vars-is fault.clauses-is
    (large_step c.args.facts.now c.args.table.now (allocation_in c.args.scope.now) c.args.k c.args.n c.args.conflicts
    c.args.scope.now c.requires.scope c.requires.cycles fault.vars fault.clauses
    (subst (EncodeFaultIs (fewer_in c.args.scope.now c.args.facts.now c.args.table.now c.args.k c.args.n)) fault.field-0-is
    fault.ensures.size) (search rules) (search rules))

pub returns-in-Sat : goal.returns-in-Sat
returns-in-Sat c =
    let graph = c.args.facts.now in
    let table = c.args.table.now in
    let k = c.args.k in
    let s = c.args.scope.now in
    let a = allocation_in s in
    let own = own_scope (encoding_for a) graph table s c.requires.scope in
    let l = listed_in graph table k c.args.scope.now in
    let solved : IsSolved c.in-Ok.encoded.cnf c.in-Sat.values =
    subst (λ v. IfSat v (IsSolved c.in-Ok.encoded.cnf)) c.in-Sat.is c.in_ok-values.ensures.solved in
    let same : IsPermutation (shown (assigned c.in-Sat.values) (numbered 0 c.in-Ok.encoded.plan.launches))
    c.in_ok-fewer-in-Sat.fewer.launches =
    subst (λ xs. IsPermutation (shown (assigned xs) (numbered 0 c.in-Ok.encoded.plan.launches))
    c.in_ok-fewer-in-Sat.fewer.launches) c.as_slice.ensures c.in_ok-fewer-in-Sat.ensures.same in
    let here : IsPermutation (shown (assigned c.in-Sat.values) (numbered 0 l.launches))
    c.in_ok-fewer-in-Sat.fewer.launches =
    subst (λ (p : Plan). IsPermutation (shown (assigned c.in-Sat.values) (numbered 0 p.launches))
    c.in_ok-fewer-in-Sat.fewer.launches) c.in-Ok.ensures.plan same in
    let shows = c.fewer_clauses_say_fits.ensures.shown s.encoding graph table k c.args.n l (assigned c.in-Sat.values)
    c.requires.table c.requires.graph (own.lists k c.requires.cycles)
    (subst (λ (f : Formula). Satisfies (assigned c.in-Sat.values) f.clauses) c.in-Ok.ensures.formula
    solved.satisfied) in
    fewer_step graph table a k c.args.n _ _ here
    (λ ls ms p fit. c.fits_in_any_order.ensures graph table a k ls ms p fit) shows.0 shows.1

pub returns-in-Refuted : goal.returns-in-Refuted
returns-in-Refuted c =
    let graph = c.args.facts.now in
    let table = c.args.table.now in
    let k = c.args.k in
    let n = c.args.n in
    let s = c.args.scope.now in
    let a = allocation_in s in
    let own = own_scope (encoding_for a) graph table s c.requires.scope in
    let l = listed_in graph table k s in
    let f = c.in-Ok.encoded.cnf in
    let refuted : IsRefutedFormula c.in-Ok.encoded.cnf c.args.conflicts c.in-Refuted.lines.lines =
    subst (λ v. IfRefuted v (IsRefutedFormula c.in-Ok.encoded.cnf c.args.conflicts)) c.in-Refuted.is
    c.in_ok-values.ensures.refuted in
    refuted_step graph table a k n c.args.conflicts s c.requires.scope c.requires.cycles f c.in-Refuted.lines
    c.in-Ok.ensures.formula
    c.in-Ok.ensures.within refuted.few refuted.refutes
    (none_fewer graph table a k n c.args.conflicts s c.requires.scope c.requires.cycles f c.in-Ok.ensures.formula
    (c.refutations_leave_no_solution.ensures f c.in-Refuted.lines.lines refuted.refutes)
    (λ ls fits few.
    let v = c.fewer_clauses_say_fits.ensures.some s.encoding graph table k n l ls c.requires.table c.requires.graph
    (own.lists k c.requires.cycles) c.in-Ok.ensures.over fits few in
    (v.0, v.1)))

pub returns : goal.returns
returns c =
    let spent : IsSpentFormula c.in-Ok.encoded.cnf c.args.conflicts c.in-Spent.lines.lines =
    subst (λ v. IfSpent v (IsSpentFormula c.in-Ok.encoded.cnf c.args.conflicts)) c.in-Spent.is
    c.in_ok-values.ensures.spent in
    spent_step c.args.facts.now c.args.table.now (allocation_in c.args.scope.now) c.args.k c.args.n c.args.conflicts
    c.args.scope.now c.requires.scope c.requires.cycles c.in-Ok.encoded.cnf c.in-Spent.lines
    c.in-Ok.ensures.formula c.in-Ok.ensures.within spent
