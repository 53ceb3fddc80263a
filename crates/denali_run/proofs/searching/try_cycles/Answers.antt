use Rattle.std.proofs.Common.{subst, sym}
use Rattle.std.specs.Prelude.{IsPermutation}
use Rattle.cnf_core.specs.Formula.{Formula, Satisfies, assigned}
use Rattle.cnf_core.specs.Outcome.{IsSolved, IsRefuted as IsRefutedFormula}
use Rattle.sat_core.specs.Verdicts.{IfSat, IfRefuted}
use Rattle.graph_meaning.specs.WellFormed.{IsLaunchGraph}
use Rattle.graph_meaning.specs.declared.graphs.LaunchGraph.{LaunchGraph}
use Rattle.schedule_meaning.specs.Fits.{Fits}
use Rattle.cycle_encoding.specs.CycleFormula.{allocation_in, listed_in}
use Rattle.cycle_encoding.specs.Plans.{Plan}
use Rattle.cycle_encoding.specs.Shapes.{shown, numbered}
use Rattle.order_encoding.specs.WholeFormula.{formula_in}
use Rattle.denali_run.specs.Right.{IsTooFew}
use Rattle.denali_run.proofs.RisingCycles.{refuted_of}
use Rattle.denali_run.proofs.searching.try_cycles.Goals as goal

-- the formula is that of the graph
pub build_formula-requires-clause-graph : goal.build_formula-requires-clause-graph
build_formula-requires-clause-graph c = subst IsLaunchGraph (sym c.requires.facts) c.requires.graph

pub returns-in-Sat : goal.returns-in-Sat
returns-in-Sat c =
    let graph = c.args.facts.now in
    let table = c.args.table.now in
    let k = c.args.k in
    let a = allocation_in c.args.scope.now in
    let l = listed_in graph table k c.args.scope.now in
    let solved : IsSolved c.in-Ok.encoded.cnf c.in-Sat.values =
    subst (λ v. IfSat v (IsSolved c.in-Ok.encoded.cnf)) c.in-Sat.is c.in_ok-values.ensures.solved in
    let same : IsPermutation (shown (assigned c.in-Sat.values) (numbered 0 c.in-Ok.encoded.plan.launches))
    c.in_ok-schedule-in-Sat.schedule.launches =
    subst (λ xs. IsPermutation (shown (assigned xs) (numbered 0 c.in-Ok.encoded.plan.launches))
    c.in_ok-schedule-in-Sat.schedule.launches) c.as_slice.ensures c.in_ok-schedule-in-Sat.ensures.same in
    let here : IsPermutation (shown (assigned c.in-Sat.values) (numbered 0 l.launches)) c.in_ok-schedule-in-Sat.schedule.launches =
    subst (λ (p : Plan). IsPermutation (shown (assigned c.in-Sat.values) (numbered 0 p.launches))
    c.in_ok-schedule-in-Sat.schedule.launches) c.in-Ok.ensures.plan same in (
      c.in-Ok.ensures.within,
      subst (λ (x : LaunchGraph). Fits x table a k c.in_ok-schedule-in-Sat.schedule.launches) c.requires.facts
          (c.fits_in_any_order.ensures graph table a k _ _ here
          (c.each_encoding_says_fits.ensures.shown c.args.scope.now.encoding graph table k l (assigned c.in-Sat.values) c.requires.table
          (subst IsLaunchGraph (sym c.requires.facts) c.requires.graph)
          (c.requires.scope.lists k c.requires.cycles)
          (subst (λ (f : Formula). Satisfies (assigned c.in-Sat.values) f.clauses) c.in-Ok.ensures.formula solved.satisfied))),
    )

pub returns-in-Refuted : goal.returns-in-Refuted
returns-in-Refuted c =
    let graph = c.args.facts.now in
    let table = c.args.table.now in
    let k = c.args.k in
    let a = allocation_in c.args.scope.now in
    let l = listed_in graph table k c.args.scope.now in
    let refuted : IsRefutedFormula c.in-Ok.encoded.cnf c.args.conflicts c.in-Refuted.lines.lines =
    subst (λ v. IfRefuted v (IsRefutedFormula c.in-Ok.encoded.cnf c.args.conflicts)) c.in-Refuted.is
    c.in_ok-values.ensures.refuted in
    subst (λ (x : LaunchGraph). IsTooFew (formula_in c.args.scope.now graph table) x table a c.args.conflicts k c.in-Refuted.lines.lines)
    c.requires.facts
    (refuted_of (formula_in c.args.scope.now graph table) graph table a c.args.conflicts k c.in-Ok.encoded.cnf
    c.in-Refuted.lines.lines refuted.few c.in-Ok.ensures.formula c.in-Ok.ensures.within refuted.refutes
    (c.refutations_leave_no_solution.ensures c.in-Ok.encoded.cnf c.in-Refuted.lines.lines refuted.refutes)
    (λ ls fit.
    let v = c.each_encoding_says_fits.ensures.some c.args.scope.now.encoding graph table k l ls c.requires.table
    (subst IsLaunchGraph (sym c.requires.facts) c.requires.graph)
    (c.requires.scope.lists k c.requires.cycles) fit in
    (v.3.0, subst (λ (f : Formula). Satisfies v.3.0 f.clauses) (sym c.in-Ok.ensures.formula) v.3.1)))
