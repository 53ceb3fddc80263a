use Rattle.std.proofs.Common.{arith, subst}
use Rattle.order_encoding.specs.WholeFormula.{formula_in}
use Rattle.schedule_meaning.specs.declared.schedules.Allocation.{Allocation}
use Rattle.denali_run.specs.Trials.{IsTrial}
use Rattle.denali_run.proofs.RisingCycles.{least_at_first, least_after, own_allocation, own_scope}
use Rattle.denali_run.specs.Encodings.{encoding_in}
use Rattle.denali_run.proofs.searching.reach_in.Goals as goal

pub loop-below-init : goal.loop-below-init
loop-below-init c = (
  omega arith,
  least_at_first (formula_in c.args.scope.now c.args.facts.now c.args.table.now) c.args.graph.now c.args.table.now
      c.args.settings.now.allocation c.args.settings.now.conflicts,
)

pub try_cycles-requires-clause-scope : goal.try_cycles-requires-clause-scope
try_cycles-requires-clause-scope c =
    own_scope (encoding_in c.args.settings.now) c.args.facts.now c.args.table.now c.args.scope.now c.requires.scope

pub returns-then-k-settings : goal.returns-then-k-settings
returns-then-k-settings c =
    let f = formula_in c.args.scope.now c.args.facts.now c.args.table.now in
    let s = c.args.settings.now in
    let own = own_allocation s c.args.facts.now c.args.table.now c.args.scope.now c.requires.scope in
    let here = subst (λ (a : Allocation). IsTrial f c.args.graph.now c.args.table.now a c.loop-below.k s.conflicts c.in_ok-trial.trial)
    own c.in_ok-trial.ensures in
    record {
      low = c.loop-below.invariant.0;
      trial = subst (IsTrial f c.args.graph.now c.args.table.now s.allocation c.loop-below.k s.conflicts) c.in-Refuted.is here;
      least = c.loop-below.invariant.1;
      last = λ lines is. c.if-k-settings.true;
    }

pub loop-below-preserved : goal.loop-below-preserved
loop-below-preserved c =
    let m = c.args.graph.now in
    let table = c.args.table.now in
    let f = formula_in c.args.scope.now c.args.facts.now table in
    let k = c.loop-below.k in
    let s = c.args.settings.now in
    let own = own_allocation s c.args.facts.now table c.args.scope.now c.requires.scope in
    let here = subst (λ (a : Allocation). IsTrial f m table a k s.conflicts c.in_ok-trial.trial) own c.in_ok-trial.ensures in (
      (let le = c.loop-below.invariant.0 in let ne = c.if-k-settings.false in omega (arith, le, ne)),
      least_after f m table s.allocation s.conflicts k c.loop-below.below c.in-Refuted.lines c.loop-below.invariant.1
          (subst (IsTrial f m table s.allocation k s.conflicts) c.in-Refuted.is here),
    )
