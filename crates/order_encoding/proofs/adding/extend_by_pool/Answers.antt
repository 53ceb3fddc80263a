use Rattle.std.proofs.Common.{◌≡◌, ◌∙◌, ◌≤◌, List, ap, sym, subst, arith}
use Rattle.std.specs.Prelude.{length}
use Rattle.cycle_encoding.specs.Limits.{most_vars, most_clauses}
use Rattle.cnf_core.specs.Formula.{Formula}
use Rattle.schedule_meaning.specs.declared.schedules.Allocation.TheVariants.{Block, Live}
use Rattle.schedule_meaning.specs.declared.schedules.Launch.{Launch}
use Rattle.cycle_encoding.specs.CycleFormula.{listed_in}
use Rattle.cycle_encoding.proofs.Built.{on_ok_more}
use Rattle.order_encoding.specs.WholeFormula.{guard_formula, pool_formula}
use Rattle.order_encoding.proofs.Composed.{over_within}
use Rattle.order_encoding.proofs.Limits.{pool_is, within_clauses, within_vars}
use Rattle.order_encoding.proofs.adding.extend_by_pool.Goals as goal

pub extend_by_registers-requires-clause-exist : goal.extend_by_registers-requires-clause-exist
extend_by_registers-requires-clause-exist c =
    let g = c.args.plan.now.frame.facts.now in
    let table = c.args.plan.now.frame.table.now in
    let k = c.args.plan.now.frame.k in
    let s = c.args.plan.now.frame.scope.now in
    let e = listed_in g table k s in
    let f = c.args.cnf.now in
    let over = c.args.plan.now.over.now.first in
    let long = ap (λ (ls : List Launch). length ls) c.requires.launches in
    let many : f.vars ≡ (guard_formula g table k e).vars = ap (λ (x : Formula). x.vars) c.requires.formula in
    omega arith

pub extend_by_registers-requires-clause-vars : goal.extend_by_registers-requires-clause-vars
extend_by_registers-requires-clause-vars c =
    let g = c.args.plan.now.frame.facts.now in
    let table = c.args.plan.now.frame.table.now in
    let k = c.args.plan.now.frame.k in
    let s = c.args.plan.now.frame.scope.now in
    let e = listed_in g table k s in
    let f = c.args.cnf.now in
    let over = c.args.plan.now.over.now.first in
    let is = pool_is g table k e c.args.plan.now.launches.now c.requires.launches f over Block c.requires.overwritten c.in-Block.ensures c.requires.formula in
    subst (λ (x : Formula). x.vars ≤ most_vars) (sym is) (within_vars (pool_formula g table k e) c.requires.within)

pub extend_by_registers-requires-clause-clauses : goal.extend_by_registers-requires-clause-clauses
extend_by_registers-requires-clause-clauses c =
    let g = c.args.plan.now.frame.facts.now in
    let table = c.args.plan.now.frame.table.now in
    let k = c.args.plan.now.frame.k in
    let s = c.args.plan.now.frame.scope.now in
    let e = listed_in g table k s in
    let f = c.args.cnf.now in
    let over = c.args.plan.now.over.now.first in
    let is = pool_is g table k e c.args.plan.now.launches.now c.requires.launches f over Block c.requires.overwritten c.in-Block.ensures c.requires.formula in
    subst (λ (x : Formula). length x.clauses ≤ most_clauses) (sym is) (within_clauses (pool_formula g table k e) c.requires.within)

pub returns-in-Block : goal.returns-in-Block
returns-in-Block c =
    let g = c.args.plan.now.frame.facts.now in
    let table = c.args.plan.now.frame.table.now in
    let k = c.args.plan.now.frame.k in
    let s = c.args.plan.now.frame.scope.now in
    let e = listed_in g table k s in
    let f = c.args.cnf.now in
    let over = c.args.plan.now.over.now.first in
    let is = pool_is g table k e c.args.plan.now.launches.now c.requires.launches f over Block c.requires.overwritten c.in-Block.ensures c.requires.formula in
    on_ok_more _ _ c.extend_by_registers.result (λ new. new ∙ is) c.extend_by_registers.ensures

pub extend_by_live_ranges-requires-clause-vars : goal.extend_by_live_ranges-requires-clause-vars
extend_by_live_ranges-requires-clause-vars c =
    let g = c.args.plan.now.frame.facts.now in
    let table = c.args.plan.now.frame.table.now in
    let k = c.args.plan.now.frame.k in
    let s = c.args.plan.now.frame.scope.now in
    let e = listed_in g table k s in
    let f = c.args.cnf.now in
    let over = c.args.plan.now.over.now.first in
    let is = pool_is g table k e c.args.plan.now.launches.now c.requires.launches f over Live c.requires.overwritten c.in-Live.ensures c.requires.formula in
    subst (λ (x : Formula). x.vars ≤ most_vars) (sym is) (within_vars (pool_formula g table k e) c.requires.within)

pub extend_by_live_ranges-requires-clause-clauses : goal.extend_by_live_ranges-requires-clause-clauses
extend_by_live_ranges-requires-clause-clauses c =
    let g = c.args.plan.now.frame.facts.now in
    let table = c.args.plan.now.frame.table.now in
    let k = c.args.plan.now.frame.k in
    let s = c.args.plan.now.frame.scope.now in
    let e = listed_in g table k s in
    let f = c.args.cnf.now in
    let over = c.args.plan.now.over.now.first in
    let is = pool_is g table k e c.args.plan.now.launches.now c.requires.launches f over Live c.requires.overwritten c.in-Live.ensures c.requires.formula in
    subst (λ (x : Formula). length x.clauses ≤ most_clauses) (sym is) (within_clauses (pool_formula g table k e) c.requires.within)

pub returns-in-Live : goal.returns-in-Live
returns-in-Live c =
    let g = c.args.plan.now.frame.facts.now in
    let table = c.args.plan.now.frame.table.now in
    let k = c.args.plan.now.frame.k in
    let s = c.args.plan.now.frame.scope.now in
    let e = listed_in g table k s in
    let f = c.args.cnf.now in
    let over = c.args.plan.now.over.now.first in
    let is = pool_is g table k e c.args.plan.now.launches.now c.requires.launches f over Live c.requires.overwritten c.in-Live.ensures c.requires.formula in
    on_ok_more _ _ c.extend_by_live_ranges.result (λ new. new ∙ is) c.extend_by_live_ranges.ensures

pub extend_by_live_ranges-requires-clause-launches : goal.extend_by_live_ranges-requires-clause-launches
extend_by_live_ranges-requires-clause-launches c =
    let g = c.args.plan.now.frame.facts.now in
    let table = c.args.plan.now.frame.table.now in
    let k = c.args.plan.now.frame.k in
    let s = c.args.plan.now.frame.scope.now in
    let e = listed_in g table k s in
    let f = c.args.cnf.now in
    let over = c.args.plan.now.over.now.first in
    let long = ap (λ (ls : List Launch). length ls) c.requires.launches in
    let many : f.vars ≡ (guard_formula g table k e).vars = ap (λ (x : Formula). x.vars) c.requires.formula in
    let at = c.requires.overwritten in
    omega arith

pub extend_by_live_ranges-requires-clause-exist : goal.extend_by_live_ranges-requires-clause-exist
extend_by_live_ranges-requires-clause-exist c =
    let g = c.args.plan.now.frame.facts.now in
    let table = c.args.plan.now.frame.table.now in
    let k = c.args.plan.now.frame.k in
    let s = c.args.plan.now.frame.scope.now in
    let e = listed_in g table k s in
    let f = c.args.cnf.now in
    let over = c.args.plan.now.over.now.first in
    let long = ap (λ (ls : List Launch). length ls) c.requires.launches in
    let many : f.vars ≡ (guard_formula g table k e).vars = ap (λ (x : Formula). x.vars) c.requires.formula in
    let at = c.requires.overwritten in
    let within = over_within g table k e in
    omega arith
