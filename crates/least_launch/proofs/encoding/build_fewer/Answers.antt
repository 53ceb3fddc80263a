use Rattle.std.proofs.Common.{◌∙◌, ap, subst, sym}
use Rattle.std.proofs.lemmas.Result.{err_from_is_err_and}
use Rattle.cnf_core.specs.Formula.{AreOver, Formula}
use Rattle.cycle_encoding.specs.CycleFormula.{listed_in}
use Rattle.cycle_encoding.specs.Plans.{IsTooLarge, Plan}
use Rattle.order_encoding.specs.WholeFormula.{formula_in}
use Rattle.least_launch.specs.FewerLaunches.{fewer_in, launch_literals}
use Rattle.least_launch.proofs.Built.{fault_of_part, part_within, with_same}
use Rattle.least_launch.proofs.encoding.build_fewer.Goals as goal

pub returns-in_err-within_limits-clause-size : goal.returns-in_err-within_limits-clause-size
returns-in_err-within_limits-clause-size c =
    let w = fewer_in c.args.scope.now c.args.facts.now c.args.table.now c.args.k c.args.n in
    let p = err_from_is_err_and c.from_residual-in_err-within_limits.result
    c.from_residual-in_err-within_limits.ensures.1 in
    rw (p.1, p.2) (c.in_err-within_limits.ensures.size w c.in_ok-sizes.ensures.vars c.in_ok-sizes.ensures.clauses)

pub returns-in_err-encoded-clause-size : goal.returns-in_err-encoded-clause-size
returns-in_err-encoded-clause-size c =
    let part = formula_in c.args.scope.now c.args.facts.now c.args.table.now c.args.k in
    let launches = (listed_in c.args.facts.now c.args.table.now c.args.k c.args.scope.now).launches in
    let whole = fewer_in c.args.scope.now c.args.facts.now c.args.table.now c.args.k c.args.n in
    let within = c.in_ok-within_limits.ensures.within whole c.in_ok-sizes.ensures.vars c.in_ok-sizes.ensures.clauses in
    let p = err_from_is_err_and c.from_residual-in_err-encoded.result c.from_residual-in_err-encoded.ensures.1 in
    rw (p.1, p.2)
    (fault_of_part part whole _ (part_within c.args.n (launch_literals launches) part within)
    c.in_err-encoded.ensures.size)

pub add_counter-requires-clause-within : goal.add_counter-requires-clause-within
add_counter-requires-clause-within c =
    let g = c.args.facts.now in
    let part = formula_in c.args.scope.now g c.args.table.now c.args.k in
    let launches = (listed_in g c.args.table.now c.args.k c.args.scope.now).launches in
    let whole = fewer_in c.args.scope.now g c.args.table.now c.args.k c.args.n in
    let within = c.in_ok-within_limits.ensures.within whole c.in_ok-sizes.ensures.vars c.in_ok-sizes.ensures.clauses in
    subst (λ (f : Formula). ¬ IsTooLarge f)
    (sym (with_same c.args.n c.launches.result.now launches c.in_ok-encoded.encoded.cnf part
    (c.launches.ensures ∙ ap (λ (p : Plan). p.launches) c.in_ok-encoded.ensures.plan) c.in_ok-encoded.ensures.formula))
    within

pub returns-clause-formula : goal.returns-clause-formula
returns-clause-formula c =
    let g = c.args.facts.now in
    let part = formula_in c.args.scope.now g c.args.table.now c.args.k in
    let launches = (listed_in g c.args.table.now c.args.k c.args.scope.now).launches in
    c.in_ok-add_counter.ensures.counted
    ∙ with_same c.args.n c.launches.result.now launches c.in_ok-encoded.encoded.cnf part
    (c.launches.ensures ∙ ap (λ (p : Plan). p.launches) c.in_ok-encoded.ensures.plan) c.in_ok-encoded.ensures.formula

pub returns-clause-within : goal.returns-clause-within
returns-clause-within c =
    let whole = fewer_in c.args.scope.now c.args.facts.now c.args.table.now c.args.k c.args.n in
    c.in_ok-within_limits.ensures.within whole c.in_ok-sizes.ensures.vars c.in_ok-sizes.ensures.clauses

pub returns-clause-over : goal.returns-clause-over
returns-clause-over c =
    subst (λ (f : Formula). AreOver f.vars f.clauses) c.in_ok-encoded.ensures.formula c.add_counter.ensures.over
