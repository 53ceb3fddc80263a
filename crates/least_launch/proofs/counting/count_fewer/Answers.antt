use Rattle.std.proofs.Common.{◌+◌, refl}
use Rattle.cycle_encoding.specs.CycleFormula.{listed_in}
use Rattle.order_encoding.specs.WholeFormula.{formula_in}
use Rattle.least_launch.proofs.CountsOf.{clauses_with, vars_with}
use Rattle.least_launch.proofs.counting.count_fewer.Goals as goal

pub returns-clause-vars : goal.returns-clause-vars
returns-clause-vars c =
    let g = c.args.facts.now in
    let table = c.args.table.now in
    let k = c.args.k in
    let s = c.args.scope.now in
    vars_with c.args.n c.launch_count-launches.result c.in_ok-sizes.sizes.vars c.counter_vars.result
    (c.in_ok-sizes.sizes.vars + c.counter_vars.result) (listed_in g table k s).launches (formula_in s g table k)
    c.in_ok-sizes.ensures.vars c.launch_count-launches.ensures.value c.counter_vars.ensures.value refl

pub returns-clause-clauses : goal.returns-clause-clauses
returns-clause-clauses c =
    let g = c.args.facts.now in
    let table = c.args.table.now in
    let k = c.args.k in
    let s = c.args.scope.now in
    clauses_with c.counters_count.ensures.size c.args.n c.launch_count-launches.result c.in_ok-sizes.sizes.clauses
    c.counter_size.result (c.in_ok-sizes.sizes.clauses + c.counter_size.result) (listed_in g table k s).launches
    (formula_in s g table k) c.in_ok-sizes.ensures.clauses c.launch_count-launches.ensures.value
    c.counter_size.ensures.value refl
