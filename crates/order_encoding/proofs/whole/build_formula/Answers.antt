use Rattle.std.proofs.lemmas.Result.{err_from_is_err_and}
use Rattle.order_encoding.specs.WholeFormula.{formula_in}
use Rattle.order_encoding.proofs.whole.build_formula.Goals as goal

pub returns-in_err-within_limits-clause-size : goal.returns-in_err-within_limits-clause-size
returns-in_err-within_limits-clause-size c =
    let w = formula_in c.args.scope.now c.args.facts.now c.args.table.now c.args.k in
    let p = err_from_is_err_and c.from_residual-in_err-within_limits.result c.from_residual-in_err-within_limits.ensures.1 in
    rw (p.1, p.2) (c.in_err-within_limits.ensures.size w c.in_ok-sizes.ensures.vars c.in_ok-sizes.ensures.clauses)

pub build_whole-requires-clause-within : goal.build_whole-requires-clause-within
build_whole-requires-clause-within c =
    let w = formula_in c.args.scope.now c.args.facts.now c.args.table.now c.args.k in
    c.in_ok-within_limits.ensures.within w c.in_ok-sizes.ensures.vars c.in_ok-sizes.ensures.clauses

pub returns-clause-within : goal.returns-clause-within
returns-clause-within c =
    let w = formula_in c.args.scope.now c.args.facts.now c.args.table.now c.args.k in
    c.in_ok-within_limits.ensures.within w c.in_ok-sizes.ensures.vars c.in_ok-sizes.ensures.clauses

pub sizes_with-requires-clause-capacity : goal.sizes_with-requires-clause-capacity
sizes_with-requires-clause-capacity c = record {
  is = c.in_ok-capacity.ensures.value;
  small = c.in_ok-capacity.ensures.small;
  apart = c.in_ok-capacity.ensures.apart;
}

pub build_whole-requires-clause-capacity : goal.build_whole-requires-clause-capacity
build_whole-requires-clause-capacity c = record {
  is = c.in_ok-capacity.ensures.value;
  small = c.in_ok-capacity.ensures.small;
  apart = c.in_ok-capacity.ensures.apart;
}
