use Rattle.std.proofs.Common.{◌≡◌, ◌∙◌, ◌+◌, ap, subst, sym}
use Rattle.std.specs.Prelude.{length}
use Rattle.std.proofs.lemmas.Result.{err_from_is_err_and}
use Rattle.cnf_core.specs.Formula.{Formula}
use Rattle.cycle_encoding.specs.CycleFormula.{listed_in}
use Rattle.cycle_encoding.specs.Plans.{IsTooLarge}
use Rattle.order_encoding.specs.OrderCounts.{part_size, part_vars}
use Rattle.order_encoding.specs.WholeFormula.{KnowsOverwritten, before_part, with_part}
use Rattle.order_encoding.proofs.PartSteps.{counted}
use Rattle.order_encoding.proofs.adding.add_part_in.Goals as goal

pub returns-in_err-within_limits-clause-size : goal.returns-in_err-within_limits-clause-size
returns-in_err-within_limits-clause-size c =
    let g = c.args.frame.now.facts.now in
    let table = c.args.frame.now.table.now in
    let p = c.args.part in
    let j = c.args.frame.now.k in
    let k = c.args.encoded.plan.cycles in
    let s = c.args.frame.now.scope.now in
    let f = c.args.encoded.cnf in
    let vars = counted p g table j k s c.requires.k (λ (x : Formula). x.vars) (λ n. part_vars p g table n s) f c.grown-sizes.result.vars c.requires.formula (c.parts_are_counted.ensures.vars p g table k s) (c.grown-sizes.ensures.vars ∙ ap (λ n. f.vars + n) c.in_ok-part_sizes.ensures.vars) in
    let clauses = counted p g table j k s c.requires.k (λ (x : Formula). length x.clauses) (λ n. part_size p g table n s) f c.grown-sizes.result.clauses c.requires.formula (c.parts_are_counted.ensures.clauses p g table k s) (c.grown-sizes.ensures.clauses ∙ ap (λ n. length f.clauses + n) c.in_ok-part_sizes.ensures.clauses) in
    let q = err_from_is_err_and c.from_residual-in_err-within_limits.result c.from_residual-in_err-within_limits.ensures.1 in
    rw (q.1, q.2) (c.in_err-within_limits.ensures.size (with_part p g table k (listed_in g table k s)) vars clauses)

pub extend-requires-clause-formula : goal.extend-requires-clause-formula
extend-requires-clause-formula c =
    let g = c.args.frame.now.facts.now in
    let table = c.args.frame.now.table.now in
    let p = c.args.part in
    let j = c.args.frame.now.k in
    let k = c.args.encoded.plan.cycles in
    let s = c.args.frame.now.scope.now in
    let f = c.args.encoded.cnf in
    subst (λ n. f ≡ before_part p g table n (listed_in g table n s)) (sym c.requires.k) c.requires.formula

pub extend-requires-clause-launches : goal.extend-requires-clause-launches
extend-requires-clause-launches c =
    let g = c.args.frame.now.facts.now in
    let table = c.args.frame.now.table.now in
    let p = c.args.part in
    let j = c.args.frame.now.k in
    let k = c.args.encoded.plan.cycles in
    let s = c.args.frame.now.scope.now in
    let f = c.args.encoded.cnf in
    c.launches.ensures ∙ subst (λ n. c.args.encoded.plan.launches ≡ (listed_in g table n s).launches) (sym c.requires.k) c.requires.launches

pub extend-requires-clause-overwritten : goal.extend-requires-clause-overwritten
extend-requires-clause-overwritten c =
    let g = c.args.frame.now.facts.now in
    let table = c.args.frame.now.table.now in
    let p = c.args.part in
    let j = c.args.frame.now.k in
    let k = c.args.encoded.plan.cycles in
    let s = c.args.frame.now.scope.now in
    let f = c.args.encoded.cnf in
    subst (λ n. KnowsOverwritten p n (listed_in g table j s)) (sym (c.in_ok-over.ensures.first ∙ c.overwritten.ensures))
    (subst (λ n. KnowsOverwritten p c.args.encoded.plan.overwritten (listed_in g table n s)) (sym c.requires.k) c.requires.overwritten)

pub extend-requires-clause-within : goal.extend-requires-clause-within
extend-requires-clause-within c =
    let g = c.args.frame.now.facts.now in
    let table = c.args.frame.now.table.now in
    let p = c.args.part in
    let j = c.args.frame.now.k in
    let k = c.args.encoded.plan.cycles in
    let s = c.args.frame.now.scope.now in
    let f = c.args.encoded.cnf in
    let vars = counted p g table j k s c.requires.k (λ (x : Formula). x.vars) (λ n. part_vars p g table n s) f c.grown-sizes.result.vars c.requires.formula (c.parts_are_counted.ensures.vars p g table k s) (c.grown-sizes.ensures.vars ∙ ap (λ n. f.vars + n) c.in_ok-part_sizes.ensures.vars) in
    let clauses = counted p g table j k s c.requires.k (λ (x : Formula). length x.clauses) (λ n. part_size p g table n s) f c.grown-sizes.result.clauses c.requires.formula (c.parts_are_counted.ensures.clauses p g table k s) (c.grown-sizes.ensures.clauses ∙ ap (λ n. length f.clauses + n) c.in_ok-part_sizes.ensures.clauses) in
    subst (λ n. IsTooLarge (with_part p g table n (listed_in g table n s)) → ⊥) (sym c.requires.k)
    (c.in_ok-within_limits.ensures.within (with_part p g table k (listed_in g table k s)) vars clauses)

pub returns-clause-within : goal.returns-clause-within
returns-clause-within c =
    let g = c.args.frame.now.facts.now in
    let table = c.args.frame.now.table.now in
    let p = c.args.part in
    let j = c.args.frame.now.k in
    let k = c.args.encoded.plan.cycles in
    let s = c.args.frame.now.scope.now in
    let f = c.args.encoded.cnf in
    let vars = counted p g table j k s c.requires.k (λ (x : Formula). x.vars) (λ n. part_vars p g table n s) f c.grown-sizes.result.vars c.requires.formula (c.parts_are_counted.ensures.vars p g table k s) (c.grown-sizes.ensures.vars ∙ ap (λ n. f.vars + n) c.in_ok-part_sizes.ensures.vars) in
    let clauses = counted p g table j k s c.requires.k (λ (x : Formula). length x.clauses) (λ n. part_size p g table n s) f c.grown-sizes.result.clauses c.requires.formula (c.parts_are_counted.ensures.clauses p g table k s) (c.grown-sizes.ensures.clauses ∙ ap (λ n. length f.clauses + n) c.in_ok-part_sizes.ensures.clauses) in
    c.in_ok-within_limits.ensures.within (with_part p g table k (listed_in g table k s)) vars clauses

pub returns-clause-formula : goal.returns-clause-formula
returns-clause-formula c =
    let g = c.args.frame.now.facts.now in
    let table = c.args.frame.now.table.now in
    let p = c.args.part in
    let j = c.args.frame.now.k in
    let k = c.args.encoded.plan.cycles in
    let s = c.args.frame.now.scope.now in
    let f = c.args.encoded.cnf in
    c.in_ok-extend.ensures ∙ ap (λ n. with_part p g table n (listed_in g table n s)) c.requires.k

pub part_sizes-requires-clause-capacity : goal.part_sizes-requires-clause-capacity
part_sizes-requires-clause-capacity c = record {
  is = c.in_ok-capacity.ensures.value;
  small = c.in_ok-capacity.ensures.small;
  apart = c.in_ok-capacity.ensures.apart;
}

pub extend-requires-clause-capacity : goal.extend-requires-clause-capacity
extend-requires-clause-capacity c = record {
  is = c.in_ok-capacity.ensures.value;
  small = c.in_ok-capacity.ensures.small;
  apart = c.in_ok-capacity.ensures.apart;
}

pub extend-requires-clause-over : goal.extend-requires-clause-over
extend-requires-clause-over c = record {
  cycles_are = c.in_ok-over.ensures.cycles;
  sets_are = c.in_ok-over.ensures.sets;
}
