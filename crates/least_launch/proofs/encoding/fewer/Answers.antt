use Rattle.std.proofs.Common.{◌≡◌, ◌∙◌, ap, refl, subst, sym}
use Rattle.cnf_core.specs.Formula.{AreOver}
use Rattle.cycle_encoding.specs.CycleFormula.{Listed}
use Rattle.cycle_encoding.specs.Faults.{EncodeFaultIs}
use Rattle.cycle_encoding.specs.CycleFormula.{listed_in}
use Rattle.cycle_encoding.specs.CycleFormula.{before_overwritten}
use Rattle.cycle_encoding.specs.Plans.{IsTooLarge, Plan}
use Rattle.cycle_encoding.specs.declared.encodings.Encoding.{Encoding}
use Rattle.cycle_encoding.proofs.Built.{if_err, if_ok, if_ok_both, on_ok, on_ok_more}
use Rattle.denali_run.specs.Encodings.{encoding_for}
use Rattle.graph_meaning.specs.declared.graphs.LaunchGraph.{LaunchGraph}
use Rattle.order_encoding.specs.WholeFormula.{whole_formula}
use Rattle.order_encoding.proofs.Lists.{as_listed, own_list}
use Rattle.schedule_meaning.specs.Fits.{Fits}
use Rattle.schedule_meaning.specs.declared.schedules.Allocation.{Allocation}
use Rattle.least_launch.specs.FewerLaunches.{fewer_formula}
use Rattle.least_launch.proofs.Allocated.{allocated, scope_for}
use Rattle.least_launch.proofs.Built.{if_ok_on, shows_few, some_few}
use Rattle.least_launch.proofs.encoding.fewer.Goals as goal

pub returns-clause-listed : goal.returns-clause-listed
returns-clause-listed c =
    let scope = scope_for c.args.allocation c.encoding_for.result c.in_ok-facts.facts c.args.table.now
    c.in_ok-scope.scope c.encoding_for.ensures c.in_ok-scope.ensures in
    on_ok c.build_fewer.result _ (
      listed_in c.args.graph.now c.args.table.now c.args.k c.in_ok-scope.scope,
      own_list
          c.each_encoding_has_one_list.ensures (encoding_for c.args.allocation) c.args.graph.now c.in_ok-facts.facts
          c.args.table.now c.args.k c.in_ok-scope.scope c.in_ok-facts.ensures scope c.requires.cycles,
    )

pub returns-clause-formula : goal.returns-clause-formula
returns-clause-formula c =
    let scope = scope_for c.args.allocation c.encoding_for.result c.in_ok-facts.facts c.args.table.now
    c.in_ok-scope.scope c.encoding_for.ensures c.in_ok-scope.ensures in
    if_ok _ _ c.build_fewer.result
    (λ r is. as_listed c.each_encoding_has_one_list.ensures (encoding_for c.args.allocation) c.args.graph.now
    c.in_ok-facts.facts c.args.table.now c.args.k c.in_ok-scope.scope c.in_ok-facts.ensures scope c.requires.cycles
    (λ (x : LaunchGraph) (l : Listed). r.cnf ≡ fewer_formula x c.args.table.now c.args.k l c.args.n) is)
    c.build_fewer.ensures.formula

pub returns-clause-plan : goal.returns-clause-plan
returns-clause-plan c =
    let scope = scope_for c.args.allocation c.encoding_for.result c.in_ok-facts.facts c.args.table.now
    c.in_ok-scope.scope c.encoding_for.ensures c.in_ok-scope.ensures in
    if_ok _ _ c.build_fewer.result
    (λ r is. as_listed c.each_encoding_has_one_list.ensures (encoding_for c.args.allocation) c.args.graph.now
    c.in_ok-facts.facts c.args.table.now c.args.k c.in_ok-scope.scope c.in_ok-facts.ensures scope c.requires.cycles
    (λ (x : LaunchGraph) (l : Listed). r.plan ≡ record {
      encoding = encoding_for c.args.allocation;
      cycles = c.args.k;
      launches = l.launches;
      overwritten = before_overwritten l;
    })
    (is ∙ ap {A = Encoding} {B = Plan}
    (λ e. record {
      encoding = e;
      cycles = c.args.k;
      launches = (listed_in c.in_ok-facts.facts c.args.table.now c.args.k c.in_ok-scope.scope).launches;
      overwritten = before_overwritten
          (listed_in c.in_ok-facts.facts c.args.table.now c.args.k c.in_ok-scope.scope);
    }) (c.in_ok-scope.ensures.encoding ∙ c.encoding_for.ensures)))
    c.build_fewer.ensures.plan

pub returns-clause-size : goal.returns-clause-size
returns-clause-size c =
    let scope = scope_for c.args.allocation c.encoding_for.result c.in_ok-facts.facts c.args.table.now
    c.in_ok-scope.scope c.encoding_for.ensures c.in_ok-scope.ensures in
    if_err _ _ c.build_fewer.result
    (λ r is. as_listed c.each_encoding_has_one_list.ensures (encoding_for c.args.allocation) c.args.graph.now
    c.in_ok-facts.facts c.args.table.now c.args.k c.in_ok-scope.scope c.in_ok-facts.ensures scope c.requires.cycles
    (λ (x : LaunchGraph) (l : Listed). EncodeFaultIs (fewer_formula x c.args.table.now c.args.k l c.args.n) r) is)
    c.build_fewer.ensures.size

pub returns-clause-within : goal.returns-clause-within
returns-clause-within c =
    let scope = scope_for c.args.allocation c.encoding_for.result c.in_ok-facts.facts c.args.table.now
    c.in_ok-scope.scope c.encoding_for.ensures c.in_ok-scope.ensures in
    on_ok_more _ _ c.build_fewer.result
    (λ is. as_listed c.each_encoding_has_one_list.ensures (encoding_for c.args.allocation) c.args.graph.now
    c.in_ok-facts.facts c.args.table.now c.args.k c.in_ok-scope.scope c.in_ok-facts.ensures scope c.requires.cycles
    (λ (x : LaunchGraph) (l : Listed). IsTooLarge (fewer_formula x c.args.table.now c.args.k l c.args.n)
    → ⊥) is) c.build_fewer.ensures.within

pub returns-clause-shown : goal.returns-clause-shown
returns-clause-shown c =
    let g = c.args.graph.now in
    let table = c.args.table.now in
    let a = c.args.allocation in
    let k = c.args.k in
    let s = c.in_ok-scope.scope in
    let l = listed_in g table k s in
    let scope = scope_for a c.encoding_for.result c.in_ok-facts.facts table s c.encoding_for.ensures
    c.in_ok-scope.ensures in
    let own = own_list c.each_encoding_has_one_list.ensures (encoding_for a) g c.in_ok-facts.facts table k s
    c.in_ok-facts.ensures scope c.requires.cycles in
    if_ok_both _ _ _ c.build_fewer.result
    (λ r formula plan. shows_few g table a k c.args.n l r.cnf r.plan.launches
    (formula ∙ ap (λ (x : LaunchGraph). fewer_formula x table k (listed_in x table k c.in_ok-scope.scope) c.args.n)
    c.in_ok-facts.ensures)
    (ap (λ (p : Plan). p.launches) plan ∙ ap (λ (x : LaunchGraph). (listed_in x table k c.in_ok-scope.scope).launches)
    c.in_ok-facts.ensures)
    (λ v h. c.fewer_clauses_say_fits.ensures.shown (encoding_for a) g table k c.args.n l v c.requires.table
    c.requires.graph own h))
    c.build_fewer.ensures.formula c.build_fewer.ensures.plan

pub returns-clause-some : goal.returns-clause-some
returns-clause-some c =
    let g = c.args.graph.now in
    let table = c.args.table.now in
    let a = c.args.allocation in
    let k = c.args.k in
    let s = c.in_ok-scope.scope in
    let l = listed_in g table k s in
    let scope = scope_for a c.encoding_for.result c.in_ok-facts.facts table s c.encoding_for.ensures
    c.in_ok-scope.ensures in
    let own = own_list c.each_encoding_has_one_list.ensures (encoding_for a) g c.in_ok-facts.facts table k s
    c.in_ok-facts.ensures scope c.requires.cycles in
    if_ok_on _ _ _ c.build_fewer.result
    (λ r formula over ls fits few.
    let is_over = subst (λ (x : LaunchGraph). AreOver
    (whole_formula x table k (listed_in x table k c.in_ok-scope.scope)).vars
    (whole_formula x table k (listed_in x table k c.in_ok-scope.scope)).clauses) c.in_ok-facts.ensures over in
    let fits_so = subst (λ (x : Allocation). Fits g table x k ls) (sym (allocated a)) fits in
    let v = c.fewer_clauses_say_fits.ensures.some (encoding_for a) g table k c.args.n l ls c.requires.table
    c.requires.graph own is_over fits_so few in (
      v.0,
      some_few g table a k c.args.n l r.cnf l.launches
          (formula ∙ ap (λ (x : LaunchGraph). fewer_formula x table k (listed_in x table k c.in_ok-scope.scope)
          c.args.n) c.in_ok-facts.ensures)
          refl v.0 v.1,
    ))
    c.build_fewer.ensures.formula c.build_fewer.ensures.over
