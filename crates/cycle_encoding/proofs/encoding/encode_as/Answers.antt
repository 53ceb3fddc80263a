use Rattle.std.proofs.Common.{◌≡◌, ◌∙◌, ap, sym, subst, arith, ℕ, length}
use Rattle.std.proofs.lemmas.Result.{err_from_is_err_and}
use Rattle.graph_meaning.specs.WellFormed.{IsLaunchGraph}
use Rattle.graph_meaning.specs.declared.graphs.LaunchGraph.{LaunchGraph}
use Rattle.machine_table.specs.declared.tables.Table.{Table}
use Rattle.cycle_encoding.specs.CycleFormula.{allocation_in}
use Rattle.cycle_encoding.specs.CycleFormula.{Listed, Scope, first_cycle_in}
use Rattle.cycle_encoding.specs.Counts.{cycle_vars, cycle_size}
use Rattle.cycle_encoding.specs.CycleFormula.{listed_in}
use Rattle.cycle_encoding.specs.CycleFormula.{before_overwritten, cycle_formula}
use Rattle.cycle_encoding.specs.Variables.{launches_from}
use Rattle.cycle_encoding.specs.Encodings.{AreListed}
use Rattle.cycle_encoding.specs.Faults.{EncodeFaultIs, IsRefusalOf}
use Rattle.cycle_encoding.specs.Plans.{Plan, IsTooLarge}
use Rattle.cycle_encoding.specs.declared.plans.EncodeFault.{EncodeFault}
use Rattle.cycle_encoding.specs.declared.plans.EncodeFault.TheVariants.{Size, Memory}
use Rattle.cnf_core.specs.Formula.{Formula}
use Rattle.cycle_encoding.specs.declared.encodings.Encoding.{Encoding}
use Rattle.cycle_encoding.proofs.encoding.encode_as.Goals as goal

-- the scope's list is one of the encoding's
own-list : (e : Encoding) (g h : LaunchGraph) (table : Table) (k : ℕ) (s : Scope) → h ≡ g → AreListed e h table k (listed_in h table k s) → AreListed e g table k (listed_in g table k s)
own-list e g h table k s eh own = subst (λ x. AreListed e x table k (listed_in x table k s)) eh own

pub returns-in_err-within_limits-clause-size : goal.returns-in_err-within_limits-clause-size
returns-in_err-within_limits-clause-size c =
    let g = c.args.graph.now in
    let table = c.args.table.now in
    let k = c.args.k in
    let s = c.in_ok-scope.scope in
    let own = own-list c.args.encoding g c.in_ok-facts.facts table k s c.in_ok-facts.ensures (c.in_ok-scope.ensures.lists k c.requires.cycles) in
    let vars = c.cycle_sizes.ensures.vars ∙ ap (λ (x : LaunchGraph). cycle_vars x table k s) c.in_ok-facts.ensures ∙ sym (c.cycle_counts_are_found.ensures.vars g table k s) in
    let clauses = c.cycle_sizes.ensures.clauses ∙ ap (λ (x : LaunchGraph). cycle_size x table k s) c.in_ok-facts.ensures ∙ sym (c.cycle_counts_are_found.ensures.clauses g table k s) in
    let p = err_from_is_err_and c.from_residual-in_err-within_limits.result c.from_residual-in_err-within_limits.ensures.1 in
    rw (p.1, p.2)
    (λ l a.
    let same = sym (c.each_encoding_has_one_list.ensures c.args.encoding g table k l (listed_in g table k s) a own) in
    c.in_err-within_limits.ensures.size (cycle_formula g table k l) (vars ∙ ap (λ (x : Listed). (cycle_formula g table k x).vars) same)
    (clauses ∙ ap (λ (x : Listed). length (cycle_formula g table k x).clauses) same))

refusal : (e : Encoding) (g : LaunchGraph) (table : Table) (k : ℕ) (formula : Listed → Formula) (l : Listed) (fault : EncodeFault) → AreListed e g table k l → EncodeFaultIs (formula l) fault → IsRefusalOf e g table k formula fault
refusal e g table k formula l (Size vars clauses) own is = (l, own, is)
refusal e g table k formula l Memory own is = tt

pub returns-in_err-within_limits-clause-refused : goal.returns-in_err-within_limits-clause-refused
returns-in_err-within_limits-clause-refused c =
    let g = c.args.graph.now in
    let table = c.args.table.now in
    let k = c.args.k in
    let s = c.in_ok-scope.scope in
    let own = own-list c.args.encoding g c.in_ok-facts.facts table k s c.in_ok-facts.ensures (c.in_ok-scope.ensures.lists k c.requires.cycles) in
    let vars = c.cycle_sizes.ensures.vars ∙ ap (λ (x : LaunchGraph). cycle_vars x table k s) c.in_ok-facts.ensures ∙ sym (c.cycle_counts_are_found.ensures.vars g table k s) in
    let clauses = c.cycle_sizes.ensures.clauses ∙ ap (λ (x : LaunchGraph). cycle_size x table k s) c.in_ok-facts.ensures ∙ sym (c.cycle_counts_are_found.ensures.clauses g table k s) in
    let p = err_from_is_err_and c.from_residual-in_err-within_limits.result c.from_residual-in_err-within_limits.ensures.1 in
    rw (p.1, p.2)
    (refusal c.args.encoding g table k (cycle_formula g table k) (listed_in g table k s) _ own
    (c.in_err-within_limits.ensures.size (cycle_formula g table k (listed_in g table k s)) vars clauses))

pub build_cycles-requires-clause-vars : goal.build_cycles-requires-clause-vars
build_cycles-requires-clause-vars c =
    let vars = c.cycle_sizes.ensures.vars ∙ sym (c.cycle_counts_are_found.ensures.vars c.in_ok-facts.facts c.args.table.now c.args.k c.in_ok-scope.scope) in
    omega (arith, vars, c.in_ok-within_limits.ensures.few_vars)

pub build_cycles-requires-clause-clauses : goal.build_cycles-requires-clause-clauses
build_cycles-requires-clause-clauses c =
    let clauses = c.cycle_sizes.ensures.clauses ∙ sym (c.cycle_counts_are_found.ensures.clauses c.in_ok-facts.facts c.args.table.now c.args.k c.in_ok-scope.scope) in
    omega (arith, clauses, c.in_ok-within_limits.ensures.few_clauses)

pub returns-clause-listed : goal.returns-clause-listed
returns-clause-listed c =
    let g = c.args.graph.now in
    let table = c.args.table.now in
    let k = c.args.k in
    let s = c.in_ok-scope.scope in
    let own = own-list c.args.encoding g c.in_ok-facts.facts table k s c.in_ok-facts.ensures (c.in_ok-scope.ensures.lists k c.requires.cycles) in
    (listed_in g table k s, own)

pub returns-clause-formula : goal.returns-clause-formula
returns-clause-formula c =
    let g = c.args.graph.now in
    let table = c.args.table.now in
    let k = c.args.k in
    let s = c.in_ok-scope.scope in
    let own = own-list c.args.encoding g c.in_ok-facts.facts table k s c.in_ok-facts.ensures (c.in_ok-scope.ensures.lists k c.requires.cycles) in
    λ l a.
    c.in_ok-build_cycles.ensures.formula
    ∙ ap (λ (x : LaunchGraph). cycle_formula x table k (listed_in x table k s)) c.in_ok-facts.ensures
    ∙ ap (cycle_formula g table k) (sym (c.each_encoding_has_one_list.ensures c.args.encoding g table k l (listed_in g table k s) a own))

pub returns-clause-plan : goal.returns-clause-plan
returns-clause-plan c =
    let g = c.args.graph.now in
    let table = c.args.table.now in
    let k = c.args.k in
    let s = c.in_ok-scope.scope in
    let own = own-list c.args.encoding g c.in_ok-facts.facts table k s c.in_ok-facts.ensures (c.in_ok-scope.ensures.lists k c.requires.cycles) in
    λ l a.
    c.in_ok-build_cycles.ensures.plan
    ∙ ap {A = LaunchGraph} {B = Plan} (λ x. record { encoding = s.encoding; cycles = k; launches = launches_from x table (allocation_in s) k (first_cycle_in s); overwritten = before_overwritten (listed_in x table k s) }) c.in_ok-facts.ensures
    ∙ ap {A = Encoding} {B = Plan} (λ e. record { encoding = e; cycles = k; launches = launches_from g table (allocation_in s) k (first_cycle_in s); overwritten = before_overwritten (listed_in g table k s) }) c.in_ok-scope.ensures.encoding
    ∙ ap {A = Listed} {B = Plan} (λ x. record { encoding = c.args.encoding; cycles = k; launches = x.launches; overwritten = before_overwritten x }) (sym (c.each_encoding_has_one_list.ensures c.args.encoding g table k l (listed_in g table k s) a own))

pub returns-clause-within : goal.returns-clause-within
returns-clause-within c =
    let g = c.args.graph.now in
    let table = c.args.table.now in
    let k = c.args.k in
    let s = c.in_ok-scope.scope in
    let own = own-list c.args.encoding g c.in_ok-facts.facts table k s c.in_ok-facts.ensures (c.in_ok-scope.ensures.lists k c.requires.cycles) in
    let vars = c.cycle_sizes.ensures.vars ∙ ap (λ (x : LaunchGraph). cycle_vars x table k s) c.in_ok-facts.ensures ∙ sym (c.cycle_counts_are_found.ensures.vars g table k s) in
    let clauses = c.cycle_sizes.ensures.clauses ∙ ap (λ (x : LaunchGraph). cycle_size x table k s) c.in_ok-facts.ensures ∙ sym (c.cycle_counts_are_found.ensures.clauses g table k s) in
    λ l a. subst (λ x. IsTooLarge (cycle_formula g table k x) → ⊥) (sym (c.each_encoding_has_one_list.ensures c.args.encoding g table k l (listed_in g table k s) a own))
    (c.in_ok-within_limits.ensures.within (cycle_formula g table k (listed_in g table k s)) vars clauses)

pub cycle_sizes-requires : goal.cycle_sizes-requires
cycle_sizes-requires c = record {
  frame = record {
    graph = subst IsLaunchGraph (sym c.in_ok-facts.ensures) c.requires.graph;
    table = c.requires.table;
    cycles = c.requires.cycles;
  };
}

pub build_cycles-requires-clause-frame : goal.build_cycles-requires-clause-frame
build_cycles-requires-clause-frame c = record {
  graph = subst IsLaunchGraph (sym c.in_ok-facts.ensures) c.requires.graph;
  table = c.requires.table;
  cycles = c.requires.cycles;
}
