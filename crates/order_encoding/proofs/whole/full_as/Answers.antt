use Rattle.std.proofs.Common.{◌≡◌, ◌∙◌, ℕ, ap, refl, subst, sym}
use Rattle.std.specs.Prelude.{Result, Ok, Err, IfOk, OnOk}
use Rattle.cnf_core.specs.Formula.{Formula}
use Rattle.machine_table.specs.declared.tables.Table.{Table}
use Rattle.cycle_encoding.specs.Encodings.{AreListed, allocation_of}
use Rattle.cycle_encoding.specs.declared.plans.EncodeFault.{EncodeFault}
use Rattle.cycle_encoding.specs.declared.plans.EncodeFault.TheVariants.{Size, Memory}
use Rattle.graph_meaning.specs.declared.graphs.LaunchGraph.{LaunchGraph}
use Rattle.cycle_encoding.specs.CycleFormula.{Listed}
use Rattle.cycle_encoding.specs.Faults.{EncodeFaultIs}
use Rattle.cycle_encoding.specs.CycleFormula.{before_overwritten}
use Rattle.cycle_encoding.specs.Plans.{Plan, IsTooLarge}
use Rattle.cycle_encoding.specs.declared.encodings.Encoding.{Encoding}
use Rattle.cycle_encoding.proofs.Built.{if_ok, if_err, if_ok_both, on_ok_more}
use Rattle.order_encoding.specs.WholeFormula.{IsSizeFault, whole_formula}
use Rattle.cycle_encoding.specs.CycleFormula.{listed_in}
use Rattle.order_encoding.proofs.Lists.{as_listed, own_list}
use Rattle.order_encoding.proofs.Composed.{shows_in, some_in}
use Rattle.order_encoding.proofs.whole.full_as.Goals as goal

-- the scope's list is one of the encoding, so its counts are those of the encoding's clauses
size-fault : (e : Encoding) (g : LaunchGraph) (table : Table) (k : ℕ) (l : Listed) (fault : EncodeFault) → AreListed e g table k l → EncodeFaultIs (whole_formula g table k l) fault → IsSizeFault e g table k fault
size-fault e g table k l (Size vars clauses) own is = (whole_formula g table k l, record { lists = l; listed = own; is = refl }, is)
size-fault e g table k l Memory own is = tt

pub returns-clause-is : goal.returns-clause-is
returns-clause-is c =
    let s = c.in_ok-scope.scope in
    if_ok _ _ c.build_formula.result
    (λ r is. record {
      lists = listed_in c.args.graph.now c.args.table.now c.args.k s;
      listed = (own_list c.each_encoding_has_one_list.ensures c.args.encoding c.args.graph.now c.in_ok-facts.facts c.args.table.now c.args.k c.in_ok-scope.scope c.in_ok-facts.ensures c.in_ok-scope.ensures c.requires.cycles);
      is = is ∙ ap (λ (x : LaunchGraph). whole_formula x c.args.table.now c.args.k (listed_in x c.args.table.now c.args.k s)) c.in_ok-facts.ensures;
    }) c.build_formula.ensures.formula

given : {A E : Type 0} (W : Type 0) (P Q : A → Type 0) (r : Result A E) → ((a : A) → W → P a → Q a) → OnOk r W → IfOk r P → IfOk r Q
given W P Q (Ok a) f w p = f a w p
given W P Q (Err x) f w p = tt

pub returns-clause-small : goal.returns-clause-small
returns-clause-small c =
    given _ _ _ c.build_formula.result (λ r within is. subst (λ (x : Formula). IsTooLarge x → ⊥) (sym is) within) c.build_formula.ensures.within c.build_formula.ensures.formula

pub returns-clause-refused : goal.returns-clause-refused
returns-clause-refused c =
    let s = c.in_ok-scope.scope in
    if_err _ _ c.build_formula.result
    (λ r is. size-fault c.args.encoding c.args.graph.now c.args.table.now c.args.k (listed_in c.args.graph.now c.args.table.now c.args.k s) r (own_list c.each_encoding_has_one_list.ensures c.args.encoding c.args.graph.now c.in_ok-facts.facts c.args.table.now c.args.k c.in_ok-scope.scope c.in_ok-facts.ensures c.in_ok-scope.ensures c.requires.cycles)
    (subst (λ (x : LaunchGraph). EncodeFaultIs (whole_formula x c.args.table.now c.args.k (listed_in x c.args.table.now c.args.k s)) r) c.in_ok-facts.ensures is)) c.build_formula.ensures.size

pub returns-clause-formula : goal.returns-clause-formula
returns-clause-formula c =
    if_ok _ _ c.build_formula.result
    (λ r is. as_listed c.each_encoding_has_one_list.ensures c.args.encoding c.args.graph.now c.in_ok-facts.facts c.args.table.now c.args.k c.in_ok-scope.scope c.in_ok-facts.ensures c.in_ok-scope.ensures c.requires.cycles
    (λ (x : LaunchGraph) (l : Listed). r.cnf ≡ whole_formula x c.args.table.now c.args.k l) is) c.build_formula.ensures.formula

pub returns-clause-plan : goal.returns-clause-plan
returns-clause-plan c =
    if_ok _ _ c.build_formula.result
    (λ r is. as_listed c.each_encoding_has_one_list.ensures c.args.encoding c.args.graph.now c.in_ok-facts.facts c.args.table.now c.args.k c.in_ok-scope.scope c.in_ok-facts.ensures c.in_ok-scope.ensures c.requires.cycles
    (λ (x : LaunchGraph) (l : Listed). r.plan ≡ record { encoding = c.args.encoding; cycles = c.args.k; launches = l.launches; overwritten = before_overwritten l })
    (is ∙ ap {A = Encoding} {B = Plan} (λ e. record { encoding = e; cycles = c.args.k; launches = (listed_in c.in_ok-facts.facts c.args.table.now c.args.k c.in_ok-scope.scope).launches; overwritten = before_overwritten (listed_in c.in_ok-facts.facts c.args.table.now c.args.k c.in_ok-scope.scope) }) c.in_ok-scope.ensures.encoding)) c.build_formula.ensures.plan

pub returns-clause-size : goal.returns-clause-size
returns-clause-size c =
    if_err _ _ c.build_formula.result
    (λ r is. as_listed c.each_encoding_has_one_list.ensures c.args.encoding c.args.graph.now c.in_ok-facts.facts c.args.table.now c.args.k c.in_ok-scope.scope c.in_ok-facts.ensures c.in_ok-scope.ensures c.requires.cycles
    (λ (x : LaunchGraph) (l : Listed). EncodeFaultIs (whole_formula x c.args.table.now c.args.k l) r) is) c.build_formula.ensures.size

pub returns-clause-within : goal.returns-clause-within
returns-clause-within c =
    on_ok_more _ _ c.build_formula.result
    (λ is. as_listed c.each_encoding_has_one_list.ensures c.args.encoding c.args.graph.now c.in_ok-facts.facts c.args.table.now c.args.k c.in_ok-scope.scope c.in_ok-facts.ensures c.in_ok-scope.ensures c.requires.cycles
    (λ (x : LaunchGraph) (l : Listed). IsTooLarge (whole_formula x c.args.table.now c.args.k l) → ⊥) is) c.build_formula.ensures.within

pub returns-clause-shown : goal.returns-clause-shown
returns-clause-shown c =
    let g = c.args.graph.now in
    let table = c.args.table.now in
    let k = c.args.k in
    let l = listed_in g table k c.in_ok-scope.scope in
    let own = own_list c.each_encoding_has_one_list.ensures c.args.encoding c.args.graph.now c.in_ok-facts.facts c.args.table.now c.args.k c.in_ok-scope.scope c.in_ok-facts.ensures c.in_ok-scope.ensures c.requires.cycles in
    if_ok_both _ _ _ c.build_formula.result
    (λ r formula plan. shows_in g table (allocation_of c.args.encoding) k l r.cnf r.plan.launches
    (formula ∙ ap (λ (x : LaunchGraph). whole_formula x table k (listed_in x table k c.in_ok-scope.scope)) c.in_ok-facts.ensures)
    (ap (λ (p : Plan). p.launches) plan ∙ ap (λ (x : LaunchGraph). (listed_in x table k c.in_ok-scope.scope).launches) c.in_ok-facts.ensures)
    (λ v h. c.each_encoding_says_fits.ensures.shown c.args.encoding g table k l v c.requires.table c.requires.graph own h))
    c.build_formula.ensures.formula c.build_formula.ensures.plan

pub returns-clause-some : goal.returns-clause-some
returns-clause-some c =
    let g = c.args.graph.now in
    let table = c.args.table.now in
    let k = c.args.k in
    let l = listed_in g table k c.in_ok-scope.scope in
    let own = own_list c.each_encoding_has_one_list.ensures c.args.encoding c.args.graph.now c.in_ok-facts.facts c.args.table.now c.args.k c.in_ok-scope.scope c.in_ok-facts.ensures c.in_ok-scope.ensures c.requires.cycles in
    if_ok_both _ _ _ c.build_formula.result
    (λ r formula plan. some_in g table (allocation_of c.args.encoding) k l r.cnf r.plan.launches
    (formula ∙ ap (λ (x : LaunchGraph). whole_formula x table k (listed_in x table k c.in_ok-scope.scope)) c.in_ok-facts.ensures)
    (ap (λ (p : Plan). p.launches) plan ∙ ap (λ (x : LaunchGraph). (listed_in x table k c.in_ok-scope.scope).launches) c.in_ok-facts.ensures)
    (λ ls fit. c.each_encoding_says_fits.ensures.some c.args.encoding g table k l ls c.requires.table c.requires.graph own fit))
    c.build_formula.ensures.formula c.build_formula.ensures.plan
