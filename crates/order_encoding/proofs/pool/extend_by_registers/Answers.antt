use Rattle.std.proofs.Common.{◌≡◌, ◌∙◌, ◌+◌, ◌*◌, ◌++◌, ◌≤◌, ℕ, List, refl, sym, ap, subst, arith}
use Rattle.std.specs.Prelude.{length, All}
use Rattle.cycle_encoding.specs.Limits.{most_vars, most_clauses}
use Rattle.cnf_core.specs.declared.literal.Lit.{Lit}
use Rattle.cnf_core.specs.Formula.{Formula, IsLitOf}
use Rattle.cnf_core.specs.Counter.{at_most_vars, at_most_size, at_most_clauses}
use Rattle.graph_meaning.specs.declared.graphs.LaunchGraph.{LaunchGraph}
use Rattle.cycle_encoding.specs.Shapes.{numbered, vars_of}
use Rattle.cycle_encoding.specs.Families.{any}
use Rattle.cycle_encoding.proofs.Blocks.{vars-over}
use Rattle.cycle_encoding.proofs.Counting.{count-any}
use Rattle.cycle_encoding.proofs.Totals.{size-vars}
use Rattle.order_encoding.specs.OrderVariables.{all_taken}
use Rattle.order_encoding.specs.PinFamilies.{pool_clauses}
use Rattle.order_encoding.specs.WholeFormula.{formula_with_registers}
use Rattle.order_encoding.proofs.AddSteps.{then_same}
use Rattle.order_encoding.proofs.TakenPlaces.{taken-count}
use Rattle.order_encoding.proofs.Extended.{pool-room1, pool-room2, pool-vars2, pool-limit, pool-ends, pool-by-numbers, the_formula}
use Rattle.order_encoding.proofs.pool.extend_by_registers.Goals as goal

pub add_takes-requires-clause-exist : goal.add_takes-requires-clause-exist
add_takes-requires-clause-exist c =
    let g = c.args.plan.now.frame.facts.now in
    let table = c.args.plan.now.frame.table.now in
    let k = c.args.plan.now.frame.k in
    let f = c.args.cnf.now in
    let ls = c.args.plan.now.launches.now in
    let xs = numbered 0 ls in
    let first = c.vars-first.result in
    let taken = all_taken table k in
    let count = length table.slots * k in
    let n = f.vars + length taken in
    let us = numbered first taken in
    let T = pool_clauses g xs us in
    let lits = vars_of any us in
    let many : length taken ≡ c.len.result * k = taken-count table k ∙ ap (λ m. m * k) (sym c.len.ensures) in
    let are = c.in_ok-lits.ensures taken many in
    let long : length lits ≡ c.len.result * k = size-vars any first taken ∙ count-any taken ∙ many in
    let pool = ap (λ (x : LaunchGraph). length x.pool) c.graph.ensures in
    let p = length g.pool in
    let q = c.registers-most.result in
    let sv = ap (λ m. at_most_vars q m) long ∙ c.registers-most.ensures.vars ∙ ap (λ x. at_most_vars x (c.len.result * k)) pool ∙ ap (at_most_vars p) (sym long) in
    let sc = λ (old : ℕ). c.registers-most.ensures.clauses old lits long ∙ ap (λ x. at_most_clauses old x lits) pool in
    let is = pool-by-numbers g k xs f table first n c.vars-first.ensures.value refl in
    let few = subst (λ (h : Formula). length h.clauses ≤ most_clauses) (sym is) c.requires.clauses in
    let limit = subst (λ (h : Formula). h.vars ≤ most_vars) (sym is) c.requires.vars in
    let size = c.counters_count.ensures.size in
    let f1 = c.add_vars.new.cnf in
    let e1 = c.add_vars.ensures ∙ ap {A = ℕ} {B = Formula} (λ m. record { vars = f.vars + m; clauses = f.clauses }) (sym many) in
    let v = ap (λ (h : Formula). h.vars) e1 in
    let w = c.vars-first.ensures.value in
    omega (arith, v, w)

pub add_takes-requires-clause-room : goal.add_takes-requires-clause-room
add_takes-requires-clause-room c =
    let g = c.args.plan.now.frame.facts.now in
    let table = c.args.plan.now.frame.table.now in
    let k = c.args.plan.now.frame.k in
    let f = c.args.cnf.now in
    let ls = c.args.plan.now.launches.now in
    let xs = numbered 0 ls in
    let first = c.vars-first.result in
    let taken = all_taken table k in
    let count = length table.slots * k in
    let n = f.vars + length taken in
    let us = numbered first taken in
    let T = pool_clauses g xs us in
    let lits = vars_of any us in
    let many : length taken ≡ c.len.result * k = taken-count table k ∙ ap (λ m. m * k) (sym c.len.ensures) in
    let are = c.in_ok-lits.ensures taken many in
    let long : length lits ≡ c.len.result * k = size-vars any first taken ∙ count-any taken ∙ many in
    let pool = ap (λ (x : LaunchGraph). length x.pool) c.graph.ensures in
    let p = length g.pool in
    let q = c.registers-most.result in
    let sv = ap (λ m. at_most_vars q m) long ∙ c.registers-most.ensures.vars ∙ ap (λ x. at_most_vars x (c.len.result * k)) pool ∙ ap (at_most_vars p) (sym long) in
    let sc = λ (old : ℕ). c.registers-most.ensures.clauses old lits long ∙ ap (λ x. at_most_clauses old x lits) pool in
    let is = pool-by-numbers g k xs f table first n c.vars-first.ensures.value refl in
    let few = subst (λ (h : Formula). length h.clauses ≤ most_clauses) (sym is) c.requires.clauses in
    let limit = subst (λ (h : Formula). h.vars ≤ most_vars) (sym is) c.requires.vars in
    let size = c.counters_count.ensures.size in
    let f1 = c.add_vars.new.cnf in
    let e1 = c.add_vars.ensures ∙ ap {A = ℕ} {B = Formula} (λ m. record { vars = f.vars + m; clauses = f.clauses }) (sym many) in
    pool-room1 lits T p q n f f1 f1 e1 sv sc size few

pub at_most-requires-clause-exist : goal.at_most-requires-clause-exist
at_most-requires-clause-exist c =
    let g = c.args.plan.now.frame.facts.now in
    let table = c.args.plan.now.frame.table.now in
    let k = c.args.plan.now.frame.k in
    let f = c.args.cnf.now in
    let ls = c.args.plan.now.launches.now in
    let xs = numbered 0 ls in
    let first = c.vars-first.result in
    let taken = all_taken table k in
    let count = length table.slots * k in
    let n = f.vars + length taken in
    let us = numbered first taken in
    let T = pool_clauses g xs us in
    let lits = vars_of any us in
    let many : length taken ≡ c.len.result * k = taken-count table k ∙ ap (λ m. m * k) (sym c.len.ensures) in
    let are = c.in_ok-lits.ensures taken many in
    let long : length lits ≡ c.len.result * k = size-vars any first taken ∙ count-any taken ∙ many in
    let pool = ap (λ (x : LaunchGraph). length x.pool) c.graph.ensures in
    let p = length g.pool in
    let q = c.registers-most.result in
    let sv = ap (λ m. at_most_vars q m) long ∙ c.registers-most.ensures.vars ∙ ap (λ x. at_most_vars x (c.len.result * k)) pool ∙ ap (at_most_vars p) (sym long) in
    let sc = λ (old : ℕ). c.registers-most.ensures.clauses old lits long ∙ ap (λ x. at_most_clauses old x lits) pool in
    let is = pool-by-numbers g k xs f table first n c.vars-first.ensures.value refl in
    let few = subst (λ (h : Formula). length h.clauses ≤ most_clauses) (sym is) c.requires.clauses in
    let limit = subst (λ (h : Formula). h.vars ≤ most_vars) (sym is) c.requires.vars in
    let size = c.counters_count.ensures.size in
    let f1 = c.add_vars.new.cnf in
    let e1 = c.add_vars.ensures ∙ ap {A = ℕ} {B = Formula} (λ m. record { vars = f.vars + m; clauses = f.clauses }) (sym many) in
    let f2 = c.add_takes.new.cnf in
    let e2 = c.in_ok-add_takes.ensures in
    let v = pool-vars2 lits T p q n f f1 f2 e1 sv sc e2 in
    let w = c.vars-first.ensures.value in
    subst (λ (l : List Lit). All (IsLitOf f2.vars) l) (sym (c.deref.ensures.value ∙ are)) (vars-over any first f2.vars taken (omega (arith, v, w)))

pub at_most-requires-clause-short : goal.at_most-requires-clause-short
at_most-requires-clause-short c =
    let g = c.args.plan.now.frame.facts.now in
    let table = c.args.plan.now.frame.table.now in
    let k = c.args.plan.now.frame.k in
    let f = c.args.cnf.now in
    let ls = c.args.plan.now.launches.now in
    let xs = numbered 0 ls in
    let first = c.vars-first.result in
    let taken = all_taken table k in
    let count = length table.slots * k in
    let n = f.vars + length taken in
    let us = numbered first taken in
    let T = pool_clauses g xs us in
    let lits = vars_of any us in
    let many : length taken ≡ c.len.result * k = taken-count table k ∙ ap (λ m. m * k) (sym c.len.ensures) in
    let are = c.in_ok-lits.ensures taken many in
    let long : length lits ≡ c.len.result * k = size-vars any first taken ∙ count-any taken ∙ many in
    let pool = ap (λ (x : LaunchGraph). length x.pool) c.graph.ensures in
    let p = length g.pool in
    let q = c.registers-most.result in
    let sv = ap (λ m. at_most_vars q m) long ∙ c.registers-most.ensures.vars ∙ ap (λ x. at_most_vars x (c.len.result * k)) pool ∙ ap (at_most_vars p) (sym long) in
    let sc = λ (old : ℕ). c.registers-most.ensures.clauses old lits long ∙ ap (λ x. at_most_clauses old x lits) pool in
    let is = pool-by-numbers g k xs f table first n c.vars-first.ensures.value refl in
    let few = subst (λ (h : Formula). length h.clauses ≤ most_clauses) (sym is) c.requires.clauses in
    let limit = subst (λ (h : Formula). h.vars ≤ most_vars) (sym is) c.requires.vars in
    let size = c.counters_count.ensures.size in
    let f1 = c.add_vars.new.cnf in
    let e1 = c.add_vars.ensures ∙ ap {A = ℕ} {B = Formula} (λ m. record { vars = f.vars + m; clauses = f.clauses }) (sym many) in
    let b = ap (λ (l : List Lit). length l) (c.deref.ensures.value ∙ are) in
    omega (arith, b, long, many, limit)

pub at_most-requires-clause-vars : goal.at_most-requires-clause-vars
at_most-requires-clause-vars c =
    let g = c.args.plan.now.frame.facts.now in
    let table = c.args.plan.now.frame.table.now in
    let k = c.args.plan.now.frame.k in
    let f = c.args.cnf.now in
    let ls = c.args.plan.now.launches.now in
    let xs = numbered 0 ls in
    let first = c.vars-first.result in
    let taken = all_taken table k in
    let count = length table.slots * k in
    let n = f.vars + length taken in
    let us = numbered first taken in
    let T = pool_clauses g xs us in
    let lits = vars_of any us in
    let many : length taken ≡ c.len.result * k = taken-count table k ∙ ap (λ m. m * k) (sym c.len.ensures) in
    let are = c.in_ok-lits.ensures taken many in
    let long : length lits ≡ c.len.result * k = size-vars any first taken ∙ count-any taken ∙ many in
    let pool = ap (λ (x : LaunchGraph). length x.pool) c.graph.ensures in
    let p = length g.pool in
    let q = c.registers-most.result in
    let sv = ap (λ m. at_most_vars q m) long ∙ c.registers-most.ensures.vars ∙ ap (λ x. at_most_vars x (c.len.result * k)) pool ∙ ap (at_most_vars p) (sym long) in
    let sc = λ (old : ℕ). c.registers-most.ensures.clauses old lits long ∙ ap (λ x. at_most_clauses old x lits) pool in
    let is = pool-by-numbers g k xs f table first n c.vars-first.ensures.value refl in
    let few = subst (λ (h : Formula). length h.clauses ≤ most_clauses) (sym is) c.requires.clauses in
    let limit = subst (λ (h : Formula). h.vars ≤ most_vars) (sym is) c.requires.vars in
    let size = c.counters_count.ensures.size in
    let f1 = c.add_vars.new.cnf in
    let e1 = c.add_vars.ensures ∙ ap {A = ℕ} {B = Formula} (λ m. record { vars = f.vars + m; clauses = f.clauses }) (sym many) in
    let f2 = c.add_takes.new.cnf in
    let e2 = c.in_ok-add_takes.ensures in
    let v = pool-limit lits T p q n f f1 f2 e1 sv sc e2 limit in
    let b = ap (λ (l : List Lit). at_most_vars q (length l)) (c.deref.ensures.value ∙ are) in
    omega (arith, v, b)

pub at_most-requires-clause-room : goal.at_most-requires-clause-room
at_most-requires-clause-room c =
    let g = c.args.plan.now.frame.facts.now in
    let table = c.args.plan.now.frame.table.now in
    let k = c.args.plan.now.frame.k in
    let f = c.args.cnf.now in
    let ls = c.args.plan.now.launches.now in
    let xs = numbered 0 ls in
    let first = c.vars-first.result in
    let taken = all_taken table k in
    let count = length table.slots * k in
    let n = f.vars + length taken in
    let us = numbered first taken in
    let T = pool_clauses g xs us in
    let lits = vars_of any us in
    let many : length taken ≡ c.len.result * k = taken-count table k ∙ ap (λ m. m * k) (sym c.len.ensures) in
    let are = c.in_ok-lits.ensures taken many in
    let long : length lits ≡ c.len.result * k = size-vars any first taken ∙ count-any taken ∙ many in
    let pool = ap (λ (x : LaunchGraph). length x.pool) c.graph.ensures in
    let p = length g.pool in
    let q = c.registers-most.result in
    let sv = ap (λ m. at_most_vars q m) long ∙ c.registers-most.ensures.vars ∙ ap (λ x. at_most_vars x (c.len.result * k)) pool ∙ ap (at_most_vars p) (sym long) in
    let sc = λ (old : ℕ). c.registers-most.ensures.clauses old lits long ∙ ap (λ x. at_most_clauses old x lits) pool in
    let is = pool-by-numbers g k xs f table first n c.vars-first.ensures.value refl in
    let few = subst (λ (h : Formula). length h.clauses ≤ most_clauses) (sym is) c.requires.clauses in
    let limit = subst (λ (h : Formula). h.vars ≤ most_vars) (sym is) c.requires.vars in
    let size = c.counters_count.ensures.size in
    let f1 = c.add_vars.new.cnf in
    let e1 = c.add_vars.ensures ∙ ap {A = ℕ} {B = Formula} (λ m. record { vars = f.vars + m; clauses = f.clauses }) (sym many) in
    let f2 = c.add_takes.new.cnf in
    let e2 = c.in_ok-add_takes.ensures in
    let v = pool-room2 lits T p q n f f1 f2 e1 sv sc size few e2 in
    let b = ap (λ (l : List Lit). at_most_size q (length l)) (c.deref.ensures.value ∙ are) in
    omega (arith, v, b)

pub returns : goal.returns
returns c =
    let g = c.args.plan.now.frame.facts.now in
    let table = c.args.plan.now.frame.table.now in
    let k = c.args.plan.now.frame.k in
    let f = c.args.cnf.now in
    let ls = c.args.plan.now.launches.now in
    let xs = numbered 0 ls in
    let first = c.vars-first.result in
    let taken = all_taken table k in
    let count = length table.slots * k in
    let n = f.vars + length taken in
    let us = numbered first taken in
    let T = pool_clauses g xs us in
    let lits = vars_of any us in
    let many : length taken ≡ c.len.result * k = taken-count table k ∙ ap (λ m. m * k) (sym c.len.ensures) in
    let are = c.in_ok-lits.ensures taken many in
    let long : length lits ≡ c.len.result * k = size-vars any first taken ∙ count-any taken ∙ many in
    let pool = ap (λ (x : LaunchGraph). length x.pool) c.graph.ensures in
    let p = length g.pool in
    let q = c.registers-most.result in
    let sv = ap (λ m. at_most_vars q m) long ∙ c.registers-most.ensures.vars ∙ ap (λ x. at_most_vars x (c.len.result * k)) pool ∙ ap (at_most_vars p) (sym long) in
    let sc = λ (old : ℕ). c.registers-most.ensures.clauses old lits long ∙ ap (λ x. at_most_clauses old x lits) pool in
    let is = pool-by-numbers g k xs f table first n c.vars-first.ensures.value refl in
    let few = subst (λ (h : Formula). length h.clauses ≤ most_clauses) (sym is) c.requires.clauses in
    let limit = subst (λ (h : Formula). h.vars ≤ most_vars) (sym is) c.requires.vars in
    let size = c.counters_count.ensures.size in
    let f1 = c.add_vars.new.cnf in
    let e1 = c.add_vars.ensures ∙ ap {A = ℕ} {B = Formula} (λ m. record { vars = f.vars + m; clauses = f.clauses }) (sym many) in
    let f2 = c.add_takes.new.cnf in
    let e2 = c.in_ok-add_takes.ensures in
    let counted = λ (l : List Lit). the_formula (f2.vars + at_most_vars q (length l)) (f2.clauses ++ at_most_clauses f2.vars q l) in
    then_same c.at_most.result c.at_most.new.cnf (counted c.deref.result.now) (formula_with_registers g k xs f table) (ap (λ (l : List Lit). counted l) (c.deref.ensures.value ∙ are) ∙ pool-ends lits T p q n f f1 f2 e1 sv sc e2 ∙ is) c.at_most.ensures.exact
