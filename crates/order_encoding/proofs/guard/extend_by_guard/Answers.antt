use Rattle.std.proofs.Common.{◌∙◌, ◌+◌, ◌∷◌, [], ◌≤◌, ℕ, List, map, refl, sym, ap, subst, arith}
use Rattle.std.specs.Prelude.{length, All}
use Rattle.std.specs.List.{range_with_len}
use Rattle.cycle_encoding.specs.Limits.{most_vars, most_clauses}
use Rattle.cnf_core.specs.declared.literal.Lit.{Lit}
use Rattle.cnf_core.specs.Formula.{Formula, IsLitOf}
use Rattle.cnf_core.specs.Counter.{at_most_vars, at_most_size}
use Rattle.schedule_meaning.specs.Launches.{launches, is_branch}
use Rattle.schedule_meaning.specs.declared.schedules.Launch.{Launch}
use Rattle.cycle_encoding.specs.Shapes.{numbered, positive, implied, vars_of}
use Rattle.cycle_encoding.specs.Steps.{with_clauses}
use Rattle.cycle_encoding.proofs.Blocks.{vars-over}
use Rattle.cycle_encoding.proofs.Rows.{counted, vars-short}
use Rattle.order_encoding.specs.OrderFamilies.{branches_by, comes_after}
use Rattle.order_encoding.specs.WholeFormula.{formula_with_guard}
use Rattle.order_encoding.proofs.AddSteps.{then_same}
use Rattle.order_encoding.proofs.Found.{found_vars}
use Rattle.order_encoding.proofs.Extended.{branch-room2, branch-room3, branch-room4, branch-vars2, branch-limit, branch-vars4, branch-ends, guard-by-numbers, has_guard}
use Rattle.order_encoding.proofs.guard.extend_by_guard.Goals as goal

pub add_vars-requires : goal.add_vars-requires
add_vars-requires c =
    let g = c.args.plan.now.frame.facts.now in
    let k = c.args.plan.now.frame.k in
    let f = c.args.cnf.now in
    let ls = c.args.plan.now.launches.now in
    let xs = numbered 0 ls in
    let first = c.vars-first.result in
    let n = f.vars + k in
    let bs = numbered first (range_with_len 0 k) in
    let W = implied xs (comes_after g bs) in
    let C = implied bs (λ (t : ℕ). vars_of (branches_by g t) xs ∷ []) in
    let lits = c.in_ok-lits.lits.items in
    let are = c.in_ok-lits.ensures ∙ ap (λ (ps : List (ℕ × Launch)). map (λ p. positive p.0) ps) (c.deref.ensures.value ∙ c.in_ok-found.ensures) ∙ found_vars g is_branch ls in
    let is = guard-by-numbers g k xs f first n lits (has_guard g c.graph.result.now c.is_none.result c.graph.ensures c.is_none.ensures c.if-is_none.false) c.vars-first.ensures.value refl are in
    let few = subst (λ (h : Formula). length h.clauses ≤ most_clauses) (sym is) c.requires.clauses in
    let limit = subst (λ (h : Formula). h.vars ≤ most_vars) (sym is) c.requires.vars in
    let size = c.counters_count.ensures.size in
    omega arith

pub add-requires-clause-exist : goal.add-requires-clause-exist
add-requires-clause-exist c =
    let g = c.args.plan.now.frame.facts.now in
    let k = c.args.plan.now.frame.k in
    let f = c.args.cnf.now in
    let ls = c.args.plan.now.launches.now in
    let xs = numbered 0 ls in
    let first = c.vars-first.result in
    let n = f.vars + k in
    let bs = numbered first (range_with_len 0 k) in
    let W = implied xs (comes_after g bs) in
    let C = implied bs (λ (t : ℕ). vars_of (branches_by g t) xs ∷ []) in
    let lits = c.in_ok-lits.lits.items in
    let are = c.in_ok-lits.ensures ∙ ap (λ (ps : List (ℕ × Launch)). map (λ p. positive p.0) ps) (c.deref.ensures.value ∙ c.in_ok-found.ensures) ∙ found_vars g is_branch ls in
    let is = guard-by-numbers g k xs f first n lits (has_guard g c.graph.result.now c.is_none.result c.graph.ensures c.is_none.ensures c.if-is_none.false) c.vars-first.ensures.value refl are in
    let few = subst (λ (h : Formula). length h.clauses ≤ most_clauses) (sym is) c.requires.clauses in
    let limit = subst (λ (h : Formula). h.vars ≤ most_vars) (sym is) c.requires.vars in
    let size = c.counters_count.ensures.size in
    let f1 = c.add_vars.new.cnf in
    let e1 = c.add_vars.ensures in
    let v = ap (λ (h : Formula). h.vars) e1 in
    let exist = c.requires.exist in
    subst (λ (l : List Lit). All (IsLitOf f1.vars) l) (sym (c.deref-2.ensures.value ∙ are)) (vars-over (launches g is_branch) 0 f1.vars ls (omega arith))

pub at_most_one-requires-clause-exist : goal.at_most_one-requires-clause-exist
at_most_one-requires-clause-exist c =
    let g = c.args.plan.now.frame.facts.now in
    let k = c.args.plan.now.frame.k in
    let f = c.args.cnf.now in
    let ls = c.args.plan.now.launches.now in
    let xs = numbered 0 ls in
    let first = c.vars-first.result in
    let n = f.vars + k in
    let bs = numbered first (range_with_len 0 k) in
    let W = implied xs (comes_after g bs) in
    let C = implied bs (λ (t : ℕ). vars_of (branches_by g t) xs ∷ []) in
    let lits = c.in_ok-lits.lits.items in
    let are = c.in_ok-lits.ensures ∙ ap (λ (ps : List (ℕ × Launch)). map (λ p. positive p.0) ps) (c.deref.ensures.value ∙ c.in_ok-found.ensures) ∙ found_vars g is_branch ls in
    let is = guard-by-numbers g k xs f first n lits (has_guard g c.graph.result.now c.is_none.result c.graph.ensures c.is_none.ensures c.if-is_none.false) c.vars-first.ensures.value refl are in
    let few = subst (λ (h : Formula). length h.clauses ≤ most_clauses) (sym is) c.requires.clauses in
    let limit = subst (λ (h : Formula). h.vars ≤ most_vars) (sym is) c.requires.vars in
    let size = c.counters_count.ensures.size in
    let f1 = c.add_vars.new.cnf in
    let e1 = c.add_vars.ensures in
    let f2 = c.add.new.self in
    let e2 = c.in_ok-add.ensures.ok ∙ ap (λ (l : List Lit). with_clauses f1 (l ∷ [])) c.deref-2.ensures.value in
    let v = branch-vars2 lits W C n f f1 f2 f2 f2 e1 e2 in
    let exist = c.requires.exist in
    subst (λ (l : List Lit). All (IsLitOf f2.vars) l) (sym (c.deref-3.ensures.value ∙ are)) (vars-over (launches g is_branch) 0 f2.vars ls (omega arith))

pub at_most_one-requires-clause-short : goal.at_most_one-requires-clause-short
at_most_one-requires-clause-short c =
    let g = c.args.plan.now.frame.facts.now in
    let k = c.args.plan.now.frame.k in
    let f = c.args.cnf.now in
    let ls = c.args.plan.now.launches.now in
    let xs = numbered 0 ls in
    let first = c.vars-first.result in
    let n = f.vars + k in
    let bs = numbered first (range_with_len 0 k) in
    let W = implied xs (comes_after g bs) in
    let C = implied bs (λ (t : ℕ). vars_of (branches_by g t) xs ∷ []) in
    let lits = c.in_ok-lits.lits.items in
    let are = c.in_ok-lits.ensures ∙ ap (λ (ps : List (ℕ × Launch)). map (λ p. positive p.0) ps) (c.deref.ensures.value ∙ c.in_ok-found.ensures) ∙ found_vars g is_branch ls in
    let is = guard-by-numbers g k xs f first n lits (has_guard g c.graph.result.now c.is_none.result c.graph.ensures c.is_none.ensures c.if-is_none.false) c.vars-first.ensures.value refl are in
    let few = subst (λ (h : Formula). length h.clauses ≤ most_clauses) (sym is) c.requires.clauses in
    let limit = subst (λ (h : Formula). h.vars ≤ most_vars) (sym is) c.requires.vars in
    let size = c.counters_count.ensures.size in
    let f1 = c.add_vars.new.cnf in
    let e1 = c.add_vars.ensures in
    let a = vars-short (launches g is_branch) 0 ls in
    let b = ap (λ (l : List Lit). length l) (c.deref-3.ensures.value ∙ are) in
    let exist = c.requires.exist in
    omega arith

pub at_most_one-requires-clause-vars : goal.at_most_one-requires-clause-vars
at_most_one-requires-clause-vars c =
    let g = c.args.plan.now.frame.facts.now in
    let k = c.args.plan.now.frame.k in
    let f = c.args.cnf.now in
    let ls = c.args.plan.now.launches.now in
    let xs = numbered 0 ls in
    let first = c.vars-first.result in
    let n = f.vars + k in
    let bs = numbered first (range_with_len 0 k) in
    let W = implied xs (comes_after g bs) in
    let C = implied bs (λ (t : ℕ). vars_of (branches_by g t) xs ∷ []) in
    let lits = c.in_ok-lits.lits.items in
    let are = c.in_ok-lits.ensures ∙ ap (λ (ps : List (ℕ × Launch)). map (λ p. positive p.0) ps) (c.deref.ensures.value ∙ c.in_ok-found.ensures) ∙ found_vars g is_branch ls in
    let is = guard-by-numbers g k xs f first n lits (has_guard g c.graph.result.now c.is_none.result c.graph.ensures c.is_none.ensures c.if-is_none.false) c.vars-first.ensures.value refl are in
    let few = subst (λ (h : Formula). length h.clauses ≤ most_clauses) (sym is) c.requires.clauses in
    let limit = subst (λ (h : Formula). h.vars ≤ most_vars) (sym is) c.requires.vars in
    let size = c.counters_count.ensures.size in
    let f1 = c.add_vars.new.cnf in
    let e1 = c.add_vars.ensures in
    let f2 = c.add.new.self in
    let e2 = c.in_ok-add.ensures.ok ∙ ap (λ (l : List Lit). with_clauses f1 (l ∷ [])) c.deref-2.ensures.value in
    let v = branch-limit lits W C n f f1 f2 f2 f2 e1 e2 limit in
    let b = ap (λ (l : List Lit). at_most_vars 1 (length l)) c.deref-3.ensures.value in
    omega arith

pub at_most_one-requires-clause-room : goal.at_most_one-requires-clause-room
at_most_one-requires-clause-room c =
    let g = c.args.plan.now.frame.facts.now in
    let k = c.args.plan.now.frame.k in
    let f = c.args.cnf.now in
    let ls = c.args.plan.now.launches.now in
    let xs = numbered 0 ls in
    let first = c.vars-first.result in
    let n = f.vars + k in
    let bs = numbered first (range_with_len 0 k) in
    let W = implied xs (comes_after g bs) in
    let C = implied bs (λ (t : ℕ). vars_of (branches_by g t) xs ∷ []) in
    let lits = c.in_ok-lits.lits.items in
    let are = c.in_ok-lits.ensures ∙ ap (λ (ps : List (ℕ × Launch)). map (λ p. positive p.0) ps) (c.deref.ensures.value ∙ c.in_ok-found.ensures) ∙ found_vars g is_branch ls in
    let is = guard-by-numbers g k xs f first n lits (has_guard g c.graph.result.now c.is_none.result c.graph.ensures c.is_none.ensures c.if-is_none.false) c.vars-first.ensures.value refl are in
    let few = subst (λ (h : Formula). length h.clauses ≤ most_clauses) (sym is) c.requires.clauses in
    let limit = subst (λ (h : Formula). h.vars ≤ most_vars) (sym is) c.requires.vars in
    let size = c.counters_count.ensures.size in
    let f1 = c.add_vars.new.cnf in
    let e1 = c.add_vars.ensures in
    let f2 = c.add.new.self in
    let e2 = c.in_ok-add.ensures.ok ∙ ap (λ (l : List Lit). with_clauses f1 (l ∷ [])) c.deref-2.ensures.value in
    let v = branch-room2 lits W C n f f1 f2 f2 f2 e1 size few e2 in
    let b = ap (λ (l : List Lit). at_most_size 1 (length l)) c.deref-3.ensures.value in
    omega arith

pub add_waits-requires-clause-few : goal.add_waits-requires-clause-few
add_waits-requires-clause-few c =
    let g = c.args.plan.now.frame.facts.now in
    let k = c.args.plan.now.frame.k in
    let f = c.args.cnf.now in
    let ls = c.args.plan.now.launches.now in
    let xs = numbered 0 ls in
    let first = c.vars-first.result in
    let n = f.vars + k in
    let bs = numbered first (range_with_len 0 k) in
    let W = implied xs (comes_after g bs) in
    let C = implied bs (λ (t : ℕ). vars_of (branches_by g t) xs ∷ []) in
    let lits = c.in_ok-lits.lits.items in
    let are = c.in_ok-lits.ensures ∙ ap (λ (ps : List (ℕ × Launch)). map (λ p. positive p.0) ps) (c.deref.ensures.value ∙ c.in_ok-found.ensures) ∙ found_vars g is_branch ls in
    let is = guard-by-numbers g k xs f first n lits (has_guard g c.graph.result.now c.is_none.result c.graph.ensures c.is_none.ensures c.if-is_none.false) c.vars-first.ensures.value refl are in
    let few = subst (λ (h : Formula). length h.clauses ≤ most_clauses) (sym is) c.requires.clauses in
    let limit = subst (λ (h : Formula). h.vars ≤ most_vars) (sym is) c.requires.vars in
    let size = c.counters_count.ensures.size in
    let f1 = c.add_vars.new.cnf in
    let e1 = c.add_vars.ensures in
    let f2 = c.add.new.self in
    let e2 = c.in_ok-add.ensures.ok ∙ ap (λ (l : List Lit). with_clauses f1 (l ∷ [])) c.deref-2.ensures.value in
    let f3 = c.at_most_one.new.cnf in
    let e3 = c.in_ok-at_most_one.ensures.exact ∙ ap (λ (l : List Lit). counted f2 l) c.deref-3.ensures.value in
    let v = branch-vars4 lits W C n f f1 f2 f3 (with_clauses f3 W) e1 e2 e3 refl in
    omega arith

pub add_waits-requires-clause-room : goal.add_waits-requires-clause-room
add_waits-requires-clause-room c =
    let g = c.args.plan.now.frame.facts.now in
    let k = c.args.plan.now.frame.k in
    let f = c.args.cnf.now in
    let ls = c.args.plan.now.launches.now in
    let xs = numbered 0 ls in
    let first = c.vars-first.result in
    let n = f.vars + k in
    let bs = numbered first (range_with_len 0 k) in
    let W = implied xs (comes_after g bs) in
    let C = implied bs (λ (t : ℕ). vars_of (branches_by g t) xs ∷ []) in
    let lits = c.in_ok-lits.lits.items in
    let are = c.in_ok-lits.ensures ∙ ap (λ (ps : List (ℕ × Launch)). map (λ p. positive p.0) ps) (c.deref.ensures.value ∙ c.in_ok-found.ensures) ∙ found_vars g is_branch ls in
    let is = guard-by-numbers g k xs f first n lits (has_guard g c.graph.result.now c.is_none.result c.graph.ensures c.is_none.ensures c.if-is_none.false) c.vars-first.ensures.value refl are in
    let few = subst (λ (h : Formula). length h.clauses ≤ most_clauses) (sym is) c.requires.clauses in
    let limit = subst (λ (h : Formula). h.vars ≤ most_vars) (sym is) c.requires.vars in
    let size = c.counters_count.ensures.size in
    let f1 = c.add_vars.new.cnf in
    let e1 = c.add_vars.ensures in
    let f2 = c.add.new.self in
    let e2 = c.in_ok-add.ensures.ok ∙ ap (λ (l : List Lit). with_clauses f1 (l ∷ [])) c.deref-2.ensures.value in
    let f3 = c.at_most_one.new.cnf in
    let e3 = c.in_ok-at_most_one.ensures.exact ∙ ap (λ (l : List Lit). counted f2 l) c.deref-3.ensures.value in
    branch-room3 lits W C n f f1 f2 f3 f3 e1 size few e2 e3

pub add_comes-requires-clause-few : goal.add_comes-requires-clause-few
add_comes-requires-clause-few c =
    let g = c.args.plan.now.frame.facts.now in
    let k = c.args.plan.now.frame.k in
    let f = c.args.cnf.now in
    let ls = c.args.plan.now.launches.now in
    let xs = numbered 0 ls in
    let first = c.vars-first.result in
    let n = f.vars + k in
    let bs = numbered first (range_with_len 0 k) in
    let W = implied xs (comes_after g bs) in
    let C = implied bs (λ (t : ℕ). vars_of (branches_by g t) xs ∷ []) in
    let lits = c.in_ok-lits.lits.items in
    let are = c.in_ok-lits.ensures ∙ ap (λ (ps : List (ℕ × Launch)). map (λ p. positive p.0) ps) (c.deref.ensures.value ∙ c.in_ok-found.ensures) ∙ found_vars g is_branch ls in
    let is = guard-by-numbers g k xs f first n lits (has_guard g c.graph.result.now c.is_none.result c.graph.ensures c.is_none.ensures c.if-is_none.false) c.vars-first.ensures.value refl are in
    let few = subst (λ (h : Formula). length h.clauses ≤ most_clauses) (sym is) c.requires.clauses in
    let limit = subst (λ (h : Formula). h.vars ≤ most_vars) (sym is) c.requires.vars in
    let size = c.counters_count.ensures.size in
    let f1 = c.add_vars.new.cnf in
    let e1 = c.add_vars.ensures in
    let f2 = c.add.new.self in
    let e2 = c.in_ok-add.ensures.ok ∙ ap (λ (l : List Lit). with_clauses f1 (l ∷ [])) c.deref-2.ensures.value in
    let f3 = c.at_most_one.new.cnf in
    let e3 = c.in_ok-at_most_one.ensures.exact ∙ ap (λ (l : List Lit). counted f2 l) c.deref-3.ensures.value in
    let f4 = c.add_waits.new.cnf in
    let e4 = c.in_ok-add_waits.ensures in
    let v = branch-vars4 lits W C n f f1 f2 f3 f4 e1 e2 e3 e4 in
    omega arith

pub add_comes-requires-clause-room : goal.add_comes-requires-clause-room
add_comes-requires-clause-room c =
    let g = c.args.plan.now.frame.facts.now in
    let k = c.args.plan.now.frame.k in
    let f = c.args.cnf.now in
    let ls = c.args.plan.now.launches.now in
    let xs = numbered 0 ls in
    let first = c.vars-first.result in
    let n = f.vars + k in
    let bs = numbered first (range_with_len 0 k) in
    let W = implied xs (comes_after g bs) in
    let C = implied bs (λ (t : ℕ). vars_of (branches_by g t) xs ∷ []) in
    let lits = c.in_ok-lits.lits.items in
    let are = c.in_ok-lits.ensures ∙ ap (λ (ps : List (ℕ × Launch)). map (λ p. positive p.0) ps) (c.deref.ensures.value ∙ c.in_ok-found.ensures) ∙ found_vars g is_branch ls in
    let is = guard-by-numbers g k xs f first n lits (has_guard g c.graph.result.now c.is_none.result c.graph.ensures c.is_none.ensures c.if-is_none.false) c.vars-first.ensures.value refl are in
    let few = subst (λ (h : Formula). length h.clauses ≤ most_clauses) (sym is) c.requires.clauses in
    let limit = subst (λ (h : Formula). h.vars ≤ most_vars) (sym is) c.requires.vars in
    let size = c.counters_count.ensures.size in
    let f1 = c.add_vars.new.cnf in
    let e1 = c.add_vars.ensures in
    let f2 = c.add.new.self in
    let e2 = c.in_ok-add.ensures.ok ∙ ap (λ (l : List Lit). with_clauses f1 (l ∷ [])) c.deref-2.ensures.value in
    let f3 = c.at_most_one.new.cnf in
    let e3 = c.in_ok-at_most_one.ensures.exact ∙ ap (λ (l : List Lit). counted f2 l) c.deref-3.ensures.value in
    let f4 = c.add_waits.new.cnf in
    let e4 = c.in_ok-add_waits.ensures in
    branch-room4 lits W C n f f1 f2 f3 f4 e1 size few e2 e3 e4

pub returns : goal.returns
returns c =
    let g = c.args.plan.now.frame.facts.now in
    let k = c.args.plan.now.frame.k in
    let f = c.args.cnf.now in
    let ls = c.args.plan.now.launches.now in
    let xs = numbered 0 ls in
    let first = c.vars-first.result in
    let n = f.vars + k in
    let bs = numbered first (range_with_len 0 k) in
    let W = implied xs (comes_after g bs) in
    let C = implied bs (λ (t : ℕ). vars_of (branches_by g t) xs ∷ []) in
    let lits = c.in_ok-lits.lits.items in
    let are = c.in_ok-lits.ensures ∙ ap (λ (ps : List (ℕ × Launch)). map (λ p. positive p.0) ps) (c.deref.ensures.value ∙ c.in_ok-found.ensures) ∙ found_vars g is_branch ls in
    let is = guard-by-numbers g k xs f first n lits (has_guard g c.graph.result.now c.is_none.result c.graph.ensures c.is_none.ensures c.if-is_none.false) c.vars-first.ensures.value refl are in
    let few = subst (λ (h : Formula). length h.clauses ≤ most_clauses) (sym is) c.requires.clauses in
    let limit = subst (λ (h : Formula). h.vars ≤ most_vars) (sym is) c.requires.vars in
    let size = c.counters_count.ensures.size in
    let f1 = c.add_vars.new.cnf in
    let e1 = c.add_vars.ensures in
    let f2 = c.add.new.self in
    let e2 = c.in_ok-add.ensures.ok ∙ ap (λ (l : List Lit). with_clauses f1 (l ∷ [])) c.deref-2.ensures.value in
    let f3 = c.at_most_one.new.cnf in
    let e3 = c.in_ok-at_most_one.ensures.exact ∙ ap (λ (l : List Lit). counted f2 l) c.deref-3.ensures.value in
    let f4 = c.add_waits.new.cnf in
    let e4 = c.in_ok-add_waits.ensures in
    then_same c.add_comes.result c.add_comes.new.cnf (with_clauses f4 C) (formula_with_guard g k xs f) (branch-ends lits W C n f f1 f2 f3 f4 e1 e2 e3 e4 ∙ is) c.add_comes.ensures
