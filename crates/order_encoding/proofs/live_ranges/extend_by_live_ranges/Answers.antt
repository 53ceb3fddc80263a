use Rattle.std.proofs.Common.{◌≡◌, ◌∙◌, ◌+◌, ◌++◌, ◌≤◌, ℕ, refl, sym, ap, subst, arith}
use Rattle.std.specs.Prelude.{length}
use Rattle.cycle_encoding.specs.Limits.{most_vars, most_clauses}
use Rattle.schedule_meaning.specs.Limits.{most_cycles}
use Rattle.cnf_core.specs.Formula.{Formula}
use Rattle.cycle_encoding.specs.Shapes.{counters, counters_vars, numbered}
use Rattle.cycle_encoding.specs.Steps.{with_clauses}
use Rattle.cycle_encoding.specs.Variables.{all_overwritten}
use Rattle.order_encoding.specs.LiveVariables.{all_holds, all_needs, pooled_classes}
use Rattle.order_encoding.specs.LiveFamilies.{need_clauses, earlier_clauses, last_need_clauses, hold_clauses, hold_groups}
use Rattle.order_encoding.specs.WholeFormula.{formula_with_live_ranges}
use Rattle.order_encoding.proofs.AddSteps.{then_same, vars_and_vars}
use Rattle.order_encoding.proofs.HoldPlaces.{holds-are-counted}
use Rattle.order_encoding.proofs.LiveExtended.{live-by-steps, live-ends, room1, room2, room3, room4, room5, vars2, vars3, vars4, vars5}
use Rattle.order_encoding.proofs.live_ranges.extend_by_live_ranges.Goals as goal

pub needs_count-requires-clause-few : goal.needs_count-requires-clause-few
needs_count-requires-clause-few c =
    let g = c.args.plan.now.frame.facts.now in
    let k = c.args.plan.now.frame.k in
    let f = c.args.cnf.now in
    let table = c.args.plan.now.frame.table.now in
    let xs = numbered 0 c.args.plan.now.launches.now in
    let vs = numbered c.args.plan.now.over.now.first (all_overwritten g k) in
    let nv = c.in_ok-needs.needs in
    let same : nv.cycles ≡ k = c.in_ok-needs.ensures.cycles in
    let ov = c.args.plan.now.over.now in
    let us = numbered ov.first (all_overwritten g ov.cycles) in
    let at : ov.first ≡ c.args.plan.now.over.now.first = refl in
    let oc : ov.cycles ≡ k = c.requires.over.cycles_are in
    let over : us ≡ vs = ap (λ a. numbered a (all_overwritten g ov.cycles)) at ∙ ap (λ a. numbered c.args.plan.now.over.now.first (all_overwritten g a)) oc in
    let needs = all_needs nv.cycles (pooled_classes g xs) in
    let holds = all_holds table nv.cycles in
    let n = f.vars + length needs + length holds in
    let fe : nv.first ≡ f.vars = c.in_ok-needs.ensures.first ∙ c.vars-first.ensures.value in
    let is = live-by-steps g k xs f table vs nv.cycles us nv.first (f.vars + length needs) n same over fe refl refl in
    let limit = subst (λ (h : Formula). h.vars ≤ most_vars) (sym is) c.requires.vars in
    omega (arith, limit)

pub add_vars-requires : goal.add_vars-requires
add_vars-requires c =
    let g = c.args.plan.now.frame.facts.now in
    let k = c.args.plan.now.frame.k in
    let f = c.args.cnf.now in
    let table = c.args.plan.now.frame.table.now in
    let xs = numbered 0 c.args.plan.now.launches.now in
    let vs = numbered c.args.plan.now.over.now.first (all_overwritten g k) in
    let nv = c.in_ok-needs.needs in
    let same : nv.cycles ≡ k = c.in_ok-needs.ensures.cycles in
    let ov = c.args.plan.now.over.now in
    let us = numbered ov.first (all_overwritten g ov.cycles) in
    let at : ov.first ≡ c.args.plan.now.over.now.first = refl in
    let oc : ov.cycles ≡ k = c.requires.over.cycles_are in
    let over : us ≡ vs = ap (λ a. numbered a (all_overwritten g ov.cycles)) at ∙ ap (λ a. numbered c.args.plan.now.over.now.first (all_overwritten g a)) oc in
    let needs = all_needs nv.cycles (pooled_classes g xs) in
    let holds = all_holds table nv.cycles in
    let n = f.vars + length needs + length holds in
    let fe : nv.first ≡ f.vars = c.in_ok-needs.ensures.first ∙ c.vars-first.ensures.value in
    let is = live-by-steps g k xs f table vs nv.cycles us nv.first (f.vars + length needs) n same over fe refl refl in
    let limit = subst (λ (h : Formula). h.vars ≤ most_vars) (sym is) c.requires.vars in
    let count : c.needs_count.result ≡ length needs = c.needs_count.ensures in
    omega (arith, limit, count)

pub add_vars-requires-2 : goal.add_vars-requires-2
add_vars-requires-2 c =
    let g = c.args.plan.now.frame.facts.now in
    let k = c.args.plan.now.frame.k in
    let f = c.args.cnf.now in
    let table = c.args.plan.now.frame.table.now in
    let xs = numbered 0 c.args.plan.now.launches.now in
    let vs = numbered c.args.plan.now.over.now.first (all_overwritten g k) in
    let nv = c.in_ok-needs.needs in
    let same : nv.cycles ≡ k = c.in_ok-needs.ensures.cycles in
    let ov = c.args.plan.now.over.now in
    let us = numbered ov.first (all_overwritten g ov.cycles) in
    let at : ov.first ≡ c.args.plan.now.over.now.first = refl in
    let oc : ov.cycles ≡ k = c.requires.over.cycles_are in
    let over : us ≡ vs = ap (λ a. numbered a (all_overwritten g ov.cycles)) at ∙ ap (λ a. numbered c.args.plan.now.over.now.first (all_overwritten g a)) oc in
    let needs = all_needs nv.cycles (pooled_classes g xs) in
    let holds = all_holds table nv.cycles in
    let n = f.vars + length needs + length holds in
    let fe : nv.first ≡ f.vars = c.in_ok-needs.ensures.first ∙ c.vars-first.ensures.value in
    let count : c.needs_count.result ≡ length needs = c.needs_count.ensures in
    let fa = c.add_vars.new.cnf in
    let va = ap (λ (h : Formula). h.vars) c.add_vars.ensures in
    let second = c.vars-held.result in
    let se : second ≡ f.vars + length needs = (let v = c.vars-held.ensures.value in omega (arith, va, count, v)) in
    let is = live-by-steps g k xs f table vs nv.cycles us nv.first second n same over fe se refl in
    let few = subst (λ (h : Formula). length h.clauses ≤ most_clauses) (sym is) c.requires.clauses in
    let limit = subst (λ (h : Formula). h.vars ≤ most_vars) (sym is) c.requires.vars in
    let held : c.holds_count.result ≡ length holds = c.holds_count.ensures.value ∙ sym (holds-are-counted table k) ∙ ap (λ m. length (all_holds table m)) (sym same) in
    omega (arith, limit, va, count, held)

pub add_needs-requires-clause-launches : goal.add_needs-requires-clause-launches
add_needs-requires-clause-launches c =
    let g = c.args.plan.now.frame.facts.now in
    let k = c.args.plan.now.frame.k in
    let f = c.args.cnf.now in
    let table = c.args.plan.now.frame.table.now in
    let xs = numbered 0 c.args.plan.now.launches.now in
    let vs = numbered c.args.plan.now.over.now.first (all_overwritten g k) in
    let nv = c.in_ok-needs.needs in
    let same : nv.cycles ≡ k = c.in_ok-needs.ensures.cycles in
    let ov = c.args.plan.now.over.now in
    let us = numbered ov.first (all_overwritten g ov.cycles) in
    let at : ov.first ≡ c.args.plan.now.over.now.first = refl in
    let oc : ov.cycles ≡ k = c.requires.over.cycles_are in
    let over : us ≡ vs = ap (λ a. numbered a (all_overwritten g ov.cycles)) at ∙ ap (λ a. numbered c.args.plan.now.over.now.first (all_overwritten g a)) oc in
    let needs = all_needs nv.cycles (pooled_classes g xs) in
    let holds = all_holds table nv.cycles in
    let n = f.vars + length needs + length holds in
    let fe : nv.first ≡ f.vars = c.in_ok-needs.ensures.first ∙ c.vars-first.ensures.value in
    let is = live-by-steps g k xs f table vs nv.cycles us nv.first (f.vars + length needs) n same over fe refl refl in
    let limit = subst (λ (h : Formula). h.vars ≤ most_vars) (sym is) c.requires.vars in
    let launches = c.requires.launches in
    let exist = c.requires.exist in
    omega (arith, fe, launches, exist)

pub add_needs-requires-clause-exist : goal.add_needs-requires-clause-exist
add_needs-requires-clause-exist c =
    let g = c.args.plan.now.frame.facts.now in
    let k = c.args.plan.now.frame.k in
    let f = c.args.cnf.now in
    let table = c.args.plan.now.frame.table.now in
    let xs = numbered 0 c.args.plan.now.launches.now in
    let vs = numbered c.args.plan.now.over.now.first (all_overwritten g k) in
    let nv = c.in_ok-needs.needs in
    let same : nv.cycles ≡ k = c.in_ok-needs.ensures.cycles in
    let ov = c.args.plan.now.over.now in
    let us = numbered ov.first (all_overwritten g ov.cycles) in
    let at : ov.first ≡ c.args.plan.now.over.now.first = refl in
    let oc : ov.cycles ≡ k = c.requires.over.cycles_are in
    let over : us ≡ vs = ap (λ a. numbered a (all_overwritten g ov.cycles)) at ∙ ap (λ a. numbered c.args.plan.now.over.now.first (all_overwritten g a)) oc in
    let needs = all_needs nv.cycles (pooled_classes g xs) in
    let holds = all_holds table nv.cycles in
    let n = f.vars + length needs + length holds in
    let fe : nv.first ≡ f.vars = c.in_ok-needs.ensures.first ∙ c.vars-first.ensures.value in
    let count : c.needs_count.result ≡ length needs = c.needs_count.ensures in
    let fa = c.add_vars.new.cnf in
    let va = ap (λ (h : Formula). h.vars) c.add_vars.ensures in
    let second = c.vars-held.result in
    let se : second ≡ f.vars + length needs = (let v = c.vars-held.ensures.value in omega (arith, va, count, v)) in
    let is = live-by-steps g k xs f table vs nv.cycles us nv.first second n same over fe se refl in
    let few = subst (λ (h : Formula). length h.clauses ≤ most_clauses) (sym is) c.requires.clauses in
    let limit = subst (λ (h : Formula). h.vars ≤ most_vars) (sym is) c.requires.vars in
    let held : c.holds_count.result ≡ length holds = c.holds_count.ensures.value ∙ sym (holds-are-counted table k) ∙ ap (λ m. length (all_holds table m)) (sym same) in
    let f1 = c.add_vars-2.new.cnf in
    let e1 : f1 ≡ record f { vars = n } = vars_and_vars f fa f1 c.needs_count.result (length needs) (length holds) c.add_vars.ensures (c.add_vars-2.ensures ∙ ap {A = ℕ} {B = Formula} (λ m. record { vars = fa.vars + m; clauses = fa.clauses }) held) count in
    let ns = numbered nv.first needs in
    let A = need_clauses g xs ns in
    let B = earlier_clauses ns in
    let C = last_need_clauses g nv.cycles xs ns us in
    let D = hold_clauses g nv.cycles xs ns (numbered second holds) in
    let G = hold_groups k (numbered second (all_holds table k)) in
    let p = length g.pool in
    let size = c.counters_count.ensures.size in
    let v : f1.vars ≡ n = ap (λ (h : Formula). h.vars) e1 in
    omega (arith, fe, v)

pub add_needs-requires-clause-few : goal.add_needs-requires-clause-few
add_needs-requires-clause-few c =
    let g = c.args.plan.now.frame.facts.now in
    let k = c.args.plan.now.frame.k in
    let f = c.args.cnf.now in
    let table = c.args.plan.now.frame.table.now in
    let xs = numbered 0 c.args.plan.now.launches.now in
    let vs = numbered c.args.plan.now.over.now.first (all_overwritten g k) in
    let nv = c.in_ok-needs.needs in
    let same : nv.cycles ≡ k = c.in_ok-needs.ensures.cycles in
    let ov = c.args.plan.now.over.now in
    let us = numbered ov.first (all_overwritten g ov.cycles) in
    let at : ov.first ≡ c.args.plan.now.over.now.first = refl in
    let oc : ov.cycles ≡ k = c.requires.over.cycles_are in
    let over : us ≡ vs = ap (λ a. numbered a (all_overwritten g ov.cycles)) at ∙ ap (λ a. numbered c.args.plan.now.over.now.first (all_overwritten g a)) oc in
    let needs = all_needs nv.cycles (pooled_classes g xs) in
    let holds = all_holds table nv.cycles in
    let n = f.vars + length needs + length holds in
    let fe : nv.first ≡ f.vars = c.in_ok-needs.ensures.first ∙ c.vars-first.ensures.value in
    let count : c.needs_count.result ≡ length needs = c.needs_count.ensures in
    let fa = c.add_vars.new.cnf in
    let va = ap (λ (h : Formula). h.vars) c.add_vars.ensures in
    let second = c.vars-held.result in
    let se : second ≡ f.vars + length needs = (let v = c.vars-held.ensures.value in omega (arith, va, count, v)) in
    let is = live-by-steps g k xs f table vs nv.cycles us nv.first second n same over fe se refl in
    let few = subst (λ (h : Formula). length h.clauses ≤ most_clauses) (sym is) c.requires.clauses in
    let limit = subst (λ (h : Formula). h.vars ≤ most_vars) (sym is) c.requires.vars in
    let held : c.holds_count.result ≡ length holds = c.holds_count.ensures.value ∙ sym (holds-are-counted table k) ∙ ap (λ m. length (all_holds table m)) (sym same) in
    let f1 = c.add_vars-2.new.cnf in
    let e1 : f1 ≡ record f { vars = n } = vars_and_vars f fa f1 c.needs_count.result (length needs) (length holds) c.add_vars.ensures (c.add_vars-2.ensures ∙ ap {A = ℕ} {B = Formula} (λ m. record { vars = fa.vars + m; clauses = fa.clauses }) held) count in
    let ns = numbered nv.first needs in
    let A = need_clauses g xs ns in
    let B = earlier_clauses ns in
    let C = last_need_clauses g nv.cycles xs ns us in
    let D = hold_clauses g nv.cycles xs ns (numbered second holds) in
    let G = hold_groups k (numbered second (all_holds table k)) in
    let p = length g.pool in
    let size = c.counters_count.ensures.size in
    let v : f1.vars ≡ n = ap (λ (h : Formula). h.vars) e1 in
    omega (arith, limit, v)

pub add_needs-requires-clause-room : goal.add_needs-requires-clause-room
add_needs-requires-clause-room c =
    let g = c.args.plan.now.frame.facts.now in
    let k = c.args.plan.now.frame.k in
    let f = c.args.cnf.now in
    let table = c.args.plan.now.frame.table.now in
    let xs = numbered 0 c.args.plan.now.launches.now in
    let vs = numbered c.args.plan.now.over.now.first (all_overwritten g k) in
    let nv = c.in_ok-needs.needs in
    let same : nv.cycles ≡ k = c.in_ok-needs.ensures.cycles in
    let ov = c.args.plan.now.over.now in
    let us = numbered ov.first (all_overwritten g ov.cycles) in
    let at : ov.first ≡ c.args.plan.now.over.now.first = refl in
    let oc : ov.cycles ≡ k = c.requires.over.cycles_are in
    let over : us ≡ vs = ap (λ a. numbered a (all_overwritten g ov.cycles)) at ∙ ap (λ a. numbered c.args.plan.now.over.now.first (all_overwritten g a)) oc in
    let needs = all_needs nv.cycles (pooled_classes g xs) in
    let holds = all_holds table nv.cycles in
    let n = f.vars + length needs + length holds in
    let fe : nv.first ≡ f.vars = c.in_ok-needs.ensures.first ∙ c.vars-first.ensures.value in
    let count : c.needs_count.result ≡ length needs = c.needs_count.ensures in
    let fa = c.add_vars.new.cnf in
    let va = ap (λ (h : Formula). h.vars) c.add_vars.ensures in
    let second = c.vars-held.result in
    let se : second ≡ f.vars + length needs = (let v = c.vars-held.ensures.value in omega (arith, va, count, v)) in
    let is = live-by-steps g k xs f table vs nv.cycles us nv.first second n same over fe se refl in
    let few = subst (λ (h : Formula). length h.clauses ≤ most_clauses) (sym is) c.requires.clauses in
    let limit = subst (λ (h : Formula). h.vars ≤ most_vars) (sym is) c.requires.vars in
    let held : c.holds_count.result ≡ length holds = c.holds_count.ensures.value ∙ sym (holds-are-counted table k) ∙ ap (λ m. length (all_holds table m)) (sym same) in
    let f1 = c.add_vars-2.new.cnf in
    let e1 : f1 ≡ record f { vars = n } = vars_and_vars f fa f1 c.needs_count.result (length needs) (length holds) c.add_vars.ensures (c.add_vars-2.ensures ∙ ap {A = ℕ} {B = Formula} (λ m. record { vars = fa.vars + m; clauses = fa.clauses }) held) count in
    let ns = numbered nv.first needs in
    let A = need_clauses g xs ns in
    let B = earlier_clauses ns in
    let C = last_need_clauses g nv.cycles xs ns us in
    let D = hold_clauses g nv.cycles xs ns (numbered second holds) in
    let G = hold_groups k (numbered second (all_holds table k)) in
    let p = length g.pool in
    let size = c.counters_count.ensures.size in
    room1 A B C D G p n f f1 f1 f1 f1 f1 e1 size few

pub add_earlier-requires-clause-exist : goal.add_earlier-requires-clause-exist
add_earlier-requires-clause-exist c =
    let g = c.args.plan.now.frame.facts.now in
    let k = c.args.plan.now.frame.k in
    let f = c.args.cnf.now in
    let table = c.args.plan.now.frame.table.now in
    let xs = numbered 0 c.args.plan.now.launches.now in
    let vs = numbered c.args.plan.now.over.now.first (all_overwritten g k) in
    let nv = c.in_ok-needs.needs in
    let same : nv.cycles ≡ k = c.in_ok-needs.ensures.cycles in
    let ov = c.args.plan.now.over.now in
    let us = numbered ov.first (all_overwritten g ov.cycles) in
    let at : ov.first ≡ c.args.plan.now.over.now.first = refl in
    let oc : ov.cycles ≡ k = c.requires.over.cycles_are in
    let over : us ≡ vs = ap (λ a. numbered a (all_overwritten g ov.cycles)) at ∙ ap (λ a. numbered c.args.plan.now.over.now.first (all_overwritten g a)) oc in
    let needs = all_needs nv.cycles (pooled_classes g xs) in
    let holds = all_holds table nv.cycles in
    let n = f.vars + length needs + length holds in
    let fe : nv.first ≡ f.vars = c.in_ok-needs.ensures.first ∙ c.vars-first.ensures.value in
    let count : c.needs_count.result ≡ length needs = c.needs_count.ensures in
    let fa = c.add_vars.new.cnf in
    let va = ap (λ (h : Formula). h.vars) c.add_vars.ensures in
    let second = c.vars-held.result in
    let se : second ≡ f.vars + length needs = (let v = c.vars-held.ensures.value in omega (arith, va, count, v)) in
    let is = live-by-steps g k xs f table vs nv.cycles us nv.first second n same over fe se refl in
    let few = subst (λ (h : Formula). length h.clauses ≤ most_clauses) (sym is) c.requires.clauses in
    let limit = subst (λ (h : Formula). h.vars ≤ most_vars) (sym is) c.requires.vars in
    let held : c.holds_count.result ≡ length holds = c.holds_count.ensures.value ∙ sym (holds-are-counted table k) ∙ ap (λ m. length (all_holds table m)) (sym same) in
    let f1 = c.add_vars-2.new.cnf in
    let e1 : f1 ≡ record f { vars = n } = vars_and_vars f fa f1 c.needs_count.result (length needs) (length holds) c.add_vars.ensures (c.add_vars-2.ensures ∙ ap {A = ℕ} {B = Formula} (λ m. record { vars = fa.vars + m; clauses = fa.clauses }) held) count in
    let ns = numbered nv.first needs in
    let A = need_clauses g xs ns in
    let B = earlier_clauses ns in
    let C = last_need_clauses g nv.cycles xs ns us in
    let D = hold_clauses g nv.cycles xs ns (numbered second holds) in
    let G = hold_groups k (numbered second (all_holds table k)) in
    let p = length g.pool in
    let size = c.counters_count.ensures.size in
    let f2 = c.add_needs.new.cnf in
    let e2 : f2 ≡ with_clauses f1 A = c.in_ok-add_needs.ensures in
    let v = vars2 A B C D G p n f f1 f2 f2 f2 f2 e1 e2 in
    omega (arith, fe, v)

pub add_earlier-requires-clause-few : goal.add_earlier-requires-clause-few
add_earlier-requires-clause-few c =
    let g = c.args.plan.now.frame.facts.now in
    let k = c.args.plan.now.frame.k in
    let f = c.args.cnf.now in
    let table = c.args.plan.now.frame.table.now in
    let xs = numbered 0 c.args.plan.now.launches.now in
    let vs = numbered c.args.plan.now.over.now.first (all_overwritten g k) in
    let nv = c.in_ok-needs.needs in
    let same : nv.cycles ≡ k = c.in_ok-needs.ensures.cycles in
    let ov = c.args.plan.now.over.now in
    let us = numbered ov.first (all_overwritten g ov.cycles) in
    let at : ov.first ≡ c.args.plan.now.over.now.first = refl in
    let oc : ov.cycles ≡ k = c.requires.over.cycles_are in
    let over : us ≡ vs = ap (λ a. numbered a (all_overwritten g ov.cycles)) at ∙ ap (λ a. numbered c.args.plan.now.over.now.first (all_overwritten g a)) oc in
    let needs = all_needs nv.cycles (pooled_classes g xs) in
    let holds = all_holds table nv.cycles in
    let n = f.vars + length needs + length holds in
    let fe : nv.first ≡ f.vars = c.in_ok-needs.ensures.first ∙ c.vars-first.ensures.value in
    let count : c.needs_count.result ≡ length needs = c.needs_count.ensures in
    let fa = c.add_vars.new.cnf in
    let va = ap (λ (h : Formula). h.vars) c.add_vars.ensures in
    let second = c.vars-held.result in
    let se : second ≡ f.vars + length needs = (let v = c.vars-held.ensures.value in omega (arith, va, count, v)) in
    let is = live-by-steps g k xs f table vs nv.cycles us nv.first second n same over fe se refl in
    let few = subst (λ (h : Formula). length h.clauses ≤ most_clauses) (sym is) c.requires.clauses in
    let limit = subst (λ (h : Formula). h.vars ≤ most_vars) (sym is) c.requires.vars in
    let held : c.holds_count.result ≡ length holds = c.holds_count.ensures.value ∙ sym (holds-are-counted table k) ∙ ap (λ m. length (all_holds table m)) (sym same) in
    let f1 = c.add_vars-2.new.cnf in
    let e1 : f1 ≡ record f { vars = n } = vars_and_vars f fa f1 c.needs_count.result (length needs) (length holds) c.add_vars.ensures (c.add_vars-2.ensures ∙ ap {A = ℕ} {B = Formula} (λ m. record { vars = fa.vars + m; clauses = fa.clauses }) held) count in
    let ns = numbered nv.first needs in
    let A = need_clauses g xs ns in
    let B = earlier_clauses ns in
    let C = last_need_clauses g nv.cycles xs ns us in
    let D = hold_clauses g nv.cycles xs ns (numbered second holds) in
    let G = hold_groups k (numbered second (all_holds table k)) in
    let p = length g.pool in
    let size = c.counters_count.ensures.size in
    let f2 = c.add_needs.new.cnf in
    let e2 : f2 ≡ with_clauses f1 A = c.in_ok-add_needs.ensures in
    let v = vars2 A B C D G p n f f1 f2 f2 f2 f2 e1 e2 in
    omega (arith, limit, v)

pub add_earlier-requires-clause-room : goal.add_earlier-requires-clause-room
add_earlier-requires-clause-room c =
    let g = c.args.plan.now.frame.facts.now in
    let k = c.args.plan.now.frame.k in
    let f = c.args.cnf.now in
    let table = c.args.plan.now.frame.table.now in
    let xs = numbered 0 c.args.plan.now.launches.now in
    let vs = numbered c.args.plan.now.over.now.first (all_overwritten g k) in
    let nv = c.in_ok-needs.needs in
    let same : nv.cycles ≡ k = c.in_ok-needs.ensures.cycles in
    let ov = c.args.plan.now.over.now in
    let us = numbered ov.first (all_overwritten g ov.cycles) in
    let at : ov.first ≡ c.args.plan.now.over.now.first = refl in
    let oc : ov.cycles ≡ k = c.requires.over.cycles_are in
    let over : us ≡ vs = ap (λ a. numbered a (all_overwritten g ov.cycles)) at ∙ ap (λ a. numbered c.args.plan.now.over.now.first (all_overwritten g a)) oc in
    let needs = all_needs nv.cycles (pooled_classes g xs) in
    let holds = all_holds table nv.cycles in
    let n = f.vars + length needs + length holds in
    let fe : nv.first ≡ f.vars = c.in_ok-needs.ensures.first ∙ c.vars-first.ensures.value in
    let count : c.needs_count.result ≡ length needs = c.needs_count.ensures in
    let fa = c.add_vars.new.cnf in
    let va = ap (λ (h : Formula). h.vars) c.add_vars.ensures in
    let second = c.vars-held.result in
    let se : second ≡ f.vars + length needs = (let v = c.vars-held.ensures.value in omega (arith, va, count, v)) in
    let is = live-by-steps g k xs f table vs nv.cycles us nv.first second n same over fe se refl in
    let few = subst (λ (h : Formula). length h.clauses ≤ most_clauses) (sym is) c.requires.clauses in
    let limit = subst (λ (h : Formula). h.vars ≤ most_vars) (sym is) c.requires.vars in
    let held : c.holds_count.result ≡ length holds = c.holds_count.ensures.value ∙ sym (holds-are-counted table k) ∙ ap (λ m. length (all_holds table m)) (sym same) in
    let f1 = c.add_vars-2.new.cnf in
    let e1 : f1 ≡ record f { vars = n } = vars_and_vars f fa f1 c.needs_count.result (length needs) (length holds) c.add_vars.ensures (c.add_vars-2.ensures ∙ ap {A = ℕ} {B = Formula} (λ m. record { vars = fa.vars + m; clauses = fa.clauses }) held) count in
    let ns = numbered nv.first needs in
    let A = need_clauses g xs ns in
    let B = earlier_clauses ns in
    let C = last_need_clauses g nv.cycles xs ns us in
    let D = hold_clauses g nv.cycles xs ns (numbered second holds) in
    let G = hold_groups k (numbered second (all_holds table k)) in
    let p = length g.pool in
    let size = c.counters_count.ensures.size in
    let f2 = c.add_needs.new.cnf in
    let e2 : f2 ≡ with_clauses f1 A = c.in_ok-add_needs.ensures in
    room2 A B C D G p n f f1 f2 f2 f2 f2 e1 size few e2

pub add_last_needs-requires-clause-exist : goal.add_last_needs-requires-clause-exist
add_last_needs-requires-clause-exist c =
    let g = c.args.plan.now.frame.facts.now in
    let k = c.args.plan.now.frame.k in
    let f = c.args.cnf.now in
    let table = c.args.plan.now.frame.table.now in
    let xs = numbered 0 c.args.plan.now.launches.now in
    let vs = numbered c.args.plan.now.over.now.first (all_overwritten g k) in
    let nv = c.in_ok-needs.needs in
    let same : nv.cycles ≡ k = c.in_ok-needs.ensures.cycles in
    let ov = c.args.plan.now.over.now in
    let us = numbered ov.first (all_overwritten g ov.cycles) in
    let at : ov.first ≡ c.args.plan.now.over.now.first = refl in
    let oc : ov.cycles ≡ k = c.requires.over.cycles_are in
    let over : us ≡ vs = ap (λ a. numbered a (all_overwritten g ov.cycles)) at ∙ ap (λ a. numbered c.args.plan.now.over.now.first (all_overwritten g a)) oc in
    let needs = all_needs nv.cycles (pooled_classes g xs) in
    let holds = all_holds table nv.cycles in
    let n = f.vars + length needs + length holds in
    let fe : nv.first ≡ f.vars = c.in_ok-needs.ensures.first ∙ c.vars-first.ensures.value in
    let count : c.needs_count.result ≡ length needs = c.needs_count.ensures in
    let fa = c.add_vars.new.cnf in
    let va = ap (λ (h : Formula). h.vars) c.add_vars.ensures in
    let second = c.vars-held.result in
    let se : second ≡ f.vars + length needs = (let v = c.vars-held.ensures.value in omega (arith, va, count, v)) in
    let is = live-by-steps g k xs f table vs nv.cycles us nv.first second n same over fe se refl in
    let few = subst (λ (h : Formula). length h.clauses ≤ most_clauses) (sym is) c.requires.clauses in
    let limit = subst (λ (h : Formula). h.vars ≤ most_vars) (sym is) c.requires.vars in
    let held : c.holds_count.result ≡ length holds = c.holds_count.ensures.value ∙ sym (holds-are-counted table k) ∙ ap (λ m. length (all_holds table m)) (sym same) in
    let f1 = c.add_vars-2.new.cnf in
    let e1 : f1 ≡ record f { vars = n } = vars_and_vars f fa f1 c.needs_count.result (length needs) (length holds) c.add_vars.ensures (c.add_vars-2.ensures ∙ ap {A = ℕ} {B = Formula} (λ m. record { vars = fa.vars + m; clauses = fa.clauses }) held) count in
    let ns = numbered nv.first needs in
    let A = need_clauses g xs ns in
    let B = earlier_clauses ns in
    let C = last_need_clauses g nv.cycles xs ns us in
    let D = hold_clauses g nv.cycles xs ns (numbered second holds) in
    let G = hold_groups k (numbered second (all_holds table k)) in
    let p = length g.pool in
    let size = c.counters_count.ensures.size in
    let f2 = c.add_needs.new.cnf in
    let e2 : f2 ≡ with_clauses f1 A = c.in_ok-add_needs.ensures in
    let f3 = c.add_earlier.new.cnf in
    let e3 : f3 ≡ with_clauses f2 B = c.in_ok-add_earlier.ensures in
    let v = vars3 A B C D G p n f f1 f2 f3 f3 f3 e1 e2 e3 in
    omega (arith, fe, v)

pub add_last_needs-requires-clause-over : goal.add_last_needs-requires-clause-over
add_last_needs-requires-clause-over c =
    let g = c.args.plan.now.frame.facts.now in
    let k = c.args.plan.now.frame.k in
    let f = c.args.cnf.now in
    let table = c.args.plan.now.frame.table.now in
    let xs = numbered 0 c.args.plan.now.launches.now in
    let vs = numbered c.args.plan.now.over.now.first (all_overwritten g k) in
    let nv = c.in_ok-needs.needs in
    let same : nv.cycles ≡ k = c.in_ok-needs.ensures.cycles in
    let ov = c.args.plan.now.over.now in
    let us = numbered ov.first (all_overwritten g ov.cycles) in
    let at : ov.first ≡ c.args.plan.now.over.now.first = refl in
    let oc : ov.cycles ≡ k = c.requires.over.cycles_are in
    let over : us ≡ vs = ap (λ a. numbered a (all_overwritten g ov.cycles)) at ∙ ap (λ a. numbered c.args.plan.now.over.now.first (all_overwritten g a)) oc in
    let needs = all_needs nv.cycles (pooled_classes g xs) in
    let holds = all_holds table nv.cycles in
    let n = f.vars + length needs + length holds in
    let fe : nv.first ≡ f.vars = c.in_ok-needs.ensures.first ∙ c.vars-first.ensures.value in
    let is = live-by-steps g k xs f table vs nv.cycles us nv.first (f.vars + length needs) n same over fe refl refl in
    let limit = subst (λ (h : Formula). h.vars ≤ most_vars) (sym is) c.requires.vars in
    let exist = c.requires.exist in
    let many = ap (λ m. length (all_overwritten g m)) oc in
    record { sets_are = c.requires.over.sets_are; cycles = subst (λ m. m ≤ most_cycles) (sym oc) c.requires.frame.cycles; few = omega (arith, limit, at, many, exist) }

pub add_last_needs-requires-clause-same : goal.add_last_needs-requires-clause-same
add_last_needs-requires-clause-same c =
    let g = c.args.plan.now.frame.facts.now in
    let k = c.args.plan.now.frame.k in
    let f = c.args.cnf.now in
    let table = c.args.plan.now.frame.table.now in
    let xs = numbered 0 c.args.plan.now.launches.now in
    let vs = numbered c.args.plan.now.over.now.first (all_overwritten g k) in
    let nv = c.in_ok-needs.needs in
    let same : nv.cycles ≡ k = c.in_ok-needs.ensures.cycles in
    let ov = c.args.plan.now.over.now in
    let us = numbered ov.first (all_overwritten g ov.cycles) in
    let at : ov.first ≡ c.args.plan.now.over.now.first = refl in
    let oc : ov.cycles ≡ k = c.requires.over.cycles_are in
    let over : us ≡ vs = ap (λ a. numbered a (all_overwritten g ov.cycles)) at ∙ ap (λ a. numbered c.args.plan.now.over.now.first (all_overwritten g a)) oc in
    let needs = all_needs nv.cycles (pooled_classes g xs) in
    let holds = all_holds table nv.cycles in
    let n = f.vars + length needs + length holds in
    let fe : nv.first ≡ f.vars = c.in_ok-needs.ensures.first ∙ c.vars-first.ensures.value in
    let is = live-by-steps g k xs f table vs nv.cycles us nv.first (f.vars + length needs) n same over fe refl refl in
    let limit = subst (λ (h : Formula). h.vars ≤ most_vars) (sym is) c.requires.vars in
    oc ∙ sym same

pub add_last_needs-requires-clause-overwritten : goal.add_last_needs-requires-clause-overwritten
add_last_needs-requires-clause-overwritten c =
    let g = c.args.plan.now.frame.facts.now in
    let k = c.args.plan.now.frame.k in
    let f = c.args.cnf.now in
    let table = c.args.plan.now.frame.table.now in
    let xs = numbered 0 c.args.plan.now.launches.now in
    let vs = numbered c.args.plan.now.over.now.first (all_overwritten g k) in
    let nv = c.in_ok-needs.needs in
    let same : nv.cycles ≡ k = c.in_ok-needs.ensures.cycles in
    let ov = c.args.plan.now.over.now in
    let us = numbered ov.first (all_overwritten g ov.cycles) in
    let at : ov.first ≡ c.args.plan.now.over.now.first = refl in
    let oc : ov.cycles ≡ k = c.requires.over.cycles_are in
    let over : us ≡ vs = ap (λ a. numbered a (all_overwritten g ov.cycles)) at ∙ ap (λ a. numbered c.args.plan.now.over.now.first (all_overwritten g a)) oc in
    let needs = all_needs nv.cycles (pooled_classes g xs) in
    let holds = all_holds table nv.cycles in
    let n = f.vars + length needs + length holds in
    let fe : nv.first ≡ f.vars = c.in_ok-needs.ensures.first ∙ c.vars-first.ensures.value in
    let count : c.needs_count.result ≡ length needs = c.needs_count.ensures in
    let fa = c.add_vars.new.cnf in
    let va = ap (λ (h : Formula). h.vars) c.add_vars.ensures in
    let second = c.vars-held.result in
    let se : second ≡ f.vars + length needs = (let v = c.vars-held.ensures.value in omega (arith, va, count, v)) in
    let is = live-by-steps g k xs f table vs nv.cycles us nv.first second n same over fe se refl in
    let few = subst (λ (h : Formula). length h.clauses ≤ most_clauses) (sym is) c.requires.clauses in
    let limit = subst (λ (h : Formula). h.vars ≤ most_vars) (sym is) c.requires.vars in
    let held : c.holds_count.result ≡ length holds = c.holds_count.ensures.value ∙ sym (holds-are-counted table k) ∙ ap (λ m. length (all_holds table m)) (sym same) in
    let f1 = c.add_vars-2.new.cnf in
    let e1 : f1 ≡ record f { vars = n } = vars_and_vars f fa f1 c.needs_count.result (length needs) (length holds) c.add_vars.ensures (c.add_vars-2.ensures ∙ ap {A = ℕ} {B = Formula} (λ m. record { vars = fa.vars + m; clauses = fa.clauses }) held) count in
    let ns = numbered nv.first needs in
    let A = need_clauses g xs ns in
    let B = earlier_clauses ns in
    let C = last_need_clauses g nv.cycles xs ns us in
    let D = hold_clauses g nv.cycles xs ns (numbered second holds) in
    let G = hold_groups k (numbered second (all_holds table k)) in
    let p = length g.pool in
    let size = c.counters_count.ensures.size in
    let f2 = c.add_needs.new.cnf in
    let e2 : f2 ≡ with_clauses f1 A = c.in_ok-add_needs.ensures in
    let f3 = c.add_earlier.new.cnf in
    let e3 : f3 ≡ with_clauses f2 B = c.in_ok-add_earlier.ensures in
    let v = vars3 A B C D G p n f f1 f2 f3 f3 f3 e1 e2 e3 in
    let exist = c.requires.exist in
    let many = ap (λ m. length (all_overwritten g m)) oc in
    omega (arith, at, many, exist, v)

pub add_last_needs-requires-clause-few : goal.add_last_needs-requires-clause-few
add_last_needs-requires-clause-few c =
    let g = c.args.plan.now.frame.facts.now in
    let k = c.args.plan.now.frame.k in
    let f = c.args.cnf.now in
    let table = c.args.plan.now.frame.table.now in
    let xs = numbered 0 c.args.plan.now.launches.now in
    let vs = numbered c.args.plan.now.over.now.first (all_overwritten g k) in
    let nv = c.in_ok-needs.needs in
    let same : nv.cycles ≡ k = c.in_ok-needs.ensures.cycles in
    let ov = c.args.plan.now.over.now in
    let us = numbered ov.first (all_overwritten g ov.cycles) in
    let at : ov.first ≡ c.args.plan.now.over.now.first = refl in
    let oc : ov.cycles ≡ k = c.requires.over.cycles_are in
    let over : us ≡ vs = ap (λ a. numbered a (all_overwritten g ov.cycles)) at ∙ ap (λ a. numbered c.args.plan.now.over.now.first (all_overwritten g a)) oc in
    let needs = all_needs nv.cycles (pooled_classes g xs) in
    let holds = all_holds table nv.cycles in
    let n = f.vars + length needs + length holds in
    let fe : nv.first ≡ f.vars = c.in_ok-needs.ensures.first ∙ c.vars-first.ensures.value in
    let count : c.needs_count.result ≡ length needs = c.needs_count.ensures in
    let fa = c.add_vars.new.cnf in
    let va = ap (λ (h : Formula). h.vars) c.add_vars.ensures in
    let second = c.vars-held.result in
    let se : second ≡ f.vars + length needs = (let v = c.vars-held.ensures.value in omega (arith, va, count, v)) in
    let is = live-by-steps g k xs f table vs nv.cycles us nv.first second n same over fe se refl in
    let few = subst (λ (h : Formula). length h.clauses ≤ most_clauses) (sym is) c.requires.clauses in
    let limit = subst (λ (h : Formula). h.vars ≤ most_vars) (sym is) c.requires.vars in
    let held : c.holds_count.result ≡ length holds = c.holds_count.ensures.value ∙ sym (holds-are-counted table k) ∙ ap (λ m. length (all_holds table m)) (sym same) in
    let f1 = c.add_vars-2.new.cnf in
    let e1 : f1 ≡ record f { vars = n } = vars_and_vars f fa f1 c.needs_count.result (length needs) (length holds) c.add_vars.ensures (c.add_vars-2.ensures ∙ ap {A = ℕ} {B = Formula} (λ m. record { vars = fa.vars + m; clauses = fa.clauses }) held) count in
    let ns = numbered nv.first needs in
    let A = need_clauses g xs ns in
    let B = earlier_clauses ns in
    let C = last_need_clauses g nv.cycles xs ns us in
    let D = hold_clauses g nv.cycles xs ns (numbered second holds) in
    let G = hold_groups k (numbered second (all_holds table k)) in
    let p = length g.pool in
    let size = c.counters_count.ensures.size in
    let f2 = c.add_needs.new.cnf in
    let e2 : f2 ≡ with_clauses f1 A = c.in_ok-add_needs.ensures in
    let f3 = c.add_earlier.new.cnf in
    let e3 : f3 ≡ with_clauses f2 B = c.in_ok-add_earlier.ensures in
    let v = vars3 A B C D G p n f f1 f2 f3 f3 f3 e1 e2 e3 in
    omega (arith, limit, v)

pub add_last_needs-requires-clause-room : goal.add_last_needs-requires-clause-room
add_last_needs-requires-clause-room c =
    let g = c.args.plan.now.frame.facts.now in
    let k = c.args.plan.now.frame.k in
    let f = c.args.cnf.now in
    let table = c.args.plan.now.frame.table.now in
    let xs = numbered 0 c.args.plan.now.launches.now in
    let vs = numbered c.args.plan.now.over.now.first (all_overwritten g k) in
    let nv = c.in_ok-needs.needs in
    let same : nv.cycles ≡ k = c.in_ok-needs.ensures.cycles in
    let ov = c.args.plan.now.over.now in
    let us = numbered ov.first (all_overwritten g ov.cycles) in
    let at : ov.first ≡ c.args.plan.now.over.now.first = refl in
    let oc : ov.cycles ≡ k = c.requires.over.cycles_are in
    let over : us ≡ vs = ap (λ a. numbered a (all_overwritten g ov.cycles)) at ∙ ap (λ a. numbered c.args.plan.now.over.now.first (all_overwritten g a)) oc in
    let needs = all_needs nv.cycles (pooled_classes g xs) in
    let holds = all_holds table nv.cycles in
    let n = f.vars + length needs + length holds in
    let fe : nv.first ≡ f.vars = c.in_ok-needs.ensures.first ∙ c.vars-first.ensures.value in
    let count : c.needs_count.result ≡ length needs = c.needs_count.ensures in
    let fa = c.add_vars.new.cnf in
    let va = ap (λ (h : Formula). h.vars) c.add_vars.ensures in
    let second = c.vars-held.result in
    let se : second ≡ f.vars + length needs = (let v = c.vars-held.ensures.value in omega (arith, va, count, v)) in
    let is = live-by-steps g k xs f table vs nv.cycles us nv.first second n same over fe se refl in
    let few = subst (λ (h : Formula). length h.clauses ≤ most_clauses) (sym is) c.requires.clauses in
    let limit = subst (λ (h : Formula). h.vars ≤ most_vars) (sym is) c.requires.vars in
    let held : c.holds_count.result ≡ length holds = c.holds_count.ensures.value ∙ sym (holds-are-counted table k) ∙ ap (λ m. length (all_holds table m)) (sym same) in
    let f1 = c.add_vars-2.new.cnf in
    let e1 : f1 ≡ record f { vars = n } = vars_and_vars f fa f1 c.needs_count.result (length needs) (length holds) c.add_vars.ensures (c.add_vars-2.ensures ∙ ap {A = ℕ} {B = Formula} (λ m. record { vars = fa.vars + m; clauses = fa.clauses }) held) count in
    let ns = numbered nv.first needs in
    let A = need_clauses g xs ns in
    let B = earlier_clauses ns in
    let C = last_need_clauses g nv.cycles xs ns us in
    let D = hold_clauses g nv.cycles xs ns (numbered second holds) in
    let G = hold_groups k (numbered second (all_holds table k)) in
    let p = length g.pool in
    let size = c.counters_count.ensures.size in
    let f2 = c.add_needs.new.cnf in
    let e2 : f2 ≡ with_clauses f1 A = c.in_ok-add_needs.ensures in
    let f3 = c.add_earlier.new.cnf in
    let e3 : f3 ≡ with_clauses f2 B = c.in_ok-add_earlier.ensures in
    room3 A B C D G p n f f1 f2 f3 f3 f3 e1 size few e2 e3

pub add_holds-requires-clause-cycles : goal.add_holds-requires-clause-cycles
add_holds-requires-clause-cycles c =
    let g = c.args.plan.now.frame.facts.now in
    let k = c.args.plan.now.frame.k in
    let f = c.args.cnf.now in
    let table = c.args.plan.now.frame.table.now in
    let xs = numbered 0 c.args.plan.now.launches.now in
    let vs = numbered c.args.plan.now.over.now.first (all_overwritten g k) in
    let nv = c.in_ok-needs.needs in
    let same : nv.cycles ≡ k = c.in_ok-needs.ensures.cycles in
    let ov = c.args.plan.now.over.now in
    let us = numbered ov.first (all_overwritten g ov.cycles) in
    let at : ov.first ≡ c.args.plan.now.over.now.first = refl in
    let oc : ov.cycles ≡ k = c.requires.over.cycles_are in
    let over : us ≡ vs = ap (λ a. numbered a (all_overwritten g ov.cycles)) at ∙ ap (λ a. numbered c.args.plan.now.over.now.first (all_overwritten g a)) oc in
    let needs = all_needs nv.cycles (pooled_classes g xs) in
    let holds = all_holds table nv.cycles in
    let n = f.vars + length needs + length holds in
    let fe : nv.first ≡ f.vars = c.in_ok-needs.ensures.first ∙ c.vars-first.ensures.value in
    let is = live-by-steps g k xs f table vs nv.cycles us nv.first (f.vars + length needs) n same over fe refl refl in
    let limit = subst (λ (h : Formula). h.vars ≤ most_vars) (sym is) c.requires.vars in
    subst (λ m. m ≤ most_cycles) (sym same) c.requires.frame.cycles

pub add_holds-requires-clause-launches : goal.add_holds-requires-clause-launches
add_holds-requires-clause-launches c =
    let g = c.args.plan.now.frame.facts.now in
    let k = c.args.plan.now.frame.k in
    let f = c.args.cnf.now in
    let table = c.args.plan.now.frame.table.now in
    let xs = numbered 0 c.args.plan.now.launches.now in
    let vs = numbered c.args.plan.now.over.now.first (all_overwritten g k) in
    let nv = c.in_ok-needs.needs in
    let same : nv.cycles ≡ k = c.in_ok-needs.ensures.cycles in
    let ov = c.args.plan.now.over.now in
    let us = numbered ov.first (all_overwritten g ov.cycles) in
    let at : ov.first ≡ c.args.plan.now.over.now.first = refl in
    let oc : ov.cycles ≡ k = c.requires.over.cycles_are in
    let over : us ≡ vs = ap (λ a. numbered a (all_overwritten g ov.cycles)) at ∙ ap (λ a. numbered c.args.plan.now.over.now.first (all_overwritten g a)) oc in
    let needs = all_needs nv.cycles (pooled_classes g xs) in
    let holds = all_holds table nv.cycles in
    let n = f.vars + length needs + length holds in
    let fe : nv.first ≡ f.vars = c.in_ok-needs.ensures.first ∙ c.vars-first.ensures.value in
    let is = live-by-steps g k xs f table vs nv.cycles us nv.first (f.vars + length needs) n same over fe refl refl in
    let limit = subst (λ (h : Formula). h.vars ≤ most_vars) (sym is) c.requires.vars in
    let launches = c.requires.launches in
    let exist = c.requires.exist in
    omega (arith, fe, launches, exist)

pub add_holds-requires-clause-next : goal.add_holds-requires-clause-next
add_holds-requires-clause-next c =
    let g = c.args.plan.now.frame.facts.now in
    let k = c.args.plan.now.frame.k in
    let f = c.args.cnf.now in
    let table = c.args.plan.now.frame.table.now in
    let xs = numbered 0 c.args.plan.now.launches.now in
    let vs = numbered c.args.plan.now.over.now.first (all_overwritten g k) in
    let nv = c.in_ok-needs.needs in
    let same : nv.cycles ≡ k = c.in_ok-needs.ensures.cycles in
    let ov = c.args.plan.now.over.now in
    let us = numbered ov.first (all_overwritten g ov.cycles) in
    let at : ov.first ≡ c.args.plan.now.over.now.first = refl in
    let oc : ov.cycles ≡ k = c.requires.over.cycles_are in
    let over : us ≡ vs = ap (λ a. numbered a (all_overwritten g ov.cycles)) at ∙ ap (λ a. numbered c.args.plan.now.over.now.first (all_overwritten g a)) oc in
    let needs = all_needs nv.cycles (pooled_classes g xs) in
    let holds = all_holds table nv.cycles in
    let n = f.vars + length needs + length holds in
    let fe : nv.first ≡ f.vars = c.in_ok-needs.ensures.first ∙ c.vars-first.ensures.value in
    let count : c.needs_count.result ≡ length needs = c.needs_count.ensures in
    let fa = c.add_vars.new.cnf in
    let va = ap (λ (h : Formula). h.vars) c.add_vars.ensures in
    let second = c.vars-held.result in
    let se : second ≡ f.vars + length needs = (let v = c.vars-held.ensures.value in omega (arith, va, count, v)) in
    let is = live-by-steps g k xs f table vs nv.cycles us nv.first second n same over fe se refl in
    let few = subst (λ (h : Formula). length h.clauses ≤ most_clauses) (sym is) c.requires.clauses in
    let limit = subst (λ (h : Formula). h.vars ≤ most_vars) (sym is) c.requires.vars in
    let held : c.holds_count.result ≡ length holds = c.holds_count.ensures.value ∙ sym (holds-are-counted table k) ∙ ap (λ m. length (all_holds table m)) (sym same) in
    omega (arith, fe, se)

pub add_holds-requires-clause-exist : goal.add_holds-requires-clause-exist
add_holds-requires-clause-exist c =
    let g = c.args.plan.now.frame.facts.now in
    let k = c.args.plan.now.frame.k in
    let f = c.args.cnf.now in
    let table = c.args.plan.now.frame.table.now in
    let xs = numbered 0 c.args.plan.now.launches.now in
    let vs = numbered c.args.plan.now.over.now.first (all_overwritten g k) in
    let nv = c.in_ok-needs.needs in
    let same : nv.cycles ≡ k = c.in_ok-needs.ensures.cycles in
    let ov = c.args.plan.now.over.now in
    let us = numbered ov.first (all_overwritten g ov.cycles) in
    let at : ov.first ≡ c.args.plan.now.over.now.first = refl in
    let oc : ov.cycles ≡ k = c.requires.over.cycles_are in
    let over : us ≡ vs = ap (λ a. numbered a (all_overwritten g ov.cycles)) at ∙ ap (λ a. numbered c.args.plan.now.over.now.first (all_overwritten g a)) oc in
    let needs = all_needs nv.cycles (pooled_classes g xs) in
    let holds = all_holds table nv.cycles in
    let n = f.vars + length needs + length holds in
    let fe : nv.first ≡ f.vars = c.in_ok-needs.ensures.first ∙ c.vars-first.ensures.value in
    let count : c.needs_count.result ≡ length needs = c.needs_count.ensures in
    let fa = c.add_vars.new.cnf in
    let va = ap (λ (h : Formula). h.vars) c.add_vars.ensures in
    let second = c.vars-held.result in
    let se : second ≡ f.vars + length needs = (let v = c.vars-held.ensures.value in omega (arith, va, count, v)) in
    let is = live-by-steps g k xs f table vs nv.cycles us nv.first second n same over fe se refl in
    let few = subst (λ (h : Formula). length h.clauses ≤ most_clauses) (sym is) c.requires.clauses in
    let limit = subst (λ (h : Formula). h.vars ≤ most_vars) (sym is) c.requires.vars in
    let held : c.holds_count.result ≡ length holds = c.holds_count.ensures.value ∙ sym (holds-are-counted table k) ∙ ap (λ m. length (all_holds table m)) (sym same) in
    let f1 = c.add_vars-2.new.cnf in
    let e1 : f1 ≡ record f { vars = n } = vars_and_vars f fa f1 c.needs_count.result (length needs) (length holds) c.add_vars.ensures (c.add_vars-2.ensures ∙ ap {A = ℕ} {B = Formula} (λ m. record { vars = fa.vars + m; clauses = fa.clauses }) held) count in
    let ns = numbered nv.first needs in
    let A = need_clauses g xs ns in
    let B = earlier_clauses ns in
    let C = last_need_clauses g nv.cycles xs ns us in
    let D = hold_clauses g nv.cycles xs ns (numbered second holds) in
    let G = hold_groups k (numbered second (all_holds table k)) in
    let p = length g.pool in
    let size = c.counters_count.ensures.size in
    let f2 = c.add_needs.new.cnf in
    let e2 : f2 ≡ with_clauses f1 A = c.in_ok-add_needs.ensures in
    let f3 = c.add_earlier.new.cnf in
    let e3 : f3 ≡ with_clauses f2 B = c.in_ok-add_earlier.ensures in
    let f4 = c.add_last_needs.new.cnf in
    let e4 : f4 ≡ with_clauses f3 C = c.in_ok-add_last_needs.ensures in
    let v = vars4 A B C D G p n f f1 f2 f3 f4 f4 e1 e2 e3 e4 in
    omega (arith, se, v)

pub add_holds-requires-clause-few : goal.add_holds-requires-clause-few
add_holds-requires-clause-few c =
    let g = c.args.plan.now.frame.facts.now in
    let k = c.args.plan.now.frame.k in
    let f = c.args.cnf.now in
    let table = c.args.plan.now.frame.table.now in
    let xs = numbered 0 c.args.plan.now.launches.now in
    let vs = numbered c.args.plan.now.over.now.first (all_overwritten g k) in
    let nv = c.in_ok-needs.needs in
    let same : nv.cycles ≡ k = c.in_ok-needs.ensures.cycles in
    let ov = c.args.plan.now.over.now in
    let us = numbered ov.first (all_overwritten g ov.cycles) in
    let at : ov.first ≡ c.args.plan.now.over.now.first = refl in
    let oc : ov.cycles ≡ k = c.requires.over.cycles_are in
    let over : us ≡ vs = ap (λ a. numbered a (all_overwritten g ov.cycles)) at ∙ ap (λ a. numbered c.args.plan.now.over.now.first (all_overwritten g a)) oc in
    let needs = all_needs nv.cycles (pooled_classes g xs) in
    let holds = all_holds table nv.cycles in
    let n = f.vars + length needs + length holds in
    let fe : nv.first ≡ f.vars = c.in_ok-needs.ensures.first ∙ c.vars-first.ensures.value in
    let count : c.needs_count.result ≡ length needs = c.needs_count.ensures in
    let fa = c.add_vars.new.cnf in
    let va = ap (λ (h : Formula). h.vars) c.add_vars.ensures in
    let second = c.vars-held.result in
    let se : second ≡ f.vars + length needs = (let v = c.vars-held.ensures.value in omega (arith, va, count, v)) in
    let is = live-by-steps g k xs f table vs nv.cycles us nv.first second n same over fe se refl in
    let few = subst (λ (h : Formula). length h.clauses ≤ most_clauses) (sym is) c.requires.clauses in
    let limit = subst (λ (h : Formula). h.vars ≤ most_vars) (sym is) c.requires.vars in
    let held : c.holds_count.result ≡ length holds = c.holds_count.ensures.value ∙ sym (holds-are-counted table k) ∙ ap (λ m. length (all_holds table m)) (sym same) in
    let f1 = c.add_vars-2.new.cnf in
    let e1 : f1 ≡ record f { vars = n } = vars_and_vars f fa f1 c.needs_count.result (length needs) (length holds) c.add_vars.ensures (c.add_vars-2.ensures ∙ ap {A = ℕ} {B = Formula} (λ m. record { vars = fa.vars + m; clauses = fa.clauses }) held) count in
    let ns = numbered nv.first needs in
    let A = need_clauses g xs ns in
    let B = earlier_clauses ns in
    let C = last_need_clauses g nv.cycles xs ns us in
    let D = hold_clauses g nv.cycles xs ns (numbered second holds) in
    let G = hold_groups k (numbered second (all_holds table k)) in
    let p = length g.pool in
    let size = c.counters_count.ensures.size in
    let f2 = c.add_needs.new.cnf in
    let e2 : f2 ≡ with_clauses f1 A = c.in_ok-add_needs.ensures in
    let f3 = c.add_earlier.new.cnf in
    let e3 : f3 ≡ with_clauses f2 B = c.in_ok-add_earlier.ensures in
    let f4 = c.add_last_needs.new.cnf in
    let e4 : f4 ≡ with_clauses f3 C = c.in_ok-add_last_needs.ensures in
    let v = vars4 A B C D G p n f f1 f2 f3 f4 f4 e1 e2 e3 e4 in
    omega (arith, limit, v)

pub add_holds-requires-clause-room : goal.add_holds-requires-clause-room
add_holds-requires-clause-room c =
    let g = c.args.plan.now.frame.facts.now in
    let k = c.args.plan.now.frame.k in
    let f = c.args.cnf.now in
    let table = c.args.plan.now.frame.table.now in
    let xs = numbered 0 c.args.plan.now.launches.now in
    let vs = numbered c.args.plan.now.over.now.first (all_overwritten g k) in
    let nv = c.in_ok-needs.needs in
    let same : nv.cycles ≡ k = c.in_ok-needs.ensures.cycles in
    let ov = c.args.plan.now.over.now in
    let us = numbered ov.first (all_overwritten g ov.cycles) in
    let at : ov.first ≡ c.args.plan.now.over.now.first = refl in
    let oc : ov.cycles ≡ k = c.requires.over.cycles_are in
    let over : us ≡ vs = ap (λ a. numbered a (all_overwritten g ov.cycles)) at ∙ ap (λ a. numbered c.args.plan.now.over.now.first (all_overwritten g a)) oc in
    let needs = all_needs nv.cycles (pooled_classes g xs) in
    let holds = all_holds table nv.cycles in
    let n = f.vars + length needs + length holds in
    let fe : nv.first ≡ f.vars = c.in_ok-needs.ensures.first ∙ c.vars-first.ensures.value in
    let count : c.needs_count.result ≡ length needs = c.needs_count.ensures in
    let fa = c.add_vars.new.cnf in
    let va = ap (λ (h : Formula). h.vars) c.add_vars.ensures in
    let second = c.vars-held.result in
    let se : second ≡ f.vars + length needs = (let v = c.vars-held.ensures.value in omega (arith, va, count, v)) in
    let is = live-by-steps g k xs f table vs nv.cycles us nv.first second n same over fe se refl in
    let few = subst (λ (h : Formula). length h.clauses ≤ most_clauses) (sym is) c.requires.clauses in
    let limit = subst (λ (h : Formula). h.vars ≤ most_vars) (sym is) c.requires.vars in
    let held : c.holds_count.result ≡ length holds = c.holds_count.ensures.value ∙ sym (holds-are-counted table k) ∙ ap (λ m. length (all_holds table m)) (sym same) in
    let f1 = c.add_vars-2.new.cnf in
    let e1 : f1 ≡ record f { vars = n } = vars_and_vars f fa f1 c.needs_count.result (length needs) (length holds) c.add_vars.ensures (c.add_vars-2.ensures ∙ ap {A = ℕ} {B = Formula} (λ m. record { vars = fa.vars + m; clauses = fa.clauses }) held) count in
    let ns = numbered nv.first needs in
    let A = need_clauses g xs ns in
    let B = earlier_clauses ns in
    let C = last_need_clauses g nv.cycles xs ns us in
    let D = hold_clauses g nv.cycles xs ns (numbered second holds) in
    let G = hold_groups k (numbered second (all_holds table k)) in
    let p = length g.pool in
    let size = c.counters_count.ensures.size in
    let f2 = c.add_needs.new.cnf in
    let e2 : f2 ≡ with_clauses f1 A = c.in_ok-add_needs.ensures in
    let f3 = c.add_earlier.new.cnf in
    let e3 : f3 ≡ with_clauses f2 B = c.in_ok-add_earlier.ensures in
    let f4 = c.add_last_needs.new.cnf in
    let e4 : f4 ≡ with_clauses f3 C = c.in_ok-add_last_needs.ensures in
    room4 A B C D G p n f f1 f2 f3 f4 f4 e1 size few e2 e3 e4

pub add_hold_counters-requires-clause-exist : goal.add_hold_counters-requires-clause-exist
add_hold_counters-requires-clause-exist c =
    let g = c.args.plan.now.frame.facts.now in
    let k = c.args.plan.now.frame.k in
    let f = c.args.cnf.now in
    let table = c.args.plan.now.frame.table.now in
    let xs = numbered 0 c.args.plan.now.launches.now in
    let vs = numbered c.args.plan.now.over.now.first (all_overwritten g k) in
    let nv = c.in_ok-needs.needs in
    let same : nv.cycles ≡ k = c.in_ok-needs.ensures.cycles in
    let ov = c.args.plan.now.over.now in
    let us = numbered ov.first (all_overwritten g ov.cycles) in
    let at : ov.first ≡ c.args.plan.now.over.now.first = refl in
    let oc : ov.cycles ≡ k = c.requires.over.cycles_are in
    let over : us ≡ vs = ap (λ a. numbered a (all_overwritten g ov.cycles)) at ∙ ap (λ a. numbered c.args.plan.now.over.now.first (all_overwritten g a)) oc in
    let needs = all_needs nv.cycles (pooled_classes g xs) in
    let holds = all_holds table nv.cycles in
    let n = f.vars + length needs + length holds in
    let fe : nv.first ≡ f.vars = c.in_ok-needs.ensures.first ∙ c.vars-first.ensures.value in
    let count : c.needs_count.result ≡ length needs = c.needs_count.ensures in
    let fa = c.add_vars.new.cnf in
    let va = ap (λ (h : Formula). h.vars) c.add_vars.ensures in
    let second = c.vars-held.result in
    let se : second ≡ f.vars + length needs = (let v = c.vars-held.ensures.value in omega (arith, va, count, v)) in
    let is = live-by-steps g k xs f table vs nv.cycles us nv.first second n same over fe se refl in
    let few = subst (λ (h : Formula). length h.clauses ≤ most_clauses) (sym is) c.requires.clauses in
    let limit = subst (λ (h : Formula). h.vars ≤ most_vars) (sym is) c.requires.vars in
    let held : c.holds_count.result ≡ length holds = c.holds_count.ensures.value ∙ sym (holds-are-counted table k) ∙ ap (λ m. length (all_holds table m)) (sym same) in
    let f1 = c.add_vars-2.new.cnf in
    let e1 : f1 ≡ record f { vars = n } = vars_and_vars f fa f1 c.needs_count.result (length needs) (length holds) c.add_vars.ensures (c.add_vars-2.ensures ∙ ap {A = ℕ} {B = Formula} (λ m. record { vars = fa.vars + m; clauses = fa.clauses }) held) count in
    let ns = numbered nv.first needs in
    let A = need_clauses g xs ns in
    let B = earlier_clauses ns in
    let C = last_need_clauses g nv.cycles xs ns us in
    let D = hold_clauses g nv.cycles xs ns (numbered second holds) in
    let G = hold_groups k (numbered second (all_holds table k)) in
    let p = length g.pool in
    let size = c.counters_count.ensures.size in
    let f2 = c.add_needs.new.cnf in
    let e2 : f2 ≡ with_clauses f1 A = c.in_ok-add_needs.ensures in
    let f3 = c.add_earlier.new.cnf in
    let e3 : f3 ≡ with_clauses f2 B = c.in_ok-add_earlier.ensures in
    let f4 = c.add_last_needs.new.cnf in
    let e4 : f4 ≡ with_clauses f3 C = c.in_ok-add_last_needs.ensures in
    let f5 = c.add_holds.new.cnf in
    let e5 : f5 ≡ with_clauses f4 D = c.in_ok-add_holds.ensures in
    let v = vars5 A B C D G p n f f1 f2 f3 f4 f5 e1 e2 e3 e4 e5 in
    let long = ap (λ m. length (all_holds table m)) same in
    omega (arith, se, v, long)

pub add_hold_counters-requires-clause-vars : goal.add_hold_counters-requires-clause-vars
add_hold_counters-requires-clause-vars c =
    let g = c.args.plan.now.frame.facts.now in
    let k = c.args.plan.now.frame.k in
    let f = c.args.cnf.now in
    let table = c.args.plan.now.frame.table.now in
    let xs = numbered 0 c.args.plan.now.launches.now in
    let vs = numbered c.args.plan.now.over.now.first (all_overwritten g k) in
    let nv = c.in_ok-needs.needs in
    let same : nv.cycles ≡ k = c.in_ok-needs.ensures.cycles in
    let ov = c.args.plan.now.over.now in
    let us = numbered ov.first (all_overwritten g ov.cycles) in
    let at : ov.first ≡ c.args.plan.now.over.now.first = refl in
    let oc : ov.cycles ≡ k = c.requires.over.cycles_are in
    let over : us ≡ vs = ap (λ a. numbered a (all_overwritten g ov.cycles)) at ∙ ap (λ a. numbered c.args.plan.now.over.now.first (all_overwritten g a)) oc in
    let needs = all_needs nv.cycles (pooled_classes g xs) in
    let holds = all_holds table nv.cycles in
    let n = f.vars + length needs + length holds in
    let fe : nv.first ≡ f.vars = c.in_ok-needs.ensures.first ∙ c.vars-first.ensures.value in
    let count : c.needs_count.result ≡ length needs = c.needs_count.ensures in
    let fa = c.add_vars.new.cnf in
    let va = ap (λ (h : Formula). h.vars) c.add_vars.ensures in
    let second = c.vars-held.result in
    let se : second ≡ f.vars + length needs = (let v = c.vars-held.ensures.value in omega (arith, va, count, v)) in
    let is = live-by-steps g k xs f table vs nv.cycles us nv.first second n same over fe se refl in
    let few = subst (λ (h : Formula). length h.clauses ≤ most_clauses) (sym is) c.requires.clauses in
    let limit = subst (λ (h : Formula). h.vars ≤ most_vars) (sym is) c.requires.vars in
    let held : c.holds_count.result ≡ length holds = c.holds_count.ensures.value ∙ sym (holds-are-counted table k) ∙ ap (λ m. length (all_holds table m)) (sym same) in
    let f1 = c.add_vars-2.new.cnf in
    let e1 : f1 ≡ record f { vars = n } = vars_and_vars f fa f1 c.needs_count.result (length needs) (length holds) c.add_vars.ensures (c.add_vars-2.ensures ∙ ap {A = ℕ} {B = Formula} (λ m. record { vars = fa.vars + m; clauses = fa.clauses }) held) count in
    let ns = numbered nv.first needs in
    let A = need_clauses g xs ns in
    let B = earlier_clauses ns in
    let C = last_need_clauses g nv.cycles xs ns us in
    let D = hold_clauses g nv.cycles xs ns (numbered second holds) in
    let G = hold_groups k (numbered second (all_holds table k)) in
    let p = length g.pool in
    let size = c.counters_count.ensures.size in
    let f2 = c.add_needs.new.cnf in
    let e2 : f2 ≡ with_clauses f1 A = c.in_ok-add_needs.ensures in
    let f3 = c.add_earlier.new.cnf in
    let e3 : f3 ≡ with_clauses f2 B = c.in_ok-add_earlier.ensures in
    let f4 = c.add_last_needs.new.cnf in
    let e4 : f4 ≡ with_clauses f3 C = c.in_ok-add_last_needs.ensures in
    let f5 = c.add_holds.new.cnf in
    let e5 : f5 ≡ with_clauses f4 D = c.in_ok-add_holds.ensures in
    let v = vars5 A B C D G p n f f1 f2 f3 f4 f5 e1 e2 e3 e4 e5 in
    omega (arith, limit, v)

pub add_hold_counters-requires-clause-room : goal.add_hold_counters-requires-clause-room
add_hold_counters-requires-clause-room c =
    let g = c.args.plan.now.frame.facts.now in
    let k = c.args.plan.now.frame.k in
    let f = c.args.cnf.now in
    let table = c.args.plan.now.frame.table.now in
    let xs = numbered 0 c.args.plan.now.launches.now in
    let vs = numbered c.args.plan.now.over.now.first (all_overwritten g k) in
    let nv = c.in_ok-needs.needs in
    let same : nv.cycles ≡ k = c.in_ok-needs.ensures.cycles in
    let ov = c.args.plan.now.over.now in
    let us = numbered ov.first (all_overwritten g ov.cycles) in
    let at : ov.first ≡ c.args.plan.now.over.now.first = refl in
    let oc : ov.cycles ≡ k = c.requires.over.cycles_are in
    let over : us ≡ vs = ap (λ a. numbered a (all_overwritten g ov.cycles)) at ∙ ap (λ a. numbered c.args.plan.now.over.now.first (all_overwritten g a)) oc in
    let needs = all_needs nv.cycles (pooled_classes g xs) in
    let holds = all_holds table nv.cycles in
    let n = f.vars + length needs + length holds in
    let fe : nv.first ≡ f.vars = c.in_ok-needs.ensures.first ∙ c.vars-first.ensures.value in
    let count : c.needs_count.result ≡ length needs = c.needs_count.ensures in
    let fa = c.add_vars.new.cnf in
    let va = ap (λ (h : Formula). h.vars) c.add_vars.ensures in
    let second = c.vars-held.result in
    let se : second ≡ f.vars + length needs = (let v = c.vars-held.ensures.value in omega (arith, va, count, v)) in
    let is = live-by-steps g k xs f table vs nv.cycles us nv.first second n same over fe se refl in
    let few = subst (λ (h : Formula). length h.clauses ≤ most_clauses) (sym is) c.requires.clauses in
    let limit = subst (λ (h : Formula). h.vars ≤ most_vars) (sym is) c.requires.vars in
    let held : c.holds_count.result ≡ length holds = c.holds_count.ensures.value ∙ sym (holds-are-counted table k) ∙ ap (λ m. length (all_holds table m)) (sym same) in
    let f1 = c.add_vars-2.new.cnf in
    let e1 : f1 ≡ record f { vars = n } = vars_and_vars f fa f1 c.needs_count.result (length needs) (length holds) c.add_vars.ensures (c.add_vars-2.ensures ∙ ap {A = ℕ} {B = Formula} (λ m. record { vars = fa.vars + m; clauses = fa.clauses }) held) count in
    let ns = numbered nv.first needs in
    let A = need_clauses g xs ns in
    let B = earlier_clauses ns in
    let C = last_need_clauses g nv.cycles xs ns us in
    let D = hold_clauses g nv.cycles xs ns (numbered second holds) in
    let G = hold_groups k (numbered second (all_holds table k)) in
    let p = length g.pool in
    let size = c.counters_count.ensures.size in
    let f2 = c.add_needs.new.cnf in
    let e2 : f2 ≡ with_clauses f1 A = c.in_ok-add_needs.ensures in
    let f3 = c.add_earlier.new.cnf in
    let e3 : f3 ≡ with_clauses f2 B = c.in_ok-add_earlier.ensures in
    let f4 = c.add_last_needs.new.cnf in
    let e4 : f4 ≡ with_clauses f3 C = c.in_ok-add_last_needs.ensures in
    let f5 = c.add_holds.new.cnf in
    let e5 : f5 ≡ with_clauses f4 D = c.in_ok-add_holds.ensures in
    room5 A B C D G p n f f1 f2 f3 f4 f5 e1 size few e2 e3 e4 e5

pub returns : goal.returns
returns c =
    let g = c.args.plan.now.frame.facts.now in
    let k = c.args.plan.now.frame.k in
    let f = c.args.cnf.now in
    let table = c.args.plan.now.frame.table.now in
    let xs = numbered 0 c.args.plan.now.launches.now in
    let vs = numbered c.args.plan.now.over.now.first (all_overwritten g k) in
    let nv = c.in_ok-needs.needs in
    let same : nv.cycles ≡ k = c.in_ok-needs.ensures.cycles in
    let ov = c.args.plan.now.over.now in
    let us = numbered ov.first (all_overwritten g ov.cycles) in
    let at : ov.first ≡ c.args.plan.now.over.now.first = refl in
    let oc : ov.cycles ≡ k = c.requires.over.cycles_are in
    let over : us ≡ vs = ap (λ a. numbered a (all_overwritten g ov.cycles)) at ∙ ap (λ a. numbered c.args.plan.now.over.now.first (all_overwritten g a)) oc in
    let needs = all_needs nv.cycles (pooled_classes g xs) in
    let holds = all_holds table nv.cycles in
    let n = f.vars + length needs + length holds in
    let fe : nv.first ≡ f.vars = c.in_ok-needs.ensures.first ∙ c.vars-first.ensures.value in
    let count : c.needs_count.result ≡ length needs = c.needs_count.ensures in
    let fa = c.add_vars.new.cnf in
    let va = ap (λ (h : Formula). h.vars) c.add_vars.ensures in
    let second = c.vars-held.result in
    let se : second ≡ f.vars + length needs = (let v = c.vars-held.ensures.value in omega (arith, va, count, v)) in
    let is = live-by-steps g k xs f table vs nv.cycles us nv.first second n same over fe se refl in
    let few = subst (λ (h : Formula). length h.clauses ≤ most_clauses) (sym is) c.requires.clauses in
    let limit = subst (λ (h : Formula). h.vars ≤ most_vars) (sym is) c.requires.vars in
    let held : c.holds_count.result ≡ length holds = c.holds_count.ensures.value ∙ sym (holds-are-counted table k) ∙ ap (λ m. length (all_holds table m)) (sym same) in
    let f1 = c.add_vars-2.new.cnf in
    let e1 : f1 ≡ record f { vars = n } = vars_and_vars f fa f1 c.needs_count.result (length needs) (length holds) c.add_vars.ensures (c.add_vars-2.ensures ∙ ap {A = ℕ} {B = Formula} (λ m. record { vars = fa.vars + m; clauses = fa.clauses }) held) count in
    let ns = numbered nv.first needs in
    let A = need_clauses g xs ns in
    let B = earlier_clauses ns in
    let C = last_need_clauses g nv.cycles xs ns us in
    let D = hold_clauses g nv.cycles xs ns (numbered second holds) in
    let G = hold_groups k (numbered second (all_holds table k)) in
    let p = length g.pool in
    let size = c.counters_count.ensures.size in
    let f2 = c.add_needs.new.cnf in
    let e2 : f2 ≡ with_clauses f1 A = c.in_ok-add_needs.ensures in
    let f3 = c.add_earlier.new.cnf in
    let e3 : f3 ≡ with_clauses f2 B = c.in_ok-add_earlier.ensures in
    let f4 = c.add_last_needs.new.cnf in
    let e4 : f4 ≡ with_clauses f3 C = c.in_ok-add_last_needs.ensures in
    let f5 = c.add_holds.new.cnf in
    let e5 : f5 ≡ with_clauses f4 D = c.in_ok-add_holds.ensures in
    let counted : Formula = record { vars = f5.vars + counters_vars p G; clauses = f5.clauses ++ counters f5.vars p G } in
    then_same c.add_hold_counters.result c.add_hold_counters.new.cnf counted (formula_with_live_ranges g k xs f table vs) (live-ends A B C D G p n f f1 f2 f3 f4 f5 e1 e2 e3 e4 e5 ∙ is) c.add_hold_counters.ensures
