use Rattle.std.proofs.Common.{◌∙◌, ◌+◌, ◌∷◌, [], List, ℕ, ap, arith}
use Rattle.std.specs.List.{range_with_len}
use Rattle.cnf_core.specs.declared.literal.Lit.{Lit}
use Rattle.cycle_encoding.specs.Shapes.{numbered, negative, implied, vars_of}
use Rattle.cycle_encoding.specs.Steps.{with_clauses}
use Rattle.cycle_encoding.proofs.Adding.{added, size-with, vars-with}
use Rattle.order_encoding.specs.OrderFamilies.{branches_by}
use Rattle.order_encoding.proofs.AddSteps.{put_together}
use Rattle.order_encoding.proofs.Found.{branches_are, implies_exist}
use Rattle.order_encoding.proofs.Grid.{range-clauses, range-clauses-part}
use Rattle.order_encoding.proofs.guard.add_comes.Goals as goal

pub add-requires-clause-exist : goal.add-requires-clause-exist
add-requires-clause-exist c =
    let g = c.args.plan.now.frame.facts.now in
    let t = c.loop-cycle.cycle in
    let ls = c.args.plan.now.launches.now in
    let var = c.args.first + t + 1 in
    let F = λ (t : ℕ). vars_of (branches_by g t) (numbered 0 ls) ∷ [] in
    let is = put_together c.new-clause.result.items c.push.new.self.items c.push_branches.new.lits.items _ (vars_of (branches_by g t) (numbered 0 ls)) (negative var) c.new-clause.ensures.items c.in_ok-push.ensures.items c.in_ok-push_branches.ensures (branches_are g ls c.args.found.now t c.requires.found) in
    let vars = vars-with c.args.cnf.now c.loop-cycle.cnf (implied (numbered c.args.first (range_with_len 0 t)) F) c.loop-cycle.invariant in
    let exist = c.requires.exist in
    let low = c.requires.launches in
    implies_exist (branches_by g t) c.loop-cycle.cnf.vars var ls c.deref.result.now (c.deref.ensures.value ∙ is) (omega arith) (omega (arith, c.loop-cycle-test.true)) (omega arith)

pub add-requires-clause-room : goal.add-requires-clause-room
add-requires-clause-room c =
    let g = c.args.plan.now.frame.facts.now in
    let t = c.loop-cycle.cycle in
    let ls = c.args.plan.now.launches.now in
    let F = λ (t : ℕ). vars_of (branches_by g t) (numbered 0 ls) ∷ [] in
    let a = size-with c.args.cnf.now c.loop-cycle.cnf (implied (numbered c.args.first (range_with_len 0 t)) F) c.loop-cycle.invariant in
    let b = range-clauses-part F c.args.first t c.args.plan.now.frame.k c.loop-cycle-test.true in
    let room = c.requires.room in
    omega arith

pub loop-cycle-preserved : goal.loop-cycle-preserved
loop-cycle-preserved c =
    let g = c.args.plan.now.frame.facts.now in
    let t = c.loop-cycle.cycle in
    let ls = c.args.plan.now.launches.now in
    let var = c.args.first + t + 1 in
    let F = λ (t : ℕ). vars_of (branches_by g t) (numbered 0 ls) ∷ [] in
    let is = put_together c.new-clause.result.items c.push.new.self.items c.push_branches.new.lits.items _ (vars_of (branches_by g t) (numbered 0 ls)) (negative var) c.new-clause.ensures.items c.in_ok-push.ensures.items c.in_ok-push_branches.ensures (branches_are g ls c.args.found.now t c.requires.found) in
    added c.args.cnf.now c.loop-cycle.cnf c.add.new.self ((negative var ∷ vars_of (branches_by g t) (numbered 0 ls)) ∷ []) (implied (numbered c.args.first (range_with_len 0 t)) F) (implied (numbered c.args.first (range_with_len 0 (t + 1))) F) c.loop-cycle.invariant
    (c.in_ok-add.ensures.ok ∙ ap (λ (l : List Lit). with_clauses c.loop-cycle.cnf (l ∷ [])) (c.deref.ensures.value ∙ is)) (range-clauses F c.args.first t)
