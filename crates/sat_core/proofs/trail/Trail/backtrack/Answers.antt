use Rattle.std.proofs.Common.{◌≤◌, ◌-◌, [], ◌∷◌, List, length, take, get_or, ◌<◌, arith, ap, sym, ◌∙◌, subst}
use Rattle.std.proofs.lemmas.List.{take-append-le, get_or_append_left, length-set, length_push}
use Rattle.cnf_core.specs.Formula.{IsLitOf}
use Rattle.sat_core.specs.declared.trail.Step.{Step}
use Rattle.sat_core.specs.declared.trail.Value.TheVariants.{Unassigned}
use Rattle.sat_core.specs.Steps.{AreSteps, var_count}
use Rattle.sat_core.proofs.Deciding.{decisions-pop, decisions-keep}
use Rattle.sat_core.proofs.States.{steps-pop}
use Rattle.sat_core.proofs.trail.Trail.backtrack.Goals as goal

pub loop-self-preserved-then-is_none : goal.loop-self-preserved-then-is_none
loop-self-preserved-then-is_none c =
    let step = c.in-Some.step in
    let front = c.pop.new.self.items in
    let popped = c.in-Some.ensures.items in
    let n = var_count c.args.self.now in
    let values = c.loop-self.self.values.items in
    let indices = c.loop-self.self.indices.items in
    let decisions = c.loop-self.self.decisions.items in
    let decisions' = c.pop-then-is_none.new.self.items in
    let long = length_push front step in
    let more : c.args.count ≤ length front = (let t = c.loop-self-test.true in let size = ap length popped in omega (arith, c.len.ensures, c.loop-self.self.steps.ok.0)) in
    record {
      state = λ clauses h. steps-pop clauses n front step values indices decisions decisions' (decisions-pop decisions decisions' c.loop-self.self.decisions.len front step c.is_none.result c.is_none.ensures c.if-is_none.true c.loop-self.self.decisions.ok.0 c.pop-then-is_none.ensures.rest)
          (subst (λ (ss : List Step). AreSteps clauses n ss values indices decisions) popped (c.loop-self.invariant.state clauses h));
      size = length-set values (step.lit.var - 1) Unassigned ∙ c.loop-self.invariant.size;
      exist = λ k d few. subst (λ (s : Step). IsLitOf n s.lit) (get_or_append_left front (step ∷ []) d k few)
          (subst (λ (ss : List Step). (i : _) → i < length ss → IsLitOf n (get_or ss i d).lit) popped (λ i within. c.loop-self.invariant.exist i d within) k (omega arith));
      front = sym (take-append-le c.args.count front (step ∷ []) more) ∙ sym (ap (take c.args.count) popped) ∙ c.loop-self.invariant.front;
    }

pub loop-self-preserved-else-is_none : goal.loop-self-preserved-else-is_none
loop-self-preserved-else-is_none c =
    let step = c.in-Some.step in
    let front = c.pop.new.self.items in
    let popped = c.in-Some.ensures.items in
    let n = var_count c.args.self.now in
    let values = c.loop-self.self.values.items in
    let indices = c.loop-self.self.indices.items in
    let decisions = c.loop-self.self.decisions.items in
    let long = length_push front step in
    let more : c.args.count ≤ length front = (let t = c.loop-self-test.true in let size = ap length popped in omega (arith, c.len.ensures, c.loop-self.self.steps.ok.0)) in
    record {
      state = λ clauses h. steps-pop clauses n front step values indices decisions decisions (decisions-keep decisions front step c.is_none.result c.is_none.ensures c.if-is_none.false)
          (subst (λ (ss : List Step). AreSteps clauses n ss values indices decisions) popped (c.loop-self.invariant.state clauses h));
      size = length-set values (step.lit.var - 1) Unassigned ∙ c.loop-self.invariant.size;
      exist = λ k d few. subst (λ (s : Step). IsLitOf n s.lit) (get_or_append_left front (step ∷ []) d k few)
          (subst (λ (ss : List Step). (i : _) → i < length ss → IsLitOf n (get_or ss i d).lit) popped (λ i within. c.loop-self.invariant.exist i d within) k (omega arith));
      front = sym (take-append-le c.args.count front (step ∷ []) more) ∙ sym (ap (take c.args.count) popped) ∙ c.loop-self.invariant.front;
    }
