use Rattle.std.proofs.Common.{[], ◌∷◌, ◌∙◌, sym, subst}
use Rattle.word_ops.specs.declared.sorts.Op.TheVariants.{Input}
use Rattle.goal_meaning.specs.declared.goals.InputReg.{InputReg}
use Rattle.saturation.specs.OverLets.{AreInsertedOver, CanInsertAll, none_over}
use Rattle.saturation.specs.GoalTerms.{input_term, input_terms}
use Rattle.saturation.proofs.StartSteps.{in_map, at_map, leaf_is, next_can, one_more}
use Rattle.saturation.proofs.first_graph.insert_inputs.Goals as goal

pub loop-input-init : goal.loop-input-init
loop-input-init c = none_over

pub insert_term-requires : goal.insert_term-requires
insert_term-requires c =
    let inputs = c.args.inputs.now in
    let x = c.input-item.result in
    let k = c.loop-input.input-index in
    let can = next_can [] c.args.graph.now c.loop-input.graph (input_terms inputs) k (input_term x.reg) (in_map (λ (i : InputReg). input_term i.reg) inputs k x c.loop-input-test.true c.input-item.is) c.requires.can c.loop-input.invariant in
    let at = at_map (λ (i : InputReg). input_term i.reg) inputs k x c.loop-input-test.true c.input-item.is in
    let leaf = leaf_is _ (Input x.reg) _ c.new.ensures.items c.application.ensures.tree in
    record { can = subst (λ t. CanInsertAll c.loop-input.graph [] (t ∷ [])) (at ∙ sym leaf) can }

pub loop-input-preserved : goal.loop-input-preserved
loop-input-preserved c =
    let inputs = c.args.inputs.now in
    let x = c.input-item.result in
    let k = c.loop-input.input-index in
    let at = at_map (λ (i : InputReg). input_term i.reg) inputs k x c.loop-input-test.true c.input-item.is in
    let leaf = leaf_is _ (Input x.reg) _ c.new.ensures.items c.application.ensures.tree in
    one_more [] (input_terms inputs) k (input_term x.reg) (in_map (λ (i : InputReg). input_term i.reg) inputs k x c.loop-input-test.true c.input-item.is) c.loop-input.invariant
    (subst (λ t. AreInsertedOver [] (t ∷ []) c.loop-input.graph c.insert_term.new.graph) (leaf ∙ sym at) c.in_ok-insert_term.ensures.inserted)
