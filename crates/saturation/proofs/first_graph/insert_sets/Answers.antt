use Rattle.std.proofs.Common.{[], ◌∷◌, map, sym, subst}
use Rattle.word_terms.specs.View.{tree_of}
use Rattle.goal_meaning.specs.Views.{target_view}
use Rattle.saturation.specs.OverLets.{AreInsertedOver, CanInsertAll, none_over}
use Rattle.saturation.specs.GoalTerms.{set_terms}
use Rattle.saturation.proofs.StartSteps.{value_in_map, value_at_map, next_can, one_more}
use Rattle.saturation.proofs.first_graph.insert_sets.Goals as goal

pub loop-set-init : goal.loop-set-init
loop-set-init c = none_over

pub insert_term-requires : goal.insert_term-requires
insert_term-requires c =
    let sets = c.args.sets.now in
    let x = c.set-item.result in
    let k = c.loop-set.set-index in
    let can = next_can c.args.lets.now c.args.graph.now c.loop-set.graph (set_terms (map target_view sets)) k (tree_of x.value) (value_in_map sets k x c.loop-set-test.true c.set-item.is) c.requires.can c.loop-set.invariant in
    record { can = subst (λ t. CanInsertAll c.loop-set.graph c.args.lets.now (t ∷ [])) (value_at_map sets k x c.loop-set-test.true c.set-item.is) can }

pub loop-set-preserved : goal.loop-set-preserved
loop-set-preserved c =
    let sets = c.args.sets.now in
    let x = c.set-item.result in
    let k = c.loop-set.set-index in
    one_more c.args.lets.now (set_terms (map target_view sets)) k (tree_of x.value) (value_in_map sets k x c.loop-set-test.true c.set-item.is) c.loop-set.invariant
    (subst (λ t. AreInsertedOver c.args.lets.now (t ∷ []) c.loop-set.graph c.insert_term.new.graph) (sym (value_at_map sets k x c.loop-set-test.true c.set-item.is)) c.in_ok-insert_term.ensures.inserted)
