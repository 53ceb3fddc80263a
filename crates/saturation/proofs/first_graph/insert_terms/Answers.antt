use Rattle.std.proofs.Common.{map, OnOk, option_map, sym, subst}
use Rattle.std.proofs.lemmas.Result.{on_ok_weaker}
use Rattle.word_terms.specs.View.{tree_of}
use Rattle.goal_meaning.specs.Views.{assume_view, target_view}
use Rattle.saturation.specs.OverLets.{AreInsertedOver, CanInsertAll}
use Rattle.saturation.specs.GoalTerms.{assume_terms, guard_terms, set_terms}
use Rattle.saturation.proofs.StartSteps.{first_of_three, second_of_three, third_of_three, over_append}
use Rattle.saturation.proofs.first_graph.insert_terms.Goals as goal
use Rattle.saturation.proofs.first_graph.insert_terms.Goals.{In_ok-insert_assumes}

assumed : (c : In_ok-insert_assumes) → AreInsertedOver c.args.lets.now (assume_terms (map assume_view c.args.goal.now.assumes)) c.args.graph.now c.insert_assumes.new.graph
assumed c = subst (λ xs. AreInsertedOver c.args.lets.now (assume_terms (map assume_view xs)) c.args.graph.now c.insert_assumes.new.graph) c.as_slice.ensures c.in_ok-insert_assumes.ensures.inserted

pub insert_assumes-requires : goal.insert_assumes-requires
insert_assumes-requires c =
    let g = c.args.goal.now in
    let can = first_of_three c.args.lets.now c.args.graph.now (assume_terms (map assume_view g.assumes)) (guard_terms (option_map tree_of g.guard)) (set_terms (map target_view g.sets)) c.requires.can in
    record { can = subst (λ xs. CanInsertAll c.args.graph.now c.args.lets.now (assume_terms (map assume_view xs))) (sym c.as_slice.ensures) can }

pub insert_guard-requires : goal.insert_guard-requires
insert_guard-requires c =
    let g = c.args.goal.now in
    record { can = second_of_three c.args.lets.now c.args.graph.now (assume_terms (map assume_view g.assumes)) (guard_terms (option_map tree_of g.guard)) (set_terms (map target_view g.sets)) c.requires.can (assumed (goal.at.insert_guard-requires c).In_ok-insert_assumes) }

pub insert_sets-requires : goal.insert_sets-requires
insert_sets-requires c =
    let g = c.args.goal.now in
    let can = third_of_three c.args.lets.now c.args.graph.now (assume_terms (map assume_view g.assumes)) (guard_terms (option_map tree_of g.guard)) (set_terms (map target_view g.sets)) c.requires.can
    (assumed (goal.at.insert_sets-requires c).In_ok-insert_assumes) c.in_ok-insert_guard.ensures.inserted in
    record { can = subst (λ xs. CanInsertAll c.insert_guard.new.graph c.args.lets.now (set_terms (map target_view xs))) (sym c.as_slice-2.ensures) can }

pub returns : goal.returns
returns c =
    let before = over_append c.args.lets.now (assumed (goal.at.returns c).In_ok-insert_assumes) c.in_ok-insert_guard.ensures.inserted in
    let last = subst (λ xs. OnOk c.insert_sets.result (AreInsertedOver c.args.lets.now (set_terms (map target_view xs)) c.insert_guard.new.graph c.insert_sets.new.graph)) c.as_slice-2.ensures c.insert_sets.ensures.inserted in
    record { inserted = on_ok_weaker c.insert_sets.result (over_append c.args.lets.now before) last }
