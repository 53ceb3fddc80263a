use Rattle.std.proofs.Common.{[], ◌∷◌, map, sym, subst}
use Rattle.word_ops.specs.declared.sorts.Op.TheVariants.{Entry}
use Rattle.goal_meaning.specs.Expanded.{let_values}
use Rattle.goal_meaning.specs.Views.{goal_view, let_view}
use Rattle.saturation.specs.OverLets.{AreInsertedOver, AreLetsInserted, CanInsertAll, CanInsertLets, terms_over_lets}
use Rattle.saturation.specs.GoalTerms.{entry_term, input_terms}
use Rattle.saturation.proofs.StartSteps.{entry_can, inputs_can, leaf_is, lets_can, over_append, terms_can}
use Rattle.saturation.proofs.first_graph.insert_all.Goals as goal
use Rattle.saturation.proofs.first_graph.insert_all.Goals.{After-as_slice, After-as_slice-2, In_ok-lets}

pub insert_term-requires : goal.insert_term-requires
insert_term-requires c =
    record { can = subst (λ t. CanInsertAll c.args.graph.now [] (t ∷ [])) (sym (leaf_is _ Entry _ c.new.ensures.items c.application.ensures.tree)) (entry_can (goal_view c.args.goal.now) c.args.graph.now c.requires.can) }

entry_done : (c : After-as_slice) → AreInsertedOver [] (entry_term ∷ []) c.args.graph.now c.insert_term.new.graph
entry_done c = subst (λ t. AreInsertedOver [] (t ∷ []) c.args.graph.now c.insert_term.new.graph) (leaf_is _ Entry _ c.new.ensures.items c.application.ensures.tree) c.in_ok-insert_term.ensures.inserted

pub insert_inputs-requires : goal.insert_inputs-requires
insert_inputs-requires c =
    record { can = subst (λ xs. CanInsertAll c.insert_term.new.graph [] (input_terms xs)) (sym c.as_slice.ensures) (inputs_can (goal_view c.args.goal.now) c.args.graph.now c.requires.can (entry_done c)) }

leaves_done : (c : After-as_slice-2) → AreInsertedOver [] (entry_term ∷ input_terms c.args.goal.now.inputs) c.args.graph.now c.insert_inputs.new.graph
leaves_done c =
    over_append [] (entry_done (goal.at.insert_lets-requires c).After-as_slice)
    (subst (λ xs. AreInsertedOver [] (input_terms xs) c.insert_term.new.graph c.insert_inputs.new.graph) c.as_slice.ensures c.in_ok-insert_inputs.ensures.inserted)

pub insert_lets-requires : goal.insert_lets-requires
insert_lets-requires c =
    record { can = subst (λ xs. CanInsertLets c.insert_inputs.new.graph (let_values (map let_view xs))) (sym c.as_slice-2.ensures) (lets_can (goal_view c.args.goal.now) c.args.graph.now c.requires.can c.insert_inputs.new.graph (leaves_done c)) }

lets_done : (c : In_ok-lets) → AreLetsInserted [] (let_values (goal_view c.args.goal.now).lets) c.insert_inputs.new.graph c.in_ok-lets.lets.items c.insert_lets.new.graph
lets_done c = subst (λ xs. AreLetsInserted [] (let_values (map let_view xs)) c.insert_inputs.new.graph c.in_ok-lets.lets.items c.insert_lets.new.graph) c.as_slice-2.ensures c.in_ok-lets.ensures.inserted

pub insert_terms-requires : goal.insert_terms-requires
insert_terms-requires c =
    let can = terms_can (goal_view c.args.goal.now) c.args.graph.now c.requires.can c.insert_inputs.new.graph (leaves_done (goal.at.insert_terms-requires c).After-as_slice-2) c.insert_lets.new.graph c.in_ok-lets.lets.items
    (lets_done (goal.at.insert_terms-requires c).In_ok-lets) in
    record { can = subst (λ ls. CanInsertAll c.insert_lets.new.graph ls (terms_over_lets (goal_view c.args.goal.now))) (sym c.deref.ensures.value) can }

pub returns : goal.returns
returns c = record {
  inserted = record {
    first = c.insert_inputs.new.graph;
    second = c.insert_lets.new.graph;
    leaves = leaves_done (goal.at.returns c).After-as_slice-2;
    named = lets_done (goal.at.returns c).In_ok-lets;
    terms = subst (λ ls. AreInsertedOver ls (terms_over_lets (goal_view c.args.goal.now)) c.insert_lets.new.graph c.insert_terms.new.graph) c.deref.ensures.value c.in_ok-insert_terms.ensures.inserted;
  };
}
