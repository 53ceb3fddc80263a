use Rattle.std.proofs.Common.{[], ◌∷◌, map, sym, subst}
use Rattle.word_terms.specs.View.{tree_of}
use Rattle.goal_meaning.specs.Views.{assume_view}
use Rattle.saturation.specs.OverLets.{AreInsertedOver, CanInsertAll, none_over}
use Rattle.saturation.specs.GoalTerms.{sides_of}
use Rattle.saturation.proofs.StartSteps.{in_map, at_map, next_all_can, more_of, can_first, can_rest, over_append}
use Rattle.saturation.proofs.first_graph.insert_assumes.Goals as goal
use Rattle.saturation.proofs.first_graph.insert_assumes.Goals.{After-assume-item}

pub loop-assume-init : goal.loop-assume-init
loop-assume-init c = none_over

-- both sides may be inserted
sides_can : (c : After-assume-item) → CanInsertAll c.loop-assume.graph c.args.lets.now (sides_of (assume_view c.assume-item.result))
sides_can c =
    let assumes = c.args.assumes.now in
    let x = c.assume-item.result in
    let k = c.loop-assume.assume-index in
    let can = next_all_can c.args.lets.now sides_of c.args.graph.now c.loop-assume.graph (map assume_view assumes) k (assume_view x) (in_map assume_view assumes k x c.loop-assume-test.true c.assume-item.is) c.requires.can c.loop-assume.invariant in
    subst (λ a. CanInsertAll c.loop-assume.graph c.args.lets.now (sides_of a)) (at_map assume_view assumes k x c.loop-assume-test.true c.assume-item.is) can

pub insert_term-requires : goal.insert_term-requires
insert_term-requires c =
    let x = c.assume-item.result in
    record { can = can_first c.args.lets.now c.loop-assume.graph (tree_of x.left ∷ []) (tree_of x.right ∷ []) (sides_can (goal.at.insert_term-requires c).After-assume-item) }

pub insert_term-requires-in-loop-assume : goal.insert_term-requires-in-loop-assume
insert_term-requires-in-loop-assume c =
    let x = c.assume-item.result in
    record {
      can = can_rest c.args.lets.now c.loop-assume.graph c.insert_term.new.graph (tree_of x.left ∷ []) (tree_of x.right ∷ []) (sides_can (goal.at.insert_term-requires-in-loop-assume c).After-assume-item) c.in_ok-insert_term.ensures.inserted;
    }

pub loop-assume-preserved : goal.loop-assume-preserved
loop-assume-preserved c =
    let assumes = c.args.assumes.now in
    let x = c.assume-item.result in
    let k = c.loop-assume.assume-index in
    let both = over_append c.args.lets.now c.in_ok-insert_term.ensures.inserted c.in_ok-insert_term-2.ensures.inserted in
    more_of c.args.lets.now sides_of (map assume_view assumes) k (assume_view x) (in_map assume_view assumes k x c.loop-assume-test.true c.assume-item.is) c.loop-assume.invariant
    (subst (λ a. AreInsertedOver c.args.lets.now (sides_of a) c.loop-assume.graph c.insert_term-in-loop-assume.new.graph) (sym (at_map assume_view assumes k x c.loop-assume-test.true c.assume-item.is)) both)
