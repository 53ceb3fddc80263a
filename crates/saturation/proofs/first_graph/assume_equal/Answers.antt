use Rattle.std.proofs.Common.{◌∙◌, sym, subst}
use Rattle.egraph.specs.Graph.{read_through}
use Rattle.goal_meaning.specs.Views.{assume_view}
use Rattle.word_terms.specs.View.{tree_of}
use Rattle.saturation.specs.Trace.{CanBuild, IsBuilt}
use Rattle.saturation.proofs.RoundSteps.{CanJoin}
use Rattle.saturation.proofs.StartSteps.{first_can, lets_made, second_can, sides_can}
use Rattle.saturation.proofs.first_graph.assume_equal.Goals as goal
use Rattle.saturation.proofs.first_graph.assume_equal.Goals.{In_ok-left, In_ok-right}

pub present_classes-requires : goal.present_classes-requires
present_classes-requires c = record { made = lets_made c.args.graph c.args.lets.now (assume_view c.args.assume.now) c.requires.can }

pub build-requires : goal.build-requires
build-requires c =
    record { can = subst (λ ps. CanBuild c.args.graph ps (tree_of c.args.assume.now.left)) (sym (c.deref.ensures.value ∙ c.in_ok-places.ensures)) (first_can c.args.graph c.args.lets.now (assume_view c.args.assume.now) c.requires.can) }

left_built : (c : In_ok-left) → IsBuilt (read_through c.args.graph c.args.lets.now) (tree_of c.args.assume.now.left) c.args.graph c.in_ok-left.left c.build.new.graph
left_built c = subst (λ ps. IsBuilt ps (tree_of c.args.assume.now.left) c.args.graph c.in_ok-left.left c.build.new.graph) (c.deref.ensures.value ∙ c.in_ok-places.ensures) c.in_ok-left.ensures.built

pub build-requires-2 : goal.build-requires-2
build-requires-2 c =
    let can = second_can c.args.graph c.args.lets.now (assume_view c.args.assume.now) c.requires.can c.build.new.graph c.in_ok-left.left (left_built (goal.at.build-requires-2 c).In_ok-left) in
    record { can = subst (λ ps. CanBuild c.build.new.graph ps (tree_of c.args.assume.now.right)) (sym (c.deref-2.ensures.value ∙ c.in_ok-places.ensures)) can }

can_join : (c : In_ok-right) → CanJoin c.build-2.new.graph c.in_ok-right.right c.in_ok-left.left
can_join c =
    sides_can c.args.graph c.args.lets.now (assume_view c.args.assume.now) c.requires.can c.build.new.graph c.in_ok-left.left (left_built (goal.at.merge-requires-clause-a_made c).In_ok-left) c.build-2.new.graph c.in_ok-right.right
    (subst (λ ps. IsBuilt ps (tree_of c.args.assume.now.right) c.build.new.graph c.in_ok-right.right c.build-2.new.graph) (c.deref-2.ensures.value ∙ c.in_ok-places.ensures) c.in_ok-right.ensures.built)

pub merge-requires-clause-a_made : goal.merge-requires-clause-a_made
merge-requires-clause-a_made c = (can_join (goal.at.merge-requires-clause-a_made c).In_ok-right).a_made

pub merge-requires-clause-b_made : goal.merge-requires-clause-b_made
merge-requires-clause-b_made c = (can_join (goal.at.merge-requires-clause-b_made c).In_ok-right).b_made

pub merge-requires-clause-one_sort : goal.merge-requires-clause-one_sort
merge-requires-clause-one_sort c = (can_join (goal.at.merge-requires-clause-one_sort c).In_ok-right).one_sort
