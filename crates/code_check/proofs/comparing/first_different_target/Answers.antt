use Rattle.std.proofs.Common.{◌≡◌, true, false, length, map, rules, subst}
use Rattle.goal_meaning.specs.Expanded.{expanded_target}
use Rattle.goal_meaning.specs.Views.{target_view}
use Rattle.code_check.specs.Compared.{TellsTarget}
use Rattle.code_check.proofs.Comparisons.{first_different, no_more, none_below, one_more_same, set_over, target_below}
use Rattle.code_check.proofs.comparing.first_different_target.Goals as goal

pub loop-at-init : goal.loop-at-init
loop-at-init c = λ es ts memory zip are. none_below c.args.graph.now c.args.places.now (map (expanded_target es) (map target_view c.args.sets.now)) ts

pub is_same_target-requires-clause-below : goal.is_same_target-requires-clause-below
is_same_target-requires-clause-below c =
    target_below c.args.sets.now c.loop-at.at c.index-sets-at.result c.loop-at-test.true c.index-sets-at.is (length c.args.lets.now) c.requires.below

pub is_same_target-requires-clause-present : goal.is_same_target-requires-clause-present
is_same_target-requires-clause-present c = c.requires.present

pub is_same_target-requires-clause-places : goal.is_same_target-requires-clause-places
is_same_target-requires-clause-places c = c.requires.places.low

pub is_same_target-requires-clause-differ : goal.is_same_target-requires-clause-differ
is_same_target-requires-clause-differ c = c.requires.places.differ

pub returns-then-not-same : goal.returns-then-not-same
returns-then-not-same c = λ es ts memory zip are.
    let g = c.args.graph.now in
    let sets = c.args.sets.now in
    let t = expanded_target es (target_view c.index-sets-at.result) in
    let all = map (expanded_target es) (map target_view sets) in
    let fails : c.in_ok-same.same ≡ false = search rules in
    let tells : TellsTarget c.args.graph.now c.args.places.now (expanded_target es (target_view c.index-sets-at.result)) ts c.loop-at.at false =
    subst (TellsTarget g c.args.places.now t ts c.loop-at.at) fails (c.in_ok-same.ensures es ts memory zip are) in
    first_different g c.args.places.now all ts c.loop-at.at t
    (set_over sets c.loop-at.at c.index-sets-at.result c.loop-at-test.true c.index-sets-at.is es) (c.loop-at.invariant es ts memory zip are) tells

pub loop-at-preserved : goal.loop-at-preserved
loop-at-preserved c = λ es ts memory zip are.
    let g = c.args.graph.now in
    let sets = c.args.sets.now in
    let t = expanded_target es (target_view c.index-sets-at.result) in
    let all = map (expanded_target es) (map target_view sets) in
    let holds : c.in_ok-same.same ≡ true = search rules in
    let tells : TellsTarget c.args.graph.now c.args.places.now (expanded_target es (target_view c.index-sets-at.result)) ts c.loop-at.at true =
    subst (TellsTarget g c.args.places.now t ts c.loop-at.at) holds (c.in_ok-same.ensures es ts memory zip are) in
    one_more_same g c.args.places.now all ts c.loop-at.at t
    (set_over sets c.loop-at.at c.index-sets-at.result c.loop-at-test.true c.index-sets-at.is es) (c.loop-at.invariant es ts memory zip are) tells

pub returns : goal.returns
returns c = λ es ts memory zip are.
    no_more c.args.graph.now c.args.places.now c.args.sets.now es ts c.loop-at.at (search rules) (c.loop-at.invariant es ts memory zip are)
