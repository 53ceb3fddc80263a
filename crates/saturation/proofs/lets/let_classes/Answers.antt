use Rattle.std.proofs.Common.{[], ◌+◌, map, take, sym, subst}
use Rattle.std.specs.List.{AllZip}
use Rattle.std.proofs.lemmas.Option.{MatchOption-at_some}
use Rattle.word_terms.specs.View.{tree_of}
use Rattle.pattern_match.specs.Classes.{CanFindClass, IsClass}
use Rattle.goal_meaning.specs.Expanded.{expanded_terms, let_values}
use Rattle.goal_meaning.specs.Views.{let_view}
use Rattle.saturation.proofs.LetSteps.{found_term, let_can, let_found, let_there}
use Rattle.saturation.proofs.StartSteps.{let_in_map, let_at_map}
use Rattle.saturation.proofs.lets.let_classes.Goals as goal

pub class_of_pattern-requires : goal.class_of_pattern-requires
class_of_pattern-requires c =
    let lets = c.args.lets.now in
    let x = c.one-item.result in
    let k = c.loop-one.one-index in
    record {
      can = subst (λ cs. CanFindClass c.args.graph.now cs (tree_of x.value)) (sym c.deref.ensures.value)
          (let_can c.args.graph.now c.requires.graph (let_values (map let_view lets)) k (tree_of x.value) (let_in_map lets k x c.loop-one-test.true c.one-item.is) (let_at_map lets k x c.loop-one-test.true c.one-item.is) c.loop-one.classes.items c.loop-one.invariant c.requires.below);
    }

pub unwrap-class-requires : goal.unwrap-class-requires
unwrap-class-requires c =
    let lets = c.args.lets.now in
    let x = c.one-item.result in
    let k = c.loop-one.one-index in
    let there = let_there c.args.graph.now c.requires.graph (let_values (map let_view lets)) k (tree_of x.value) (let_in_map lets k x c.loop-one-test.true c.one-item.is) (let_at_map lets k x c.loop-one-test.true c.one-item.is) c.loop-one.classes.items c.loop-one.invariant c.requires.below c.requires.there in
    found_term c.args.graph.now c.deref.result.now (tree_of x.value) c.in_ok-class_of_pattern.field-0 c.in_ok-class_of_pattern.ensures.exact
    (subst (λ cs. (n : _) × IsClass c.args.graph.now cs (tree_of x.value) n) (sym c.deref.ensures.value) there)

pub loop-one-preserved : goal.loop-one-preserved
loop-one-preserved c =
    let lets = c.args.lets.now in
    let x = c.one-item.result in
    let k = c.loop-one.one-index in
    let class = c.unwrap-class.result in
    let is = subst (λ cs. IsClass c.args.graph.now cs (tree_of x.value) class) c.deref.ensures.value (MatchOption-at_some _ _ class c.unwrap-class.ensures c.in_ok-class_of_pattern.ensures.exact) in
    subst (λ cs. AllZip (IsClass c.args.graph.now []) (expanded_terms [] (take (k + 1) (let_values (map let_view lets)))) cs) (sym c.in_ok-push.ensures.items)
    (let_found c.args.graph.now c.requires.graph (let_values (map let_view lets)) k (tree_of x.value) (let_in_map lets k x c.loop-one-test.true c.one-item.is) (let_at_map lets k x c.loop-one-test.true c.one-item.is) c.loop-one.classes.items c.loop-one.invariant class is)
