use Rattle.std.proofs.Common.{[], ◌+◌, map, take, sym, subst}
use Rattle.word_terms.specs.View.{tree_of}
use Rattle.goal_meaning.specs.Expanded.{let_values}
use Rattle.goal_meaning.specs.Views.{let_view}
use Rattle.saturation.specs.OverLets.{AreLetsInserted, no_let}
use Rattle.saturation.specs.Trace.{CanBuild, IsBuilt}
use Rattle.saturation.proofs.StartSteps.{let_in_map, let_at_map, next_let_can, one_more_let}
use Rattle.saturation.proofs.first_graph.insert_lets.Goals as goal

pub loop-one-init : goal.loop-one-init
loop-one-init c = subst (λ cs. AreLetsInserted [] [] c.args.graph.now cs c.args.graph.now) (sym c.new-classes.ensures.items) no_let

pub build-requires : goal.build-requires
build-requires c =
    let lets = c.args.lets.now in
    let x = c.one-item.result in
    let k = c.loop-one.one-index in
    let can = next_let_can c.args.graph.now c.loop-one.graph (let_values (map let_view lets)) k (tree_of x.value) c.loop-one.classes.items (let_in_map lets k x c.loop-one-test.true c.one-item.is) c.requires.can c.loop-one.invariant in
    record {
      can = subst (λ cs. CanBuild c.loop-one.graph cs (tree_of x.value)) (sym c.deref.ensures.value)
          (subst (CanBuild c.loop-one.graph c.loop-one.classes.items) (let_at_map lets k x c.loop-one-test.true c.one-item.is) can);
    }

pub loop-one-preserved : goal.loop-one-preserved
loop-one-preserved c =
    let lets = c.args.lets.now in
    let x = c.one-item.result in
    let k = c.loop-one.one-index in
    let class = c.in_ok-class.class in
    let built = subst (λ cs. IsBuilt cs (tree_of x.value) c.loop-one.graph class c.build.new.graph) c.deref.ensures.value c.in_ok-class.ensures.built in
    subst (λ cs. AreLetsInserted [] (take (k + 1) (let_values (map let_view lets))) c.args.graph.now cs c.build.new.graph) (sym c.in_ok-push.ensures.items)
    (one_more_let (let_values (map let_view lets)) k (tree_of x.value) c.loop-one.classes.items class (let_in_map lets k x c.loop-one-test.true c.one-item.is) c.loop-one.invariant
    (subst (λ t. IsBuilt c.loop-one.classes.items t c.loop-one.graph class c.build.new.graph) (sym (let_at_map lets k x c.loop-one-test.true c.one-item.is)) built))
