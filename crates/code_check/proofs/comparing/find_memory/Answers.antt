use Rattle.std.proofs.Common.{List, [], length, map, rules, sym, subst, ◌∙◌}
use Rattle.std.specs.List.{AllZip}
use Rattle.std.proofs.lemmas.Result.{IfOk-weaker}
use Rattle.word_ops.specs.declared.sorts.Op.{Op}
use Rattle.word_terms.specs.Tree.{Tree, substituted}
use Rattle.word_terms.specs.View.{tree_of}
use Rattle.pattern_match.specs.Classes.{IsClass}
use Rattle.goal_meaning.specs.Expanded.{expanded_target}
use Rattle.goal_meaning.specs.Views.{target_view}
use Rattle.code_check.specs.Compared.{FindsClass}
use Rattle.code_check.proofs.Comparisons.{before_more, memory_found, no_memory_before, none_before, set_over, target_below}
use Rattle.code_check.proofs.comparing.find_memory.Goals as goal

pub loop-set-init : goal.loop-set-init
loop-set-init c = λ es. none_before (map (expanded_target es) (map target_view c.args.sets.now))

pub find_term-requires : goal.find_term-requires
find_term-requires c = record {
  present = c.requires.present;
  below = target_below c.args.sets.now c.loop-set.set-index c.set-item.result c.loop-set-test.true c.set-item.is (length c.args.lets.now) c.requires.below;
}

pub returns-then-is_memory_set : goal.returns-then-is_memory_set
returns-then-is_memory_set c =
    let g = c.args.graph.now in
    let t = target_view c.set-item.result in
    IfOk-weaker c.find_term.result
    (λ found. (es : List (Tree Op)) → AllZip (IsClass g []) es c.args.lets.now → FindsClass g (substituted es (tree_of c.set-item.result.value)) found) _
    (λ found h es zip.
    subst (λ u. FindsClass g u found)
    (memory_found (map (expanded_target es) (map target_view c.args.sets.now)) c.loop-set.set-index (expanded_target es t)
    (set_over c.args.sets.now c.loop-set.set-index c.set-item.result c.loop-set-test.true c.set-item.is es)
    (sym c.is_memory_set.ensures ∙ search rules) (c.loop-set.invariant es)) (h es zip))
    c.find_term.ensures

pub loop-set-preserved : goal.loop-set-preserved
loop-set-preserved c = λ es.
    before_more (map (expanded_target es) (map target_view c.args.sets.now)) c.loop-set.set-index (expanded_target es (target_view c.set-item.result))
    (set_over c.args.sets.now c.loop-set.set-index c.set-item.result c.loop-set-test.true c.set-item.is es)
    (sym c.is_memory_set.ensures ∙ search rules) (c.loop-set.invariant es)

pub returns : goal.returns
returns c = λ es zip.
    subst (λ t. FindsClass c.args.graph.now t c.find_leaf.result)
    (sym (no_memory_before c.args.sets.now es c.loop-set.set-index (search rules) (c.loop-set.invariant es))) c.find_leaf.ensures
