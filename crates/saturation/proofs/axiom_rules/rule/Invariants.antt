use Rattle.std.proofs.Common.{◌≡◌, length, map, replicate}
use Rattle.std.specs.List.{range_with_len}
use Rattle.word_ops.specs.declared.sorts.Sort.TheVariants as sorts
use Rattle.word_terms.specs.Tree.{variable}
use Rattle.word_terms.specs.View.{trees_of}
use Rattle.goal_meaning.specs.Views.{axiom_view}
use Rattle.saturation.specs.GoalTerms.{variables_below}
use Rattle.saturation.proofs.axiom_rules.rule.Given as goal

abbrev pub invariant-loop-number : goal.invariant-loop-number
invariant-loop-number l =
    (trees_of l.numbered.items ≡ map (λ n. variable (length (variables_below (axiom_view l.equation) n))) (range_with_len 0 l.number))
    × (l.sorts.items ≡ replicate (length (variables_below (axiom_view l.equation) l.number)) sorts.Word)
