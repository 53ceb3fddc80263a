use Rattle.std.proofs.Common.{◌≡◌, map, take, length, All}
use Rattle.word_terms.specs.Tree.{substituted, AreBelow}
use Rattle.word_terms.specs.View.{tree_of, trees_of}
use Rattle.word_terms.proofs.term.+subst.Given as goal

abbrev pub invariant-loop-operand : goal.invariant-loop-operand
invariant-loop-operand g l = record {
  done : trees_of l.made.items ≡ map (substituted (trees_of l.values)) (trees_of (take l.operand-index l.operand-items));
  in_range : All (λ t. AreBelow (length l.values) (tree_of t)) l.operand-items;
}
