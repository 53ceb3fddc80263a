use Rattle.std.proofs.Common.{List, map}
use Rattle.word_ops.specs.declared.sorts.Op.{Op}
use Rattle.word_terms.specs.Tree.{Tree}
use Rattle.goal_meaning.specs.Expanded.{expanded_target}
use Rattle.goal_meaning.specs.Views.{target_view}
use Rattle.code_check.proofs.Comparisons.{NoMemoryBefore}
use Rattle.code_check.proofs.comparing.find_memory.Given as goal

abbrev pub invariant-loop-set : goal.invariant-loop-set
invariant-loop-set l = (es : List (Tree Op)) → NoMemoryBefore (map (expanded_target es) (map target_view l.sets)) l.set-index
