use Rattle.std.proofs.Common.{take}
use Rattle.word_terms.specs.Tree.{operands_of}
use Rattle.word_terms.specs.View.{tree_of, trees_of}
use Rattle.pattern_match.specs.Classes.{AreClasses}
use Rattle.pattern_match.specs.Bindings.{node_count}
use Rattle.pattern_match.proofs.reading.+class_of_pattern.Given as goal

abbrev pub decreases-class_of_pattern : goal.decreases-class_of_pattern
decreases-class_of_pattern l = node_count (tree_of l.pattern.now)

abbrev pub invariant-loop-operand : goal.invariant-loop-operand
invariant-loop-operand l = AreClasses l.graph l.places (operands_of (take l.operand-index (trees_of l.operand-items))) l.classes.items
