use Rattle.std.proofs.Common.{take}
use Rattle.word_terms.specs.Tree.{operands_of}
use Rattle.word_terms.specs.View.{tree_of, trees_of}
use Rattle.word_terms.specs.OperatorsIn.{operators_in}
use Rattle.saturation.specs.Trace.{AreBuilt}
use Rattle.saturation.proofs.applying.+build.Given as goal

abbrev pub invariant-loop-operand : goal.invariant-loop-operand
invariant-loop-operand l = AreBuilt l.places (operands_of (take l.operand-index (trees_of l.operand-items))) l.fn.graph l.classes.items l.graph

abbrev pub decreases-build : goal.decreases-build
decreases-build l = operators_in (tree_of l.term.now)
