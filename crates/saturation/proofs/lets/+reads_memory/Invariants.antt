use Rattle.std.proofs.Common.{◌≡◌, take, false}
use Rattle.word_terms.specs.Tree.{operands_of}
use Rattle.word_terms.specs.View.{trees_of}
use Rattle.saturation.specs.OverLets.{have_select_over}
use Rattle.saturation.proofs.lets.+reads_memory.Given as goal

abbrev pub invariant-loop-operand : goal.invariant-loop-operand
invariant-loop-operand l = have_select_over l.lets (operands_of (take l.operand-index (trees_of l.operand-items))) ≡ false
