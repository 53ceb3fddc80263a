use Rattle.std.proofs.Common.{◌≡◌, false, take}
use Rattle.word_terms.specs.Tree.{operands_of}
use Rattle.word_terms.specs.View.{trees_of}
use Rattle.saturation.specs.GoalTerms.{have_variable}
use Rattle.saturation.proofs.axiom_rules.+has_variable.Given as goal

abbrev pub invariant-loop-operand : goal.invariant-loop-operand
invariant-loop-operand l = have_variable l.number (operands_of (take l.operand-index (trees_of l.operand-items))) ≡ false
