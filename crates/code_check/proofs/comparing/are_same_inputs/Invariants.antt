use Rattle.std.proofs.Common.{ℕ}
use Rattle.code_check.specs.Compared.{ArePresentClasses}
use Rattle.code_check.specs.Terms.{TermState}
use Rattle.code_check.proofs.Comparisons.{AreSameUpTo}
use Rattle.code_check.proofs.comparing.are_same_inputs.Given as goal

abbrev pub invariant-loop-input : goal.invariant-loop-input
invariant-loop-input l = (ts : TermState) (memory : ℕ) → ArePresentClasses l.graph l.classes memory ts → AreSameUpTo l.graph l.inputs ts l.input-index
