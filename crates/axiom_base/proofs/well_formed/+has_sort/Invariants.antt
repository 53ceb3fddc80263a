use Rattle.std.proofs.Common.{ℕ, ◌<◌, get_or}
use Rattle.word_ops.specs.declared.sorts.Op.{Op}
use Rattle.word_ops.specs.Meanings.{operand_sort}
use Rattle.word_terms.specs.Keys.{op_signature}
use Rattle.word_terms.specs.View.{tree_of}
use Rattle.word_terms.specs.declared.term.Term.{Term}
use Rattle.word_terms.specs.Sorting.{HasSort}
use Rattle.axiom_base.proofs.well_formed.+has_sort.Given as goal

abbrev pub invariant-loop-at : goal.invariant-loop-at
invariant-loop-at l = (k : ℕ) (d : Term Op) → k < l.at → HasSort op_signature l.variables (operand_sort l.op k) (tree_of (get_or l.operand-items k d))
