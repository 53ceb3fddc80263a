use Rattle.std.proofs.Common.{ℕ, ◌<◌, get_or}
use Rattle.word_ops.specs.declared.sorts.Op.{Op}
use Rattle.word_terms.specs.View.{tree_of}
use Rattle.word_terms.specs.declared.term.Term.{Term}
use Rattle.word_terms.specs.Sorting.{Occurs}
use Rattle.axiom_base.proofs.well_formed.+sort_in.Given as goal

abbrev pub invariant-loop-at : goal.invariant-loop-at
invariant-loop-at l = (k : ℕ) (d : Term Op) → k < l.at → Occurs l.number (tree_of (get_or l.operand-items k d)) → ⊥
