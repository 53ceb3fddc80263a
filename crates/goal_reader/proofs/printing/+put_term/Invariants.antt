use Rattle.std.proofs.Common.{◌≡◌, ◌∷◌, ◌++◌, take}
use Rattle.std.specs.List.{flat_map}
use Rattle.word_ops.specs.declared.sorts.Op.{Op}
use Rattle.word_terms.specs.View.{tree_of}
use Rattle.word_terms.specs.declared.term.Term.{Term}
use Rattle.forms.specs.Printing.{plain_text}
use Rattle.goal_meaning.specs.InputForms.{naming, term_plain}
use Rattle.goal_reader.proofs.printing.+put_term.Given as goal

abbrev pub decreases-put_term : goal.decreases-put_term
decreases-put_term l = goal.size-put_term l

abbrev pub invariant-loop-operand : goal.invariant-loop-operand
invariant-loop-operand l = l.text.items ≡ l.initial.text.items ++ flat_map (λ (t : Term Op). 32 ∷ plain_text (term_plain (naming l.declared l.inputs l.variables) (tree_of t))) (take l.operand-index l.operand-items)
