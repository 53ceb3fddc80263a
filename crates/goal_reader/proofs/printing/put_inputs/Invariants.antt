use Rattle.std.proofs.Common.{◌≡◌, ◌∷◌, ◌++◌, take}
use Rattle.std.specs.List.{flat_map}
use Rattle.forms.specs.Printing.{plain_text}
use Rattle.goal_meaning.specs.InputForms.{input_plain}
use Rattle.goal_reader.proofs.printing.put_inputs.Given as goal

abbrev pub invariant-loop-input : goal.invariant-loop-input
invariant-loop-input l = l.text.items ≡ l.initial.text.items ++ flat_map (λ x. 32 ∷ plain_text (input_plain x)) (take l.input-index l.inputs)
