use Rattle.std.proofs.Common.{◌≡◌, ◌∷◌, ◌++◌, take}
use Rattle.std.specs.List.{flat_map}
use Rattle.forms.specs.Printing.{plain_text}
use Rattle.goal_meaning.specs.InputForms.{variable_plain}
use Rattle.goal_reader.proofs.printing.put_more_names.Given as goal

abbrev pub invariant-loop-name : goal.invariant-loop-name
invariant-loop-name l = l.text.items ≡ l.initial.text.items ++ flat_map (λ x. 32 ∷ plain_text (variable_plain x)) (take l.name-index l.names)
