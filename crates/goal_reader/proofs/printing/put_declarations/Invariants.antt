use Rattle.std.proofs.Common.{◌≡◌, ◌∷◌, ◌++◌, [], take}
use Rattle.std.specs.List.{flat_map}
use Rattle.forms.specs.Printing.{plain_text}
use Rattle.goal_meaning.specs.InputForms.{declaration_plain}
use Rattle.goal_reader.proofs.printing.put_declarations.Given as goal

abbrev pub invariant-loop-operator : goal.invariant-loop-operator
invariant-loop-operator l = l.text.items ≡ l.initial.text.items ++ flat_map (λ x. plain_text (declaration_plain x) ++ 10 ∷ []) (take l.operator-index l.operators)
