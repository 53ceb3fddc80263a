use Rattle.std.proofs.Common.{◌≡◌, ◌∷◌, ◌++◌, take}
use Rattle.std.specs.List.{flat_map}
use Rattle.forms.specs.Printing.{plain_text}
use Rattle.goal_meaning.specs.InputForms.{let_plain, naming}
use Rattle.goal_meaning.specs.Views.{let_view}
use Rattle.goal_meaning.specs.declared.goals.Let.{Let}
use Rattle.goal_reader.proofs.printing.put_lets.Given as goal

abbrev pub invariant-loop-one : goal.invariant-loop-one
invariant-loop-one l = l.text.items ≡ l.initial.text.items ++ flat_map (λ x. 32 ∷ plain_text ((λ (a : Let). let_plain (naming l.declared l.inputs l.names) (let_view a)) x)) (take l.one-index l.lets)
