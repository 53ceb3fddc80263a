use Rattle.std.proofs.Common.{◌≡◌, ◌∷◌, ◌++◌, take}
use Rattle.std.specs.List.{flat_map}
use Rattle.forms.specs.Printing.{plain_text}
use Rattle.goal_meaning.specs.InputForms.{assume_plain, naming}
use Rattle.goal_meaning.specs.Views.{assume_view}
use Rattle.goal_meaning.specs.declared.goals.Assume.{Assume}
use Rattle.goal_reader.proofs.printing.put_assumes.Given as goal

abbrev pub invariant-loop-assume : goal.invariant-loop-assume
invariant-loop-assume l = l.text.items ≡ l.initial.text.items ++ flat_map (λ x. 32 ∷ plain_text ((λ (a : Assume). assume_plain (naming l.declared l.inputs l.names) (assume_view a)) x)) (take l.assume-index l.assumes)
