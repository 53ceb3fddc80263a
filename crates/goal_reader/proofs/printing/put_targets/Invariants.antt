use Rattle.std.proofs.Common.{◌≡◌, ◌∷◌, ◌++◌, take}
use Rattle.std.specs.List.{flat_map}
use Rattle.forms.specs.Printing.{plain_text}
use Rattle.goal_meaning.specs.InputForms.{target_plain, naming}
use Rattle.goal_meaning.specs.Views.{target_view}
use Rattle.goal_meaning.specs.declared.goals.Set.{Set}
use Rattle.goal_reader.proofs.printing.put_targets.Given as goal

abbrev pub invariant-loop-target : goal.invariant-loop-target
invariant-loop-target l = l.text.items ≡ l.initial.text.items ++ flat_map (λ x. 32 ∷ plain_text ((λ (a : Set). target_plain (naming l.declared l.inputs l.names) (target_view a)) x)) (take l.target-index l.targets)
