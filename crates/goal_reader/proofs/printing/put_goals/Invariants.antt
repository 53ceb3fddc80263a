use Rattle.std.proofs.Common.{◌≡◌, ◌∷◌, ◌++◌, [], take}
use Rattle.std.specs.List.{flat_map}
use Rattle.forms.specs.Printing.{plain_text}
use Rattle.goal_meaning.specs.InputForms.{goal_plain}
use Rattle.goal_meaning.specs.Views.{goal_view}
use Rattle.goal_meaning.specs.declared.goals.Goal.{Goal}
use Rattle.goal_reader.proofs.printing.put_goals.Given as goal

abbrev pub invariant-loop-goal : goal.invariant-loop-goal
invariant-loop-goal l = l.text.items ≡ l.initial.text.items ++ flat_map (λ x. plain_text ((λ (a : Goal). goal_plain l.declared (goal_view a)) x) ++ 10 ∷ []) (take l.goal-index l.goals)
