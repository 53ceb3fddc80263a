use Rattle.std.proofs.Common.{◌≡◌, map, bytes_eq}
use Rattle.goal_meaning.specs.Views.{GoalTree, goal_view}
use Rattle.code_check.specs.CodeRoles.{goal_named}
use Rattle.code_check.proofs.Searches.{found_of}
use Rattle.code_check.proofs.reading.goal_number.Given as goal

abbrev pub invariant-loop-number : goal.invariant-loop-number
invariant-loop-number l = goal_named (map goal_view l.goals) l.name ≡ found_of (λ (g : GoalTree). bytes_eq g.name l.name) goal_view l.goals l.number
