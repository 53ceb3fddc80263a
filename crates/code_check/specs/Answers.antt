-- How an answer is made from what the calls below say. No public clause rests on this. Source: this project.
use Rattle.std.specs.Prelude.{◌≡◌, ℕ, List, length, All, IfSome, Option, Some, None}
use Rattle.word_terms.specs.Tree.{AreBelow}
use Rattle.goal_meaning.specs.Expanded.{let_values}
use Rattle.goal_meaning.specs.Views.{GoalTree, TargetTree}
use Rattle.saturation.specs.OverLets.{AreLetsBelow}
use Rattle.graph_meaning.specs.declared.stops.Stop.{Stop}
use Rattle.code_check.specs.declared.codes.Part.{Part}
use Rattle.code_check.specs.declared.codes.Verified.{Verified}
use Rattle.code_check.specs.declared.codes.Verified.TheVariants.{Yes, Unknown}

-- yes where no part differs
abbrev pub IsAnswerOf : ℕ → Stop → Option Part → Verified → Type 0
IsAnswerOf j stop None answer = answer ≡ Yes
IsAnswerOf j stop (Some part) answer = answer ≡ Unknown j stop part

-- the terms have only so many lets in them
abbrev pub AreTargetsBelow : ℕ → List TargetTree → Type 0
AreTargetsBelow n sets = All (λ (t : TargetTree). AreBelow n t.value) sets

-- the terms have only the goal's lets in them, and those of lets only the lets before them
pub record IsGoalBelow (goal : GoalTree) : Type 0 where
  pub lets : AreLetsBelow (let_values goal.lets)
  pub guard : IfSome goal.guard (AreBelow (length goal.lets))
  pub sets : AreTargetsBelow (length goal.lets) goal.sets
