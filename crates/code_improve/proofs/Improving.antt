-- The results of the goals of lifts: each schedule's words do the same as the given ones, and each first graph is within
-- the format.
use Rattle.std.proofs.Common.{◌≤◌, List, [], ◌∷◌, map, arith}
use Rattle.std.specs.Prelude.{All}
use Rattle.std.specs.List.{AllZip}
use Rattle.std.proofs.lemmas.List.Elements.{All-head, All-tail}
use Rattle.goal_meaning.specs.Views.{GoalTree, InputTree}
use Rattle.goal_meaning.specs.WellFormed.{IsInput, operators_of_goal}
use Rattle.code_lift.specs.Goals.{input_of_lifts}
use Rattle.code_lift.specs.Lifted.{goal_of_lift}
use Rattle.code_lift.specs.Limits.{most_goal_operators}
use Rattle.code_lift.specs.Views.{LiftTree, LiftsTree}
use Rattle.code_lift.specs.WellFormed.{IsLift}
use Rattle.denali_run.specs.ClaimedResults.{StartsWithinFormat}
use Rattle.denali_run.specs.Right.{Right}
use Rattle.denali_run.specs.declared.results.Answered.{Answered}
use Rattle.denali_run.specs.declared.results.Answered.TheVariants.{Scheduled, Nowhere, SpentConflicts, SpentSize, NoWorld}
use Rattle.denali_run.specs.declared.results.Found.{Found}
use Rattle.denali_run.specs.declared.settings.Settings.{Settings}
use Rattle.code_improve.specs.Improved.{DoesTheSame, IsImproved}

module _ (s : Settings) (lifts : LiftsTree)
    (law : (lift : LiftTree) (f : Found) → IsLift lift → Right (input_of_lifts lifts) (goal_of_lift lift) s (Scheduled f) → DoesTheSame lift f.words) where
  one_same : (lift : LiftTree) (answered : Answered) → IsLift lift
      → Right (input_of_lifts lifts) (goal_of_lift lift) s answered → IsImproved lift answered
  one_same lift (Scheduled f) is right = law lift f is right
  one_same lift (Nowhere m) is right = tt
  one_same lift (SpentConflicts t) is right = tt
  one_same lift (SpentSize l) is right = tt
  one_same lift (NoWorld class a b) is right = tt

  pub all_same : (ls : List LiftTree) (results : List Answered) → All IsLift ls
      → AllZip (λ goal answered. Right (input_of_lifts lifts) goal s answered) (map goal_of_lift ls) results
      → AllZip IsImproved ls results
  all_same [] [] each right = tt
  all_same [] (r ∷ rs) each right = absurd right
  all_same (l ∷ ls) [] each right = absurd right
  all_same (l ∷ ls) (r ∷ rs) each right =
      (one_same l r (All-head IsLift l ls each) right.0, all_same ls rs (All-tail IsLift l ls each) right.1)

pub starts_within : (input : InputTree) → IsInput input
    → All (λ (goal : GoalTree). operators_of_goal goal ≤ most_goal_operators) input.goals → StartsWithinFormat input
starts_within input is few = λ i d lt.
    let one = few i d lt in
    let inputs = (is.goals i d lt).rules.few.0 in
    omega (arith, one, inputs)
