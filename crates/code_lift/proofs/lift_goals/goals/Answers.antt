use Rattle.std.proofs.Common.{List, ap, ap₂, ◌∙◌, map, subst, sym}
use Rattle.std.specs.Prelude.{All}
use Rattle.goal_meaning.specs.Views.{GoalTree, InputTree, axiom_view}
use Rattle.goal_meaning.specs.WellFormed.{IsInput}
use Rattle.goal_meaning.specs.declared.goals.Axiom.{Axiom}
use Rattle.goal_meaning.specs.declared.goals.DeclaredOp.{DeclaredOp}
use Rattle.code_lift.specs.Lifted.{goal_of_lift}
use Rattle.code_lift.specs.Views.{lift_view, lifts_view}
use Rattle.code_lift.specs.WellFormed.{IsLift}
use Rattle.code_lift.specs.declared.lifts.Lift.{Lift}
use Rattle.code_lift.proofs.KeptPromises.{back}
use Rattle.code_lift.proofs.lift_goals.goals.Goals as goal

pub all_goals-requires : goal.all_goals-requires
all_goals-requires c = subst (All (λ (l : Lift). IsLift (lift_view l))) (sym c.as_slice.ensures) (back IsLift lift_view c.args.lifts.lifts c.requires.each)

pub returns-clause-well_formed : goal.returns-clause-well_formed
returns-clause-well_formed c =
    let lifts = c.args.lifts in
    let made : List DeclaredOp → List Axiom → List GoalTree → InputTree =
    λ os xs gs. record { table = lifts.table; builtin = lifts.builtin; ops = os; axioms = map axiom_view xs; goals = gs } in
    let goals = c.in_ok-goals.ensures ∙ ap (λ (ls : List Lift). map goal_of_lift (map lift_view ls)) c.as_slice.ensures in
    subst IsInput (sym (ap (made c.new-ops.result c.new-axioms.result) goals ∙ ap₂ (λ os xs. made os xs (map goal_of_lift (map lift_view lifts.lifts))) c.new-ops.ensures c.new-axioms.ensures))
    (c.goals_of_lifts_are_well_formed.ensures.well_formed (lifts_view lifts) c.requires)
