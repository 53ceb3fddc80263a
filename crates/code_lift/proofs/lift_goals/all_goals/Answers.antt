use Rattle.std.proofs.Common.{List, ◌∷◌, ◌++◌, [], ◌∙◌, ap, ap₂, map, subst, sym, take}
use Rattle.std.proofs.lemmas.List.{map-append, take_more}
use Rattle.goal_meaning.specs.Views.{goal_view}
use Rattle.code_lift.specs.Lifted.{goal_of_lift}
use Rattle.code_lift.specs.Views.{lift_view}
use Rattle.code_lift.specs.WellFormed.{IsLift}
use Rattle.code_lift.specs.declared.lifts.Lift.{Lift}
use Rattle.code_lift.proofs.lift_goals.all_goals.Goals as goal

pub goal-requires : goal.goal-requires
goal-requires c =
    subst (λ (l : Lift). IsLift (lift_view l)) (sym c.lift-item.is) (c.requires c.loop-lift.lift-index c.lift-item.result c.loop-lift-test.true)

pub loop-lift-preserved : goal.loop-lift-preserved
loop-lift-preserved c =
    let lifts = c.args.lifts.now in
    let i = c.loop-lift.lift-index in
    let one = c.lift-item.result in
    let made = c.in_ok-goal.field-0 in
    ap (map goal_view) c.in_ok-push.ensures.ok ∙ map-append goal_view c.loop-lift.goals (made ∷ [])
    ∙ ap₂ (λ gs g. gs ++ g ∷ []) c.loop-lift.invariant c.in_ok-goal.ensures
    ∙ sym (ap (λ (ls : List Lift). map goal_of_lift (map lift_view ls)) (take_more lifts i one c.loop-lift-test.true ∙ ap (λ (l : Lift). take i lifts ++ l ∷ []) (sym c.lift-item.is))
    ∙ ap (map goal_of_lift) (map-append lift_view (take i lifts) (one ∷ [])) ∙ map-append goal_of_lift (map lift_view (take i lifts)) (lift_view one ∷ []))
