use Rattle.std.proofs.Common.{[], inl, inr}
use Rattle.std.proofs.lemmas.List.Elements.{All-nil}
use Rattle.goal_meaning.specs.Holds.{HoldsFor, HoldsOfAll}
use Rattle.goal_meaning.specs.Views.{AxiomTree}
use Rattle.code_lift.specs.Goals.{input_of_lifts}
use Rattle.code_lift.specs.Lifted.{goal_of_lift}
use Rattle.code_lift.specs.Promises.{MeetsAssumes}
use Rattle.code_improve.proofs.TheSame.{the_same}
use Rattle.code_improve.proofs.laws.improved_code_is_the_same.Goals as goal

pub returns : goal.returns
returns c = λ s lifts lift f is_lift right world is_world goes.
    let met : MeetsAssumes lift world =
    elim (c.lifted_goals_are_their_code.ensures.decided lift world is_lift is_world) [
      | inl met ↦ met
      | inr trap ↦ absurd (goes trap)
    ] in
    let holds : HoldsFor (input_of_lifts lifts) (goal_of_lift lift) world =
    record { axioms = All-nil (λ (a : AxiomTree). HoldsOfAll [] world a); assumes = met } in
    the_same lift world is_lift f.words f.listing.wheres
    (c.lifted_goals_are_their_code.ensures.does lift world is_lift is_world met)
    (right.2.computes world is_world holds)
