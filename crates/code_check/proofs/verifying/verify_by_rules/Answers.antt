use Rattle.std.proofs.Common.{◌≡◌, ◌<◌, ℕ, Ok, Some, length, map, sym, subst, ◌∙◌}
use Rattle.std.specs.Prelude.{slice_get}
use Rattle.std.proofs.lemmas.List.Elements.{All-contains}
use Rattle.std.proofs.lemmas.Option.{same_Some}
use Rattle.std.proofs.lemmas.Result.{IfOk-weaker}
use Rattle.axiom_library.specs.declared.libraries.Library.{Library}
use Rattle.goal_meaning.specs.Views.{GoalTree, InputTree, goal_view, input_view}
use Rattle.goal_meaning.specs.WellFormed.{IsGoal, IsInput}
use Rattle.saturation.specs.AtStart.{IsHopelessAtStart, StartFaultIs, StartNamesLowClass}
use Rattle.saturation.specs.GoalTerms.{rules_of}
use Rattle.code_check.specs.Codes.{FitsGoal}
use Rattle.code_check.specs.Verified.{IsRightFor}
use Rattle.code_check.specs.declared.codes.Verified.TheVariants.{NoWorld}
use Rattle.code_check.proofs.Deciding.{inputs_low}
use Rattle.code_check.proofs.Answering.{few_sets, for_libraries, for_the_code, for_the_goal, goal_among, goal_below, goal_low, goal_there, low_inputs, renamed, start_few}
use Rattle.code_check.proofs.verifying.verify_by_rules.Goals as goal
use Rattle.code_check.proofs.verifying.verify_by_rules.Goals.{After-start}

pub bounds-as_slice-at : goal.bounds-as_slice-at
bounds-as_slice-at c =
    subst (λ gs. c.args.code.now.goal < length gs) (sym c.as_slice.ensures)
    (goal_low c.args.input.now.goals c.args.code.now.goal c.requires.code.goal c.requires.code.of_goal)

pub start-requires : goal.start-requires
start-requires c =
    let goals = c.args.input.now.goals in
    let at = c.args.code.now.goal in
    let g = c.index-as_slice-at.result in
    let low = goal_low goals at c.requires.code.goal c.requires.code.of_goal in
    record {
      goal = (
        c.args.input.now.ops,
        All-contains (IsGoal c.args.input.now.ops) (map goal_view goals) (goal_view g) c.requires.input.goals
            (goal_among goals c.as_slice.result.now at g c.as_slice.ensures low c.index-as_slice-at.is),
      );
    }

-- the goal
record Facts (c : After-start) : Type 0 where
  pub is_goal : IsGoal c.args.input.now.ops (goal_view c.index-as_slice-at.result)
  pub there : slice_get (map goal_view c.args.input.now.goals) c.args.code.now.goal ≡ Some (goal_view c.index-as_slice-at.result)
  pub fits : FitsGoal (goal_view c.index-as_slice-at.result) c.args.code.now

facts : (c : After-start) → Facts c
facts c =
    let goals = c.args.input.now.goals in
    let at = c.args.code.now.goal in
    let g = c.index-as_slice-at.result in
    let low = goal_low goals at c.requires.code.goal c.requires.code.of_goal in
    let is_there = goal_there goals c.as_slice.result.now at g c.as_slice.ensures low c.index-as_slice-at.is in
    record {
      is_goal = All-contains (IsGoal c.args.input.now.ops) (map goal_view goals) (goal_view g) c.requires.input.goals
          (goal_among goals c.as_slice.result.now at g c.as_slice.ensures low c.index-as_slice-at.is);
      there = is_there;
      fits = subst (λ (n : GoalTree). FitsGoal n c.args.code.now)
          (same_Some c.requires.code.goal (goal_view g) (sym c.requires.code.of_goal ∙ is_there)) c.requires.code.fits;
    }

pub returns-in-Err-NoWorld : goal.returns-in-Err-NoWorld
returns-in-Err-NoWorld c =
    let f = facts (goal.at.returns-in-Err-NoWorld c).After-start in
    let input = input_view c.args.input.now in
    let code = c.args.code.now in
    let tree = goal_view c.index-as_slice-at.result in
    let instrs = f.fits.instrs in
    let fault = c.in-Err-NoWorld in
    let answer = NoWorld fault.class fault.a fault.b in
    record {
      right = renamed (λ answer.
          (library : Library) → c.args.rules.now ≡ rules_of library input → (other : GoalTree) → slice_get input.goals code.goal ≡ Some other → IsRightFor input other code c.args.rounds c.args.nodes library answer)
          _ _ _ _ _ _ fault.class-is fault.a-is fault.b-is
          (λ library rules.
          for_the_goal input code c.args.rounds c.args.nodes library {E = ℕ} tree (Ok answer) f.there
          (for_the_code input code c.args.rounds c.args.nodes library tree instrs f.fits.is_code.decode {E = ℕ} (Ok answer) (
            c.compared_graphs_decide.ensures.start input tree instrs c.args.rounds c.args.nodes library fault.class fault.a fault.b c.requires.input
                (subst (StartFaultIs tree) fault.field-0-is fault.ensures.fault) (subst (IsHopelessAtStart tree) fault.field-0-is fault.ensures.hopeless),
            subst StartNamesLowClass fault.field-0-is fault.ensures.low,
          )));
    }

pub verify_from-requires : goal.verify_from-requires
verify_from-requires c =
    let f = facts (goal.at.verify_from-requires c).After-start in
    let input = input_view c.args.input.now in
    let g = c.index-as_slice-at.result in
    record {
      below = goal_below input (goal_view g) f.is_goal;
      inputs = low_inputs g.inputs (inputs_low g.inputs g.pool f.is_goal.rules.low);
      sets = few_sets input g f.is_goal;
      fits = f.fits;
      graph = c.in-Ok.ensures.graph;
      grown = c.in-Ok.ensures.grown;
      stands = c.in-Ok.ensures.stands;
      few = start_few input (goal_view g) f.is_goal (length c.in-Ok.first.current) c.in-Ok.ensures.few_classes;
      rounds = c.requires.rounds;
      nodes = c.requires.nodes;
    }

pub returns-in-Ok : goal.returns-in-Ok
returns-in-Ok c =
    let f = facts (goal.at.returns-in-Ok c).After-start in
    let input = input_view c.args.input.now in
    let code = c.args.code.now in
    let tree = goal_view c.index-as_slice-at.result in
    record {
      right = for_libraries c.verify_from.result (λ library. c.args.rules.now ≡ rules_of library input)
          (λ library answer. (other : GoalTree) → slice_get input.goals code.goal ≡ Some other → IsRightFor input other code c.args.rounds c.args.nodes library answer)
          (λ library rules.
          for_the_goal input code c.args.rounds c.args.nodes library tree c.verify_from.result f.there
          (IfOk-weaker c.verify_from.result (λ answer.
          (another : Library) (of : InputTree) → IsInput of → c.args.rules.now ≡ rules_of another of → IsGoal of.ops tree → IsRightFor of tree code c.args.rounds c.args.nodes another answer) _
          (λ answer h. h library input c.requires.input rules f.is_goal) c.verify_from.ensures.right));
    }
