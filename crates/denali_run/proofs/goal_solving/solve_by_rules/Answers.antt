use Rattle.std.proofs.Common.{refl, subst, Contains, length, map, rules, ◌≡◌, ℕ, Ok, Some, slice_get}
use Rattle.std.proofs.lemmas.List.Elements.{All-contains}
use Rattle.axiom_base.specs.Schemes.{AddedRules}
use Rattle.goal_meaning.specs.Names.{declared_name}
use Rattle.goal_meaning.specs.Views.{GoalTree, goal_view, input_view}
use Rattle.goal_meaning.specs.WellFormed.{IsGoal}
use Rattle.saturation.specs.AtStart.{IsHopelessAtStart, StartFaultIs, StartNamesLowClass, most_rows_at_start}
use Rattle.saturation.specs.Launched.{row_in}
use Rattle.saturation.specs.GoalTerms.{assumed_pairs, kept_terms, present_terms, rules_of}
use Rattle.saturation.specs.GraphStands.{GraphStands}
use Rattle.saturation.specs.Rounds.{IsHopeless, IsSaturated, KeepsStanding, RoundsNameLowClass, SaturateFaultIs}
use Rattle.saturation.specs.declared.faults.SaturateFault.TheVariants as faults
use Rattle.denali_run.specs.Right.{Right}
use Rattle.denali_run.specs.declared.results.Answered.TheVariants.{NoWorld}
use Rattle.denali_run.specs.declared.results.Matched.{Matched}
use Rattle.saturation.specs.StandsFor.{StandsFor}
use Rattle.denali_run.proofs.WorkedGoals.{RulesAreTrue, at_start, few_rows, for_the_goal, found_of, grown_after, in_rounds, is_one, launched_few, matched_is, renamed, there}
use Rattle.denali_run.proofs.goal_solving.solve_by_rules.Goals as goal

pub start-requires : goal.start-requires
start-requires c =
    let goals = c.args.input.now.goals in
    let goal = c.index-as_slice-at.result in
    record {
      goal = (
        c.args.input.now.ops,
        All-contains (IsGoal c.args.input.now.ops) (map goal_view goals) (goal_view goal) c.requires.input.goals
            (is_one goals c.as_slice.result.now c.args.at goal c.as_slice.ensures c.requires.at c.index-as_slice-at.is),
      );
    }

pub returns-in-Err-NoWorld : goal.returns-in-Err-NoWorld
returns-in-Err-NoWorld c =
    let input = input_view c.args.input.now in
    let goals = c.args.input.now.goals in
    let goal = c.index-as_slice-at.result in
    let s = c.args.settings.now in
    let fault = c.in-Err-NoWorld in
    let rules_true : RulesAreTrue c.args.settings.now.library (input_view c.args.input.now) (goal_view c.index-as_slice-at.result) =
    λ world is holds. c.axioms_make_rules_true.ensures.true_rules c.args.settings.now.library input (goal_view goal) world c.requires.input holds in
    let answered = NoWorld fault.class fault.a fault.b in
    record {
      right = renamed (λ answered. (goal : GoalTree) → slice_get input.goals c.args.at ≡ Some goal → Right input goal s answered)
          _ _ _ _ _ _ fault.class-is fault.a-is fault.b-is
          (for_the_goal input s c.args.at (goal_view goal)
          (there goals c.as_slice.result.now c.args.at goal c.as_slice.ensures c.requires.at c.index-as_slice-at.is)
          {E = ℕ} (Ok answered)
          (at_start input (goal_view goal) s rules_true fault.class fault.a fault.b
          (subst (StartFaultIs (goal_view goal)) fault.field-0-is fault.ensures.fault)
          (subst (IsHopelessAtStart (goal_view goal)) fault.field-0-is fault.ensures.hopeless)
          (subst StartNamesLowClass fault.field-0-is fault.ensures.low) (search rules) (search rules)));
    }

pub returns-in-Err-NoWorld-saturate : goal.returns-in-Err-NoWorld-saturate
returns-in-Err-NoWorld-saturate c =
    let input = input_view c.args.input.now in
    let goals = c.args.input.now.goals in
    let goal = c.index-as_slice-at.result in
    let s = c.args.settings.now in
    let fault = c.in-Err-NoWorld-saturate in
    let rules_true : RulesAreTrue c.args.settings.now.library (input_view c.args.input.now) (goal_view c.index-as_slice-at.result) =
    λ world is holds. c.axioms_make_rules_true.ensures.true_rules c.args.settings.now.library input (goal_view goal) world c.requires.input holds in
    let at_rules : (F : AddedRules → Type 0) → F c.args.rules.now
    → F (rules_of c.args.settings.now.library (input_view c.args.input.now)) = λ F h. subst F c.requires.rules h in
    let answered = NoWorld fault.class fault.a fault.b in
    record {
      right = renamed (λ answered. (goal : GoalTree) → slice_get input.goals c.args.at ≡ Some goal → Right input goal s answered)
          _ _ _ _ _ _ fault.class-is fault.a-is fault.b-is
          (for_the_goal input s c.args.at (goal_view goal)
          (there goals c.as_slice.result.now c.args.at goal c.as_slice.ensures c.requires.at c.index-as_slice-at.is)
          {E = ℕ} (Ok answered)
          (in_rounds input (goal_view goal) s rules_true c.in-Ok.graph (c.in-Ok.ensures.grown (rules_of s.library input))
          (c.in-Ok.ensures.stands (declared_name c.args.input.now.ops) (rules_of s.library input)) fault.class fault.a fault.b
          (at_rules (λ rs. SaturateFaultIs rs c.in-Ok.graph s.rounds s.nodes (faults.NoWorld fault.class fault.a fault.b))
          (subst (SaturateFaultIs c.args.rules.now c.in-Ok.graph s.rounds s.nodes) fault.field-0-is fault.ensures.fault))
          (at_rules (λ rs. IsHopeless rs c.in-Ok.graph (faults.NoWorld fault.class fault.a fault.b))
          (subst (IsHopeless c.args.rules.now c.in-Ok.graph) fault.field-0-is fault.ensures.hopeless))
          (subst RoundsNameLowClass fault.field-0-is fault.ensures.low) (search rules) (search rules)));
    }

pub to_launch-requires : goal.to_launch-requires
to_launch-requires c =
    let input = input_view c.args.input.now in
    let goals = c.args.input.now.goals in
    let goal = c.index-as_slice-at.result in
    let s = c.args.settings.now in
    let one : Contains (map goal_view c.args.input.now.goals) (goal_view c.index-as_slice-at.result) =
    is_one goals c.as_slice.result.now c.args.at goal c.as_slice.ensures c.requires.at c.index-as_slice-at.is in
    record {
      input = c.requires.input;
      goal = one;
      can = c.grown_graphs_can_be_launched.ensures.can s.library input (goal_view goal) c.in-Ok-saturate.saturated.graph
          c.in-Ok-saturate.saturated.rounds c.requires.input one c.in-Ok-saturate.ensures.saturated.graph
          (few_rows _ _ _ s.nodes c.in-Ok.ensures.few c.in-Ok.ensures.graph.few_rows c.requires.settings.nodes.1
          c.in-Ok-saturate.ensures.few)
          (grown_after s.library input (goal_view goal) c.args.rules.now c.in-Ok.graph
          c.in-Ok-saturate.saturated.graph s.rounds s.nodes c.in-Ok-saturate.saturated.rounds
          c.in-Ok-saturate.saturated.stop c.requires.rules c.in-Ok-saturate.ensures.saturated
          (c.in-Ok.ensures.grown (rules_of s.library input)));
    }

pub returns : goal.returns
returns c =
    let input = input_view c.args.input.now in
    let goals = c.args.input.now.goals in
    let goal = c.index-as_slice-at.result in
    let s = c.args.settings.now in
    let sat = c.in-Ok-saturate.saturated in
    let rules_true : RulesAreTrue c.args.settings.now.library (input_view c.args.input.now) (goal_view c.index-as_slice-at.result) =
    λ world is holds. c.axioms_make_rules_true.ensures.true_rules c.args.settings.now.library input (goal_view goal) world c.requires.input holds in
    let at_rules : (F : AddedRules → Type 0) → F c.args.rules.now
    → F (rules_of c.args.settings.now.library (input_view c.args.input.now)) = λ F h. subst F c.requires.rules h in
    let stands_after : GraphStands (declared_name c.args.input.now.ops) (rules_of c.args.settings.now.library (input_view c.args.input.now))
    (assumed_pairs (goal_view c.index-as_slice-at.result)) (kept_terms (goal_view c.index-as_slice-at.result))
    c.in-Ok-saturate.saturated.graph =
    at_rules (λ rs. KeepsStanding rs c.in-Ok.graph c.in-Ok-saturate.saturated.graph) c.in-Ok-saturate.ensures.stands
    (declared_name c.args.input.now.ops) (assumed_pairs (goal_view goal)) (kept_terms (goal_view goal))
    (c.in-Ok.ensures.stands (declared_name c.args.input.now.ops) (rules_of s.library input)) in
    let saturated : IsSaturated (rules_of c.args.settings.now.library (input_view c.args.input.now)) c.in-Ok.graph c.args.settings.now.rounds
    c.args.settings.now.nodes c.in-Ok-saturate.saturated.graph c.in-Ok-saturate.saturated.rounds
    c.in-Ok-saturate.saturated.stop =
    at_rules (λ rs. IsSaturated rs c.in-Ok.graph s.rounds s.nodes sat.graph sat.rounds sat.stop)
    c.in-Ok-saturate.ensures.saturated in
    let m : Matched = record { graph = c.in_ok-graph.graph; rounds = sat.rounds; stop = sat.stop } in
    let stands_for : StandsFor (input_view c.args.input.now) (goal_view c.index-as_slice-at.result) c.in_ok-graph.graph =
    c.launched_graphs_stand.ensures.stand s.library input (goal_view goal) sat.graph c.in_ok-graph.graph c.requires.input
    c.in_ok-graph.ensures.launched stands_after in
    record {
      right = for_the_goal input s c.args.at (goal_view goal)
          (there goals c.as_slice.result.now c.args.at goal c.as_slice.ensures c.requires.at c.index-as_slice-at.is)
          c.search.result
          (found_of s c.args.input.now.table m c.search.result c.search.ensures input (goal_view goal) refl
          (matched_is input (goal_view goal) s rules_true c.in-Ok.graph (c.in-Ok.ensures.grown (rules_of s.library input))
          (c.in-Ok.ensures.stands (declared_name c.args.input.now.ops) (rules_of s.library input)) sat.graph m saturated
          c.in-Ok-saturate.ensures.rounds c.in_ok-graph.ensures.launched.well_formed
          stands_for
          (launched_few (length c.in-Ok.graph.rows) (most_rows_at_start (goal_view goal)) s.nodes sat.graph.rows
          c.in_ok-graph.graph.rows (row_in c.args.input.now.ops c.in_ok-graph.ensures.launched.class_in)
          c.in_ok-graph.ensures.launched.rows c.in-Ok.ensures.few_rows c.in-Ok-saturate.ensures.few)
          (λ h. c.in_ok-graph.ensures.grown (rules_of s.library input) (present_terms (goal_view goal)) (assumed_pairs (goal_view goal))
          sat.rounds h)
          (λ h. c.in_ok-graph.ensures.stops (rules_of s.library input) s.rounds s.nodes sat.rounds sat.stop
          (c.axioms_make_rules_true.ensures.are_rules s.library input c.requires.input) h)
          (λ i a b grown le clash. c.grown_graphs_are_one.ensures.no_clash (rules_of s.library input)
          (present_terms (goal_view goal)) (assumed_pairs (goal_view goal)) sat.graph sat.rounds i a b saturated.graph grown
          le clash)));
    }
