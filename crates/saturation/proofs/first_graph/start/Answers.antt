use Rattle.std.proofs.Common.{◌<◌, ◌≤◌, ◌^◌, [], length, map, IfOk, IfErr, sym, subst, subst₂}
use Rattle.std.proofs.lemmas.Result.{IfOk-weaker, IfErr-weaker}
use Rattle.word_ops.specs.declared.sorts.Op.{Op}
use Rattle.word_terms.specs.Keys.{op_signature}
use Rattle.egraph.specs.Graph.{Graph, IsGraph}
use Rattle.goal_meaning.specs.Views.{assume_view, goal_view}
use Rattle.saturation.specs.AtStart.{IsStarted, IsGrownAtStart, StandsAtStart, StartFaultIs, IsHopelessAtStart, most_rows_at_start}
use Rattle.saturation.specs.OverLets.{AreAssumedOver, AreTermsInserted, CanInsertGoal, CanAssumeAll, AssumeFaultOfAll}
use Rattle.saturation.specs.GoalTerms.{assumed_pair}
use Rattle.saturation.specs.declared.faults.StartFault.{StartFault}
use Rattle.saturation.proofs.Closed.{Closed}
use Rattle.saturation.proofs.Started.{all_can, assumes_can, started, grown, stands, few_made, few_classes, few_rows, fault_is, hopeless}
use Rattle.saturation.proofs.first_graph.start.Goals as goal
use Rattle.saturation.proofs.first_graph.start.Goals.{After-as_slice, After-assume_all}

abbrev nothing : Graph Op
nothing = record { rows = []; current = [] }

pub insert_all-requires : goal.insert_all-requires
insert_all-requires c =
    let is = subst (IsGraph op_signature) c.new-graph.ensures.value c.new-graph.ensures.graph in
    let can = all_can c.requires.goal.0 (goal_view c.args.goal.now) c.requires.goal.1 is in
    record { can = subst (λ g. CanInsertGoal g (goal_view c.args.goal.now)) (sym c.new-graph.ensures.value) can }

-- all terms are inserted
record Facts (c : After-as_slice) : Type 0 where
  pub empty : IsGraph op_signature nothing
  pub inserted : AreTermsInserted (goal_view c.args.goal.now) nothing c.in_ok-lets.lets.items c.insert_all.new.graph
  pub closed : Closed c.requires.goal.0 (goal_view c.args.goal.now)

facts : (c : After-as_slice) → Facts c
facts c = record {
  empty = subst (IsGraph op_signature) c.new-graph.ensures.value c.new-graph.ensures.graph;
  inserted = subst (λ g. AreTermsInserted (goal_view c.args.goal.now) g c.in_ok-lets.lets.items c.insert_all.new.graph) c.new-graph.ensures.value c.in_ok-lets.ensures.inserted;
  closed = record {
    lets = c.expanded_terms_are_sorted.ensures.lets c.requires.goal.0 (goal_view c.args.goal.now) c.requires.goal.1;
    assumes = c.expanded_terms_are_sorted.ensures.assumes c.requires.goal.0 (goal_view c.args.goal.now) c.requires.goal.1;
    guard = c.expanded_terms_are_sorted.ensures.guard c.requires.goal.0 (goal_view c.args.goal.now) c.requires.goal.1;
    sets = c.expanded_terms_are_sorted.ensures.sets c.requires.goal.0 (goal_view c.args.goal.now) c.requires.goal.1;
  };
}

pub assume_all-requires : goal.assume_all-requires
assume_all-requires c =
    let f = facts (goal.at.assume_all-requires c).After-as_slice in
    let can = assumes_can c.requires.goal.0 (goal_view c.args.goal.now) c.requires.goal.1 f.closed f.empty c.insert_all.new.graph c.in_ok-lets.lets.items f.inserted in
    record { can = subst₂ (λ ls xs. CanAssumeAll c.insert_all.new.graph ls (map assume_view xs)) (sym c.deref.ensures.value) (sym c.as_slice.ensures) can }

-- what is known of an answer is known of each graph in which the sides are made equal
if_ok : (c : After-assume_all) (P : Graph Op → Type 0) → ((new : Graph Op) → AreAssumedOver c.in_ok-lets.lets.items (map assumed_pair (goal_view c.args.goal.now).assumes) c.insert_all.new.graph new → P new) → IfOk c.assume_all.result P
if_ok c P each =
    IfOk-weaker c.assume_all.result (AreAssumedOver c.deref.result.now (map assumed_pair (map assume_view c.as_slice.result.now)) c.insert_all.new.graph) P
    (λ new h. each new (subst₂ (λ ls xs. AreAssumedOver ls (map assumed_pair (map assume_view xs)) c.insert_all.new.graph new) c.deref.ensures.value c.as_slice.ensures h)) c.assume_all.ensures.assumed

if_err : (c : After-assume_all) (P : StartFault → Type 0) → ((fault : StartFault) → AssumeFaultOfAll c.in_ok-lets.lets.items (map assumed_pair (goal_view c.args.goal.now).assumes) c.insert_all.new.graph fault → P fault) → IfErr c.assume_all.result P
if_err c P each =
    IfErr-weaker c.assume_all.result (AssumeFaultOfAll c.deref.result.now (map assumed_pair (map assume_view c.as_slice.result.now)) c.insert_all.new.graph) P
    (λ fault h. each fault (subst₂ (λ ls xs. AssumeFaultOfAll ls (map assumed_pair (map assume_view xs)) c.insert_all.new.graph fault) c.deref.ensures.value c.as_slice.ensures h)) c.assume_all.ensures.fault

pub returns-clause-started : goal.returns-clause-started
returns-clause-started c =
    let f = facts (goal.at.returns-clause-started c).After-as_slice in
    if_ok (goal.at.returns-clause-started c).After-assume_all (IsStarted (goal_view c.args.goal.now)) (started c.requires.goal.0 (goal_view c.args.goal.now) c.requires.goal.1 f.closed f.empty c.insert_all.new.graph c.in_ok-lets.lets.items f.inserted)

pub returns-clause-grown : goal.returns-clause-grown
returns-clause-grown c =
    let f = facts (goal.at.returns-clause-grown c).After-as_slice in
    if_ok (goal.at.returns-clause-grown c).After-assume_all (IsGrownAtStart (goal_view c.args.goal.now)) (grown c.requires.goal.0 (goal_view c.args.goal.now) c.requires.goal.1 f.closed f.empty c.insert_all.new.graph c.in_ok-lets.lets.items f.inserted)

pub returns-clause-stands : goal.returns-clause-stands
returns-clause-stands c =
    let f = facts (goal.at.returns-clause-stands c).After-as_slice in
    if_ok (goal.at.returns-clause-stands c).After-assume_all (StandsAtStart (goal_view c.args.goal.now)) (stands c.requires.goal.0 (goal_view c.args.goal.now) c.requires.goal.1 f.closed f.empty c.insert_all.new.graph c.in_ok-lets.lets.items f.inserted c.meanings_are_in_range.ensures.values)

pub returns-clause-few : goal.returns-clause-few
returns-clause-few c =
    let f = facts (goal.at.returns-clause-few c).After-as_slice in
    if_ok (goal.at.returns-clause-few c).After-assume_all (λ g. length g.current < 2 ^ 30) (few_made c.requires.goal.0 (goal_view c.args.goal.now) c.requires.goal.1 f.closed f.empty c.insert_all.new.graph c.in_ok-lets.lets.items f.inserted)

pub returns-clause-few_classes : goal.returns-clause-few_classes
returns-clause-few_classes c =
    let f = facts (goal.at.returns-clause-few_classes c).After-as_slice in
    if_ok (goal.at.returns-clause-few_classes c).After-assume_all (λ g. length g.current ≤ most_rows_at_start (goal_view c.args.goal.now)) (few_classes c.requires.goal.0 (goal_view c.args.goal.now) c.requires.goal.1 f.closed f.empty c.insert_all.new.graph c.in_ok-lets.lets.items f.inserted)

pub returns-clause-few_rows : goal.returns-clause-few_rows
returns-clause-few_rows c =
    let f = facts (goal.at.returns-clause-few_rows c).After-as_slice in
    if_ok (goal.at.returns-clause-few_rows c).After-assume_all (λ g. length g.rows ≤ most_rows_at_start (goal_view c.args.goal.now)) (few_rows c.requires.goal.0 (goal_view c.args.goal.now) c.requires.goal.1 f.closed f.empty c.insert_all.new.graph c.in_ok-lets.lets.items f.inserted)

pub returns-clause-fault : goal.returns-clause-fault
returns-clause-fault c =
    let f = facts (goal.at.returns-clause-fault c).After-as_slice in
    if_err (goal.at.returns-clause-fault c).After-assume_all (StartFaultIs (goal_view c.args.goal.now)) (fault_is c.requires.goal.0 (goal_view c.args.goal.now) c.requires.goal.1 f.closed f.empty c.insert_all.new.graph c.in_ok-lets.lets.items f.inserted)

pub returns-clause-hopeless : goal.returns-clause-hopeless
returns-clause-hopeless c =
    let f = facts (goal.at.returns-clause-hopeless c).After-as_slice in
    if_err (goal.at.returns-clause-hopeless c).After-assume_all (IsHopelessAtStart (goal_view c.args.goal.now)) (hopeless c.requires.goal.0 (goal_view c.args.goal.now) c.requires.goal.1 f.closed f.empty c.insert_all.new.graph c.in_ok-lets.lets.items f.inserted c.meanings_are_in_range.ensures.values)
