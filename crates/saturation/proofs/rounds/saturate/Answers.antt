use Rattle.std.proofs.Common.{◌≢◌, ◌+◌, ◌≤◌, eqb, length, map, sym, subst, arith}
use Rattle.std.proofs.lemmas.Result.{err_from_is_err_and}
use Rattle.saturation.specs.Steps.{StepFits, CallsForRound}
use Rattle.saturation.specs.Trace.{CanApplyAll, AreAllApplied, operators_asked}
use Rattle.saturation.specs.Instances.{asked_of, RefusalOfAll}
use Rattle.saturation.proofs.Asks.{asks_of}
use Rattle.saturation.proofs.LoopSteps.{Ready, running_none, round_can, running_more, fault_is, fault_hopeless, not_last, is_last, end_is, classes_are_kept}
use Rattle.saturation.proofs.rounds.saturate.Goals as goal
use Rattle.saturation.proofs.rounds.saturate.Goals.{After-deref}

pub loop-graph-init : goal.loop-graph-init
loop-graph-init c = running_none c.args.rules.now c.args.graph c.args.rounds c.args.nodes c.requires.few

pub returns-in-End-clause-saturated : goal.returns-in-End-clause-saturated
returns-in-End-clause-saturated c =
    let added = c.args.rules.now in
    let g = c.loop-graph.graph in
    let last = eqb c.loop-graph.done c.args.rounds in
    let fits = subst (StepFits added g last c.args.nodes) c.in-End.is c.in_ok-stop.ensures.step in
    record {
      after = c.loop-graph.invariant.after;
      stops = end_is added g c.args.rounds c.args.nodes c.loop-graph.done last c.in-End.stop (is_last c.loop-graph.done c.args.rounds) (not_last c.loop-graph.done c.args.rounds) fits;
      graph = c.made-made.ensures.graph;
    }

pub returns-in-End-clause-classes : goal.returns-in-End-clause-classes
returns-in-End-clause-classes c = classes_are_kept c.args.graph c.loop-graph.graph c.loop-graph.invariant.follows

-- what is known where a round is made
record Facts (c : After-deref) : Type 0 where
  pub ready : Ready c.args.rules.now c.loop-graph.graph (map asked_of c.in-Round.asked.items) (operators_asked (map asked_of c.in-Round.asked.items))
  pub some : length (map asked_of c.in-Round.asked.items) ≢ 0
  pub more : c.loop-graph.done ≢ c.args.rounds
  pub within : length c.loop-graph.graph.rows + operators_asked (map asked_of c.in-Round.asked.items) ≤ c.args.nodes

facts : (c : After-deref) → Facts c
facts c =
    let added = c.args.rules.now in
    let g = c.loop-graph.graph in
    let last = eqb c.loop-graph.done c.args.rounds in
    let asked = map asked_of c.in-Round.asked.items in
    let on : CallsForRound added g last c.args.nodes asked = subst (StepFits added g last c.args.nodes) c.in-Round.is c.in_ok-stop.ensures.step in
    record {
      ready = record {
        graph = c.made-made.ensures.graph;
        usable = λ r. c.schemes_are_true.ensures.usable added r on.rules;
        are = on.are;
        asks = asks_of c.constants_are_numbered.ensures.numbers c.computed_rules_are_true.ensures.one added g c.made-made.ensures.graph asked on.are;
        need_is = let w = on.within in omega (arith, w, c.requires.nodes);
      };
      some = on.some;
      more = not_last c.loop-graph.done c.args.rounds on.more;
      within = on.within;
    }

pub apply_all-requires : goal.apply_all-requires
apply_all-requires c =
    let f = facts c in
    let asked = map asked_of c.in-Round.asked.items in
    let can = round_can c.args.rules.now c.args.graph c.args.rounds c.args.nodes c.loop-graph.graph c.loop-graph.done c.loop-graph.invariant asked (operators_asked asked) f.ready c.requires.rounds c.requires.nodes f.some f.more f.within in
    record { can = subst (λ xs. CanApplyAll c.loop-graph.graph (map asked_of xs)) (sym c.deref.ensures.value) can }

pub returns-in_err-graph-in-Round-clause-fault : goal.returns-in_err-graph-in-Round-clause-fault
returns-in_err-graph-in-Round-clause-fault c =
    let f = facts (goal.at.returns-in_err-graph-in-Round-clause-fault c).After-deref in
    let asked = map asked_of c.in-Round.asked.items in
    let fault = c.in_err-graph-in-Round.field-0.0 in
    let r = subst (λ xs. RefusalOfAll (map asked_of xs) c.loop-graph.graph fault) c.deref.ensures.value c.in_err-graph-in-Round.ensures.fault in
    let is = fault_is c.args.rules.now c.args.graph c.args.rounds c.args.nodes c.loop-graph.graph c.loop-graph.done c.loop-graph.invariant asked (operators_asked asked) f.ready c.requires.rounds c.requires.nodes f.some f.more f.within fault r in
    let p = err_from_is_err_and c.from_residual-in_err-graph-in-Round.result c.from_residual-in_err-graph-in-Round.ensures.1 in
    rw (p.1, p.2) is

pub returns-in_err-graph-in-Round-clause-hopeless : goal.returns-in_err-graph-in-Round-clause-hopeless
returns-in_err-graph-in-Round-clause-hopeless c =
    let f = facts (goal.at.returns-in_err-graph-in-Round-clause-hopeless c).After-deref in
    let asked = map asked_of c.in-Round.asked.items in
    let fault = c.in_err-graph-in-Round.field-0.0 in
    let r = subst (λ xs. RefusalOfAll (map asked_of xs) c.loop-graph.graph fault) c.deref.ensures.value c.in_err-graph-in-Round.ensures.fault in
    let is = fault_hopeless c.args.rules.now c.args.graph c.args.rounds c.args.nodes c.loop-graph.graph c.loop-graph.done c.loop-graph.invariant asked (operators_asked asked) f.ready c.requires.rounds c.requires.nodes f.some f.more f.within c.meanings_are_in_range.ensures.values c.schemes_are_true.ensures.true_rules fault r in
    let p = err_from_is_err_and c.from_residual-in_err-graph-in-Round.result c.from_residual-in_err-graph-in-Round.ensures.1 in
    rw (p.1, p.2) is

pub loop-graph-preserved : goal.loop-graph-preserved
loop-graph-preserved c =
    let f = facts (goal.at.loop-graph-preserved c).After-deref in
    let asked = map asked_of c.in-Round.asked.items in
    let made = subst (λ xs. AreAllApplied (map asked_of xs) c.loop-graph.graph c.in_ok-graph-in-Round.graph) c.deref.ensures.value c.in_ok-graph-in-Round.ensures.made in
    running_more c.args.rules.now c.args.graph c.args.rounds c.args.nodes c.loop-graph.graph c.loop-graph.done c.loop-graph.invariant asked (operators_asked asked) f.ready c.requires.rounds c.requires.nodes f.some f.more f.within c.meanings_are_in_range.ensures.values c.schemes_are_true.ensures.true_rules c.in_ok-graph-in-Round.graph made
