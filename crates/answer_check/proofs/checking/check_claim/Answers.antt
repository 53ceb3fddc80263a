use Rattle.std.proofs.Common.{List, subst, sym}
use Rattle.std.specs.Prelude.{IfSome}
use Rattle.answer_texts.specs.AnswerLines.{refuted_below, refuted_cycles}
use Rattle.cnf_core.specs.declared.line.Lines.{Lines}
use Rattle.graph_meaning.specs.WellFormed.{IsLaunchGraph}
use Rattle.graph_meaning.specs.declared.graphs.LaunchGraph.{LaunchGraph}
use Rattle.cycle_encoding.specs.CycleFormula.{allocation_in}
use Rattle.order_encoding.specs.WholeFormula.{formula_in}
use Rattle.schedule_meaning.specs.Fits.{Fits}
use Rattle.schedule_meaning.specs.declared.schedules.Launch.{Launch}
use Rattle.schedule_meaning.specs.declared.schedules.Allocation.{Allocation}
use Rattle.answer_check.specs.Soundness.{DoesAsClaimed}
use Rattle.answer_check.specs.Verdicts.{IsFitting, IsListed}
use Rattle.answer_check.proofs.Claims.{few_lines, if_none, none_below, true_claim, where_none, where_some}
use Rattle.answer_check.proofs.checking.check_claim.Goals as goal

pub wrong_size-requires-clause-graph : goal.wrong_size-requires-clause-graph
wrong_size-requires-clause-graph c = subst IsLaunchGraph (sym c.requires.facts) c.requires.graph

pub refused_below-requires-clause-graph : goal.refused_below-requires-clause-graph
refused_below-requires-clause-graph c = subst IsLaunchGraph (sym c.requires.facts) c.requires.graph

pub refused_lemma-requires-clause-graph : goal.refused_lemma-requires-clause-graph
refused_lemma-requires-clause-graph c = subst IsLaunchGraph (sym c.requires.facts) c.requires.graph

pub refused_below-requires-clause-few : goal.refused_below-requires-clause-few
refused_below-requires-clause-few c =
    few_lines (refuted_below c.args.goal.now.claim) c.args.goal.now.refute c.requires.refute

pub returns-in-Some-clause-outcome : goal.returns-in-Some-clause-outcome
returns-in-Some-clause-outcome c =
    let g = c.args.graph.now in
    let table = c.args.table.now in
    let claim = c.args.goal.now.claim in (
      subst (λ (x : Allocation). IsFitting table x g claim) c.allocation-allocation.ensures c.in_default.ensures.fits,
      subst (λ (x : Allocation). IsListed table x g claim) c.allocation-allocation.ensures
          (c.in_ok-is_listed.ensures.listed.0 c.if-not-branch.false),
      where_some _ _ c.in_ok-sizes.field-0 c.in-Some.sizes c.in-Some.is c.in_ok-sizes.ensures,
    )

pub returns-clause-sound : goal.returns-clause-sound
returns-clause-sound c =
    let g = c.args.graph.now in
    let table = c.args.table.now in
    let a = allocation_in c.args.scope.now in
    let claim = c.args.goal.now.claim in
    let none = subst
    (λ (x : LaunchGraph). IfSome c.args.goal.now.refute
    (λ (l : Lines). (ls : List Launch) → Fits x table a (refuted_cycles claim) ls → ⊥))
    c.requires.facts (if_none c.in_ok-rejected.field-0 c.in_default-3.is c.in_ok-rejected.ensures.none_fits) in
    λ holds. true_claim table a g (formula_in c.args.scope.now c.args.facts.now table) claim c.requires.world
    (subst (λ (x : Allocation). IsFitting table x g claim) c.allocation-allocation.ensures c.in_default.ensures.fits)
    (subst (λ (x : Allocation). DoesAsClaimed table x g claim) c.allocation-allocation.ensures
    (c.in_ok-is_listed.ensures.does c.if-not-branch.false))
    (where_none _ c.in_ok-sizes.field-0 c.in_default-2.is c.in_ok-sizes.ensures).1
    (where_none _ c.in_ok-rejected-2.field-0 c.in_default-4.is c.in_ok-rejected-2.ensures)
    (none_below table a g (λ k m ls le fit. c.schedules_fit_or_break.ensures.longer g table a k m ls c.requires.table le fit)
    (refuted_below claim) c.args.goal.now.refute c.requires.refute none)
