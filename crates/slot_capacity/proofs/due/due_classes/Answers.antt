use Rattle.std.proofs.Common.{◌≡◌, ◌∙◌, ◌+◌, ◌≤◌, suc, ap, sym, refl, arith}
use Rattle.std.proofs.lemmas.Bool.Decides.{Decides-eqb}
use Rattle.std.proofs.lemmas.Slice.Eq.{slice_eq-Decides}
use Rattle.graph_meaning.specs.declared.graphs.LaunchGraph.{LaunchGraph}
use Rattle.graph_meaning.specs.WellFormed.{next_class}
use Rattle.slot_capacity.specs.Due.{due_within, more_due}
use Rattle.slot_capacity.proofs.Loops.{stuck}
use Rattle.slot_capacity.proofs.due.due_classes.Goals as goal

pub returns-then-eq : goal.returns-then-eq
returns-then-eq c =
    let g = c.args.makers.now.frame.facts.now in
    let spans = c.args.makers.now.spans.items in
    let n = c.loop-step._step in
    let due = c.loop-step.due.items in
    let same : c.as_slice.result.now ≡ c.as_slice-in-loop-step.result.now =
    (slice_eq-Decides Decides-eqb c.as_slice.result.now c.as_slice-in-loop-step.result.now c.eq.result c.eq.ensures).0
    c.if-eq.true in
    let is : due ≡ due_within g spans n = c.loop-step.invariant in
    let kept : more_due g spans due ≡ due =
    ap (more_due g spans) (sym c.deref.ensures.value) ∙ sym c.in_ok-more.ensures ∙ sym c.as_slice.ensures.value ∙ same
    ∙ c.as_slice-in-loop-step.ensures.value in
    let lt = c.loop-step-test.true in
    let end = c.next_class-step-end.ensures ∙ ap (λ (g : LaunchGraph). next_class g.rows) c.graph.ensures in
    let le : n ≤ next_class g.rows = omega arith in
    is ∙ stuck (due_within g spans) (more_due g spans) (λ n. refl) n (next_class g.rows) le
    (ap (more_due g spans) (sym is) ∙ kept ∙ is)

pub loop-step-preserved : goal.loop-step-preserved
loop-step-preserved c =
    let g = c.args.makers.now.frame.facts.now in
    let spans = c.args.makers.now.spans.items in
    let n = c.loop-step._step in
    let one : suc n ≡ n + 1 = omega arith in
    c.in_ok-more.ensures ∙ ap (more_due g spans) (c.deref.ensures.value ∙ c.loop-step.invariant)
    ∙ ap (due_within g spans) one

pub returns : goal.returns
returns c =
    let g = c.args.makers.now.frame.facts.now in
    let spans = c.args.makers.now.spans.items in
    let end = c.next_class-step-end.ensures ∙ ap (λ (g : LaunchGraph). next_class g.rows) c.graph.ensures in
    let past = c.loop-step-test.false in
    let within = c.loop-step.auto._step-end in
    let last : c.loop-step._step ≡ next_class g.rows = omega arith in
    c.loop-step.invariant ∙ ap (due_within g spans) last
