use Rattle.std.proofs.Common.{◌≡◌, ◌∙◌, ◌+◌, ◌<◌, ◌≤◌, List, suc, ap, subst, sym, refl, arith}
use Rattle.std.specs.Prelude.{All}
use Rattle.graph_meaning.specs.WellFormed.{next_class}
use Rattle.slot_capacity.specs.declared.deadlines.Deadline.{Deadline}
use Rattle.slot_capacity.proofs.Keeping.{deadlines-low}
use Rattle.std.proofs.lemmas.Slice.Eq.{slice_eq-Decides}
use Rattle.slot_capacity.specs.Deadlines.{all_lowered, deadlines_within}
use Rattle.slot_capacity.proofs.Loops.{stuck}
use Rattle.slot_capacity.proofs.SameDeadlines.{deadlines-same}
use Rattle.slot_capacity.proofs.deadlines.deadlines.Goals as goal

pub all_lowered-requires-clause-low : goal.all_lowered-requires-clause-low
all_lowered-requires-clause-low c =
    let g = c.args.makers.now.frame.facts.now in
    subst (λ (xs : List Deadline). All (λ x. x.class < next_class g.rows) xs)
    (sym (c.deref.ensures.value ∙ c.loop-step.invariant))
    (deadlines-low g c.args.makers.now.frame.table.now c.args.makers.now.frame.k c.args.makers.now.spans.items c.loop-step._step)

pub returns-then-eq : goal.returns-then-eq
returns-then-eq c =
    let steps = deadlines_within c.args.makers.now.frame.facts.now c.args.makers.now.frame.table.now c.args.makers.now.frame.k c.args.makers.now.spans.items in
    let next = all_lowered c.args.makers.now.frame.facts.now c.args.makers.now.frame.table.now c.args.makers.now.frame.k c.args.makers.now.spans.items in
    let n = c.loop-step._step in
    let xs = c.loop-step.deadlines.items in
    let same : c.as_slice.result.now ≡ c.as_slice-in-loop-step.result.now =
    (slice_eq-Decides deadlines-same c.as_slice.result.now c.as_slice-in-loop-step.result.now c.eq.result
    c.eq.ensures).0
    c.if-eq.true in
    let is : xs ≡ steps n = c.loop-step.invariant in
    let kept : next xs ≡ xs =
    ap next (sym c.deref.ensures.value) ∙ sym c.in_ok-lower.ensures ∙ sym c.as_slice.ensures.value ∙ same
    ∙ c.as_slice-in-loop-step.ensures.value in
    let lt = c.loop-step-test.true in
    let le : n ≤ c.args.makers.now.frame.k = omega arith in
    is ∙ stuck steps next (λ n. refl) n c.args.makers.now.frame.k le (ap next (sym is) ∙ kept ∙ is)

pub loop-step-preserved : goal.loop-step-preserved
loop-step-preserved c =
    let steps = deadlines_within c.args.makers.now.frame.facts.now c.args.makers.now.frame.table.now c.args.makers.now.frame.k c.args.makers.now.spans.items in
    let next = all_lowered c.args.makers.now.frame.facts.now c.args.makers.now.frame.table.now c.args.makers.now.frame.k c.args.makers.now.spans.items in
    let n = c.loop-step._step in
    let one : suc n ≡ n + 1 = omega arith in
    c.in_ok-lower.ensures ∙ ap next (c.deref.ensures.value ∙ c.loop-step.invariant) ∙ ap steps one

pub returns : goal.returns
returns c =
    let steps = deadlines_within c.args.makers.now.frame.facts.now c.args.makers.now.frame.table.now c.args.makers.now.frame.k c.args.makers.now.spans.items in
    let past = c.loop-step-test.false in
    let within = c.loop-step.auto._step-end in
    let last : c.loop-step._step ≡ c.args.makers.now.frame.k = omega arith in
    c.loop-step.invariant ∙ ap steps last
