use Rattle.std.proofs.Common.{◌∙◌, sym, inl, inr}
use Rattle.cycle_encoding.specs.CycleFormula.{allocation_in, first_cycle_in}
use Rattle.slot_capacity.proofs.SpanFacts.{span-late, span-no-first, span-no-instr, span-no-latency, span-there}
use Rattle.slot_capacity.proofs.spans.row_span.Goals.{then-latency-frame-via-then-latency-frame, then-latency-frame-via-else-latency-frame+then-first-frame}
use Rattle.slot_capacity.proofs.spans.row_span.Goals as goal

pub returns-in_default : goal.returns-in_default
returns-in_default c =
    let s = c.args.frame.now.scope.now in
    span-no-instr c.args.frame.now.facts.now c.args.frame.now.table.now (allocation_in s) c.args.frame.now.k (first_cycle_in s) c.args.row
    (sym c.instr_at.ensures ∙ c.in_default.is)

pub returns-in_default-latency : goal.returns-in_default-latency
returns-in_default-latency c =
    let s = c.args.frame.now.scope.now in
    span-no-latency c.args.frame.now.facts.now c.args.frame.now.table.now (allocation_in s) c.args.frame.now.k (first_cycle_in s) c.args.row
    c.in-Some.instr (sym c.instr_at.ensures ∙ c.in-Some.is) (sym c.latency.ensures ∙ c.in_default-latency.is)

pub returns-in_default-first : goal.returns-in_default-first
returns-in_default-first c =
    let s = c.args.frame.now.scope.now in
    span-no-first c.args.frame.now.facts.now c.args.frame.now.table.now (allocation_in s) c.args.frame.now.k (first_cycle_in s) c.args.row
    c.in-Some.instr (sym c.instr_at.ensures ∙ c.in-Some.is) (sym c.first.ensures ∙ c.in_default-first.is)

pub returns-then-latency-frame : goal.returns-then-latency-frame
returns-then-latency-frame c =
    let s = c.args.frame.now.scope.now in
    span-late c.args.frame.now.facts.now c.args.frame.now.table.now (allocation_in s) c.args.frame.now.k (first_cycle_in s) c.args.row
    c.in-Some.instr (sym c.instr_at.ensures ∙ c.in-Some.is) c.in-Some-latency.latency c.in-Some-first.first
    (sym c.latency.ensures ∙ c.in-Some-latency.is) (sym c.first.ensures ∙ c.in-Some-first.is)
    (elim c.then-latency-frame.branch [
      | then-latency-frame-via-then-latency-frame w ↦ inl w.if-latency-frame.true
      | then-latency-frame-via-else-latency-frame+then-first-frame w ↦ inr w.if-first-frame.true
    ])

pub returns : goal.returns
returns c =
    let s = c.args.frame.now.scope.now in
    span-there c.args.frame.now.facts.now c.args.frame.now.table.now (allocation_in s) c.args.frame.now.k (first_cycle_in s) c.args.row
    c.in-Some.instr (sym c.instr_at.ensures ∙ c.in-Some.is) c.in-Some-latency.latency c.in-Some-first.first
    (sym c.latency.ensures ∙ c.in-Some-latency.is) (sym c.first.ensures ∙ c.in-Some-first.is) c.requires.frame.table
    c.if-latency-frame.false c.if-first-frame.false
