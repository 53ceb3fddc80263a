use Rattle.std.proofs.Common.{◌∙◌, ◌<◌, List, ap, subst, sym}
use Rattle.std.specs.Prelude.{All}
use Rattle.machine_table.specs.Tables.{IsTable}
use Rattle.graph_meaning.specs.WellFormed.{next_class}
use Rattle.cycle_encoding.specs.declared.frames.Frame.{Frame}
use Rattle.slot_capacity.specs.declared.deadlines.Deadline.{Deadline}
use Rattle.slot_capacity.proofs.Keeping.{deadlines-low}
use Rattle.slot_capacity.specs.Deadlines.{deadlines}
use Rattle.slot_capacity.specs.Limits.{all_limits, capacity_with}
use Rattle.slot_capacity.specs.declared.limits.Limit.{Limit}
use Rattle.slot_capacity.proofs.CapacityVars.{early-deadlines, found-capacity}
use Rattle.slot_capacity.proofs.limits.live_capacity.Goals as goal

pub limits-requires-clause-table : goal.limits-requires-clause-table
limits-requires-clause-table c =
    subst (λ (f : Frame). IsTable f.table.now) (sym c.in_ok-makers.ensures.frame) c.requires.frame.table

pub limits-requires-clause-early : goal.limits-requires-clause-early
limits-requires-clause-early c =
    let spans = c.in_ok-makers.makers.spans.items in
    let own = c.in_ok-deadlines.ensures ∙ ap (λ (f : Frame). deadlines f.facts.now f.table.now f.k spans) c.in_ok-makers.ensures.frame in
    early-deadlines c.args.frame.now.facts.now c.args.frame.now.table.now c.args.frame.now.k c.args.frame.now.scope.now c.requires.frame.cycles _
    c.in_ok-makers.ensures.spans c.as_slice-all.result.now (c.as_slice-all.ensures.value ∙ own)

pub counted-requires-clause-low : goal.counted-requires-clause-low
counted-requires-clause-low c =
    let g = c.args.frame.now.facts.now in
    let spans = c.in_ok-makers.makers.spans.items in
    let own = c.in_ok-deadlines.ensures ∙ ap (λ (f : Frame). deadlines f.facts.now f.table.now f.k spans) c.in_ok-makers.ensures.frame in
    subst (λ (xs : List Deadline). All (λ x. x.class < next_class g.rows) xs)
    (sym (c.as_slice-all.ensures.value ∙ own))
    (deadlines-low g c.args.frame.now.table.now c.args.frame.now.k spans c.args.frame.now.k)

pub returns : goal.returns
returns c =
    let spans = c.in_ok-makers.makers.spans.items in
    let all = c.as_slice-all.result.now in
    let own = c.in_ok-deadlines.ensures ∙ ap (λ (f : Frame). deadlines f.facts.now f.table.now f.k spans) c.in_ok-makers.ensures.frame in
    let limited = c.in_ok-limits.ensures ∙ ap (λ (f : Frame). all_limits f.facts.now f.table.now f.k spans all) c.in_ok-makers.ensures.frame in
    found-capacity c.args.frame.now.facts.now c.args.frame.now.table.now c.args.frame.now.k c.args.frame.now.scope.now _ c.in_ok-makers.ensures.spans
    all (c.as_slice-all.ensures.value ∙ own) _ limited _
    (c.in_ok-counted.ensures
    ∙ ap (λ (ms : List Limit). (capacity_with all ms).counted) c.as_slice.ensures.value)
    c.of_parts.result c.of_parts.ensures
