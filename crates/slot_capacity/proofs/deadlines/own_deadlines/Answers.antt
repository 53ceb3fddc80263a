use Rattle.std.proofs.Common.{◌∙◌, ℕ, List, ap, map}
use Rattle.std.specs.List.{filter}
use Rattle.std.proofs.lemmas.List.{take_all}
use Rattle.slot_capacity.specs.Deadlines.{own_deadline}
use Rattle.slot_capacity.specs.Makers.{is_made}
use Rattle.slot_capacity.proofs.Loops.{mapped-pushed}
use Rattle.slot_capacity.proofs.deadlines.own_deadlines.Goals as goal

pub loop-class-preserved : goal.loop-class-preserved
loop-class-preserved c =
    let g = c.args.makers.now.frame.facts.now in
    let spans = c.args.makers.now.spans.items in
    mapped-pushed (is_made g spans) c.as_slice-class-items.result.now c.loop-class.class-index _ c.loop-class-test.true
    (own_deadline g c.args.makers.now.frame.table.now c.args.makers.now.frame.k spans) c.loop-class.deadlines.items c.push_own.new.deadlines.items
    c.loop-class.invariant c.in_ok-push_own.ensures

pub returns : goal.returns
returns c =
    let g = c.args.makers.now.frame.facts.now in
    let spans = c.args.makers.now.spans.items in
    let own = own_deadline g c.args.makers.now.frame.table.now c.args.makers.now.frame.k spans in
    c.loop-class.invariant
    ∙ ap (λ (cs : List ℕ). map own (filter (is_made g spans) cs))
    (take_all c.loop-class.class-index c.as_slice-class-items.result.now c.loop-class-test.false
    ∙ c.as_slice-class-items.ensures.value ∙ c.in_ok-due.ensures)
