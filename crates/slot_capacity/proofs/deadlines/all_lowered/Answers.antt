use Rattle.std.proofs.Common.{◌∙◌, [], ap, get_or, map}
use Rattle.std.proofs.lemmas.List.{take_all}
use Rattle.slot_capacity.specs.Deadlines.{lowered}
use Rattle.slot_capacity.specs.DeadlinesSteps.{lowered_by}
use Rattle.slot_capacity.specs.declared.deadlines.Deadline.{Deadline}
use Rattle.graph_meaning.specs.WellFormed.{next_class}
use Rattle.slot_capacity.proofs.Lowering.{lowered-by-list, map-low}
use Rattle.slot_capacity.proofs.deadlines.all_lowered.Goals as goal

pub returns : goal.returns
returns c =
    let g = c.args.makers.now.frame.facts.now in
    let m = c.args.makers.now in
    let table = c.args.makers.now.frame.table.now in
    let xs = c.args.deadlines.now in
    let lists = c.in_ok-lists.lists.items in
    let by_list =
    λ (own : Deadline). lowered_by g table c.args.makers.now.frame.k m.spans.items (get_or lists own.class []) own in
    c.loop-own.invariant
    ∙ ap (map by_list) (take_all c.loop-own.own-index xs c.loop-own-test.false)
    ∙ map-low (next_class g.rows) by_list (lowered g table c.args.makers.now.frame.k m.spans.items xs) xs c.requires.low
    (λ x lt. lowered-by-list g table c.args.makers.now.frame.k m.spans.items m.rows.items m.always.items c.requires.makers x xs lists
    c.in_ok-lists.ensures lt)
