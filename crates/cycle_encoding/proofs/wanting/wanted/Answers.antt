use Rattle.std.proofs.Common.{◌∙◌, ap, Bool, List, length, ◌∷◌, []}
use Rattle.std.proofs.lemmas.List.FromFn.{length-map-range_with_len}
use Rattle.graph_meaning.specs.WellFormed.{next_class}
use Rattle.graph_meaning.specs.declared.graphs.LaunchGraph.{LaunchGraph}
use Rattle.cycle_encoding.specs.Wanting.{wanted_needs}
use Rattle.cycle_encoding.proofs.WantSteps.{none-marked, kept-marks, marks-exact}
use Rattle.cycle_encoding.proofs.wanting.wanted.Goals as goal

pub want_targets-requires : goal.want_targets-requires
want_targets-requires c = record { marks = none-marked c.args.facts.now c.next_class-classes.result c.in_ok-marks.marks.items c.new-order.result.items c.in_ok-marks.ensures c.new-order.ensures.items }

pub close-requires-clause-size : goal.close-requires-clause-size
close-requires-clause-size c =
    c.in_ok-want_roots.ensures.size ∙ c.in_ok-want_targets.ensures.size
    ∙ ap (λ (xs : List Bool). length xs) c.in_ok-marks.ensures ∙ length-map-range_with_len _ 0 c.next_class-classes.result

pub returns : goal.returns
returns c =
    let g = c.args.facts.now in
    let one = c.in_ok-want_targets.ensures in
    let two = c.in_ok-want_roots.ensures in
    let three = c.in_ok-close.ensures in
    let a = c.want_targets.new.wants.marks.items in
    let b = c.want_roots.new.wants.marks.items in
    let m = c.close.new.wants.marks.items in
    let size =
    three.size ∙ two.size ∙ one.size
    ∙ ap (λ (xs : List Bool). length xs) c.in_ok-marks.ensures ∙ length-map-range_with_len _ 0 c.next_class-classes.result
    ∙ c.next_class-classes.ensures ∙ ap (λ (g : LaunchGraph). next_class g.rows) c.graph.ensures in
    marks-exact g c.requires.graph m c.close.new.wants.order.items size three.marks
    (λ s h t. kept-marks b m (s.class ∷ []) three.still three.size (kept-marks a b (s.class ∷ []) two.still two.size (one.has s h t)))
    (λ row lt t. kept-marks b m (wanted_needs g row) three.still three.size (two.has row lt t))
    three.followed
