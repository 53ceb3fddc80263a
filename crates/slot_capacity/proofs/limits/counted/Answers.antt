use Rattle.std.proofs.Common.{◌∙◌, ℕ, List, false, ap, get_or, map}
use Rattle.std.specs.List.{filter}
use Rattle.std.proofs.lemmas.List.{take_all}
use Rattle.graph_meaning.specs.WellFormed.{next_class}
use Rattle.cycle_encoding.specs.Variables.{classes_of}
use Rattle.slot_capacity.specs.Limits.{is_limited}
use Rattle.slot_capacity.specs.Makers.{has}
use Rattle.slot_capacity.specs.declared.deadlines.Deadline.{Deadline}
use Rattle.slot_capacity.proofs.ClassMarks.{limited-by-marks}
use Rattle.slot_capacity.proofs.Lowering.{filter-low}
use Rattle.slot_capacity.proofs.limits.counted.Goals as goal

pub returns : goal.returns
returns c =
    let g = c.args.facts.now in
    let xs = c.args.deadlines.now in
    let marks = c.in_ok-marks.marks.items in
    let by_mark = λ (x : Deadline). get_or marks x.class false in
    c.loop-one.invariant
    ∙ ap (filter by_mark) (take_all c.loop-one.one-index xs c.loop-one-test.false)
    ∙ filter-low (next_class g.rows) by_mark (is_limited c.args.limits.now) xs c.requires.low
    (limited-by-marks c.args.limits.now (next_class g.rows) marks
    (c.in_ok-marks.ensures
    ∙ ap (λ (cs : List ℕ). map (has cs) (classes_of g)) (c.deref.ensures.value ∙ c.in_ok-limited.ensures)))
