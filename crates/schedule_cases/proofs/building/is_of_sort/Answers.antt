use Rattle.std.proofs.Common.{arith, below_more, ap, ◌∙◌}
use Rattle.std.proofs.lemmas.Option.{get_or_from_slice_get}
use Rattle.schedule_cases.proofs.building.is_of_sort.Goals as goal
use Rattle.schedule_cases.proofs.building.is_of_sort.Goals.{else-row-present-via-then-row-present+else-ne, else-row-present-via-else-row-present}

pub loop-at-preserved : goal.loop-at-preserved
loop-at-preserved g c =
    below_more _ _ c.loop-at.invariant (λ d e.
    let v = get_or_from_slice_get c.args.graph.now.rows c.loop-at.at c.row-row.result.now d c.row-row.ensures.row in
    elim c.else-row-present.branch [
      | else-row-present-via-then-row-present+else-ne w ↦ grind (arith, v, w.sort.ensures, w.ne.ensures, w.if-ne.false)
      | else-row-present-via-else-row-present w ↦ absurd (grind (arith, v, e, c.now-present.ensures.present, w.if-row-present.false))
    ])

pub returns : goal.returns
returns g c = λ _ t h e.
    c.loop-at.invariant h.0 (omega (arith, h.1, c.loop-at-test.false, c.rows-at-end.ensures.value)) t (ap (λ r. r.class) h.2 ∙ e) ∙ ap (λ r. g.O.Operator.signature.sort r.op) h.2
