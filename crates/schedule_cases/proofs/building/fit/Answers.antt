use Rattle.std.proofs.Common.{arith, below_more, refl, sym, ◌∙◌}
use Rattle.schedule_cases.proofs.building.fit.Goals as goal

pub loop-at-preserved : goal.loop-at-preserved
loop-at-preserved g c =
    below_more _ _ c.loop-at.invariant (record {
      made = grind (arith, c.made.ensures.value);
      sorts = λ t h e. sym c.operand_sort.ensures ∙ c.if-not-is_of_sort.ensures refl t h e;
    })
