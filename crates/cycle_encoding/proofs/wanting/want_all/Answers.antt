use Rattle.std.proofs.Common.{◌∙◌, subst, List, ℕ}
use Rattle.std.proofs.lemmas.List.{take_all}
use Rattle.cycle_encoding.specs.Wanting.{AreAllMarked}
use Rattle.cycle_encoding.proofs.WantSteps.{longer-both, more-marks}
use Rattle.cycle_encoding.proofs.wanting.want_all.Goals as goal

pub loop-class-preserved : goal.loop-class-preserved
loop-class-preserved c =
    let i = c.loop-class.invariant in
    let e = c.in_ok-want.ensures in
    record {
      size = e.size ∙ i.size;
      marks = e.marks;
      longer = longer-both c.args.wants.now.order.items c.loop-class.wants.order.items c.want.new.wants.order.items i.longer e.longer;
      still = λ class h. e.still class (i.still class h);
      has = more-marks c.loop-class.wants.marks.items c.want.new.wants.marks.items c.args.classes.now c.loop-class.class-index _ c.loop-class-test.true e.still e.size i.has e.has;
    }

pub returns-clause-has : goal.returns-clause-has
returns-clause-has c = subst (λ (cs : List ℕ). AreAllMarked c.loop-class.wants.marks.items cs) (take_all c.loop-class.class-index c.args.classes.now c.loop-class-test.false) c.loop-class.invariant.has
