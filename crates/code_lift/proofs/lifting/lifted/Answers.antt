use Rattle.std.proofs.Common.{◌<◌, ◌∙◌, ap, arith, length, sym}
use Rattle.code_lift.specs.Lifted.{lift_step}
use Rattle.code_lift.proofs.WordByWord.{lifted_more}
use Rattle.code_lift.proofs.lifting.lifted.Goals as goal

pub loop-at-preserved : goal.loop-at-preserved
loop-at-preserved c =
    let words = c.args.words.now in
    let k = c.loop-at.at in
    let instr = c.in-Some.instr in
    let inv = c.loop-at.invariant in
    let before = inv.few in
    let after = c.in_ok-step.ensures.few in
    let lt : k < length words = omega arith in
    record {
      so_far = c.in_ok-step.ensures.step ∙ ap (lift_step k instr) inv.so_far ∙ sym (lifted_more words k instr lt c.requires.plain (sym c.in-Some.ensures.fields));
      few = omega (arith, before, after);
    }
