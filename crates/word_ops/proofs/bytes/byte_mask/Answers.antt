use Rattle.std.proofs.Common.{arith, subst, sym, ℕ, ◌+◌}
use Rattle.std.proofs.lemmas.Bool.Decides.{nat_tests}
use Rattle.std.proofs.lemmas.Nat.Bits.{bit_at-zero}
use Rattle.word_ops.proofs.LoopSteps.{IsMaskBelow, mask_set, mask_clear, mask_whole}
use Rattle.word_ops.proofs.bytes.byte_mask.Goals as goal
use Rattle.word_ops.proofs.bytes.byte_mask.Goals.{then-mask-i-eq1, else-mask-i-eq1}

pub loop-i-init : goal.loop-i-init
loop-i-init c = λ j h. grind (arith, nat_tests, bit_at-zero j)

pub loop-i-preserved : goal.loop-i-preserved
loop-i-preserved c =
    elim c.if-mask-i-eq1.branch [
      | then-mask-i-eq1 w ↦ subst (λ (x : ℕ). IsMaskBelow c.args.mask (c.loop-i.i + 1) x) (sym w.kept-is) (mask_set _ _ _ c.loop-i.invariant w.if-mask-i-eq1.true)
      | else-mask-i-eq1 w ↦ subst (λ (x : ℕ). IsMaskBelow c.args.mask (c.loop-i.i + 1) x) (sym w.kept-is) (mask_clear _ _ _ c.loop-i.invariant w.if-mask-i-eq1.false)
    ]

pub returns : goal.returns
returns c = mask_whole _ _ _ c.loop-i.invariant c.loop-i-test.false c.loop-i.auto.kept-fits.fits
