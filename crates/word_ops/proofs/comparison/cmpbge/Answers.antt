use Rattle.std.proofs.Common.{arith, subst, sym, ℕ, ◌+◌}
use Rattle.std.proofs.lemmas.Bool.Decides.{nat_tests}
use Rattle.std.proofs.lemmas.Nat.Bits.{bit_at-zero}
use Rattle.word_ops.proofs.LoopSteps.{AreBitsBelow, bits_set, bits_clear, bits_whole}
use Rattle.word_ops.proofs.comparison.cmpbge.Goals as goal
use Rattle.word_ops.proofs.comparison.cmpbge.Goals.{then-b-i, else-b-i}

pub loop-i-init : goal.loop-i-init
loop-i-init c = λ j h. grind (arith, nat_tests, bit_at-zero j)

pub loop-i-preserved : goal.loop-i-preserved
loop-i-preserved c =
    elim c.if-b-i.branch [
      | then-b-i w ↦ subst (λ (x : ℕ). AreBitsBelow c.args.a c.args.b (c.loop-i.i + 1) x) (sym w.bits-is) (bits_set _ _ _ _ c.loop-i-test.true c.loop-i.invariant w.if-b-i.true)
      | else-b-i w ↦ subst (λ (x : ℕ). AreBitsBelow c.args.a c.args.b (c.loop-i.i + 1) x) (sym w.bits-is) (bits_clear _ _ _ _ c.loop-i.invariant w.if-b-i.false)
    ]

pub returns : goal.returns
returns c = bits_whole _ _ _ _ c.loop-i.invariant (omega arith) c.loop-i.auto.bits-fits.fits
