use Rattle.std.proofs.Common.{◌≡◌, ◌<◌, ◌+◌, ◌*◌, ◌^◌, sym, subst, arith}
use Rattle.std.proofs.Math.Pow.{pow-lt}
use Rattle.axiom_base.proofs.ByteMasks.{MasksBelow, masks_empty, masks_full}
use Rattle.axiom_base.proofs.conditions.full_bytes.Goals as goal
use Rattle.axiom_base.proofs.conditions.full_bytes.Goals.{in-0, in-255}

pub loop-i-preserved : goal.loop-i-preserved
loop-i-preserved c =
    let i = c.loop-i.i in
    let e = c.loop-i.e in
    elim c.match-c-i-rem256.branch [
      | in-0 w ↦ subst (λ n. MasksBelow c.args.c n (i + 1)) (sym w.e-is) (masks_empty c.args.c e i c.loop-i.invariant w.in-0.is)
      | in-255 w ↦
          (let l : 2 ^ i < 2 ^ 64 = pow-lt {j = 64} (let t = c.loop-i-test.true in omega (arith, t)) in
          let is : 1 * 2 ^ i + e ≡ c.match-c-i-rem256.e = omega (arith, l, w.e-is) in
          subst (λ n. MasksBelow c.args.c n (i + 1)) is (masks_full c.args.c e i c.loop-i.invariant w.in-255.is))
    ]
