use Rattle.std.proofs.Common.{◌∙◌, ap, arith, set}
use Rattle.code_lift.specs.declared.lifting.Value.TheVariants.{Entry}
use Rattle.code_lift.proofs.Listed.{entry_more}
use Rattle.code_lift.proofs.lifting.Lifting.new.Goals as goal

pub loop-register-preserved : goal.loop-register-preserved
loop-register-preserved c =
    let k = c.loop-register.register in
    ap (λ vs. set vs k (Entry k)) c.loop-register.invariant ∙ entry_more k (let lt = c.loop-register-test.true in omega (arith, lt))
