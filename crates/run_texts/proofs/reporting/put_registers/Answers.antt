use Rattle.std.proofs.Common.{arith}
use Rattle.run_texts.proofs.Printed.{register_more}
use Rattle.run_texts.proofs.reporting.put_registers.Goals as goal

pub loop-register-preserved : goal.loop-register-preserved
loop-register-preserved c =
    let size = c.register.ensures.state.registers in
    let low = c.loop-register-test.true in
    register_more c.args.state.now.registers c.loop-register.register c.register.result c.args.text.now.items c.loop-register.text.items c.put_register.new.text.items
    (omega arith) c.register.ensures.value c.loop-register.invariant c.in_ok-put_register.ensures
