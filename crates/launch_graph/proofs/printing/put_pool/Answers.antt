use Rattle.std.proofs.Common.{arith}
use Rattle.launch_graph.proofs.Printed.{pool_text}
use Rattle.launch_graph.proofs.printing.put_pool.Goals as goal

pub returns : goal.returns
returns c =
    pool_text c.loop-register.register-index c.args.pool.now _ _ _ _ (let past = c.loop-register-test.false in omega (arith, past))
    c.in_ok-put.ensures c.loop-register.invariant c.in_ok-put-2.ensures
