use Rattle.std.proofs.Common.{arith}
use Rattle.goal_reader.proofs.Printed.{all_printed}
use Rattle.proc_goal.specs.ProcForms.{var_plain}
use Rattle.proc_goal.proofs.printing.put_variables.Goals as goal

pub returns : goal.returns
returns c = all_printed var_plain c.args.vars.now c.loop-var.var-index _ _ (omega (arith, c.loop-var-test.false)) c.loop-var.invariant
