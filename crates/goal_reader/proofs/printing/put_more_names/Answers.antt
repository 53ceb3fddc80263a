use Rattle.std.proofs.Common.{arith}
use Rattle.goal_reader.proofs.Printed.{all_printed}
use Rattle.goal_meaning.specs.InputForms.{variable_plain}
use Rattle.goal_reader.proofs.printing.put_more_names.Goals as goal

pub returns : goal.returns
returns c = all_printed variable_plain c.args.names.now c.loop-name.name-index _ _ (omega (arith, c.loop-name-test.false)) c.loop-name.invariant
