use Rattle.std.proofs.Common.{arith}
use Rattle.goal_reader.proofs.Printed.{all_printed}
use Rattle.goal_meaning.specs.InputForms.{input_plain}
use Rattle.goal_reader.proofs.printing.put_inputs.Goals as goal

pub returns : goal.returns
returns c = all_printed input_plain c.args.inputs.now c.loop-input.input-index _ _ (omega (arith, c.loop-input-test.false)) c.loop-input.invariant
