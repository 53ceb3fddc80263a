use Rattle.std.proofs.Common.{arith}
use Rattle.goal_reader.proofs.Printed.{all_lines}
use Rattle.goal_meaning.specs.InputForms.{declaration_plain}
use Rattle.goal_reader.proofs.printing.put_declarations.Goals as goal

pub returns : goal.returns
returns c = all_lines declaration_plain c.args.operators.now c.loop-operator.operator-index _ _ (omega (arith, c.loop-operator-test.false)) c.loop-operator.invariant
