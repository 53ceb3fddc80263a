use Rattle.std.proofs.Common.{arith}
use Rattle.goal_reader.proofs.Printed.{all_printed}
use Rattle.goal_meaning.specs.InputForms.{let_plain, naming}
use Rattle.goal_meaning.specs.Views.{let_view}
use Rattle.goal_meaning.specs.declared.goals.Let.{Let}
use Rattle.goal_reader.proofs.printing.put_lets.Goals as goal

pub returns : goal.returns
returns c = all_printed (λ (a : Let). let_plain (naming c.args.declared.now c.args.inputs.now c.args.names.now) (let_view a)) c.args.lets.now c.loop-one.one-index _ _ (omega (arith, c.loop-one-test.false)) c.loop-one.invariant
