use Rattle.std.proofs.Common.{arith}
use Rattle.goal_reader.proofs.Printed.{all_printed}
use Rattle.goal_meaning.specs.InputForms.{assume_plain, naming}
use Rattle.goal_meaning.specs.Views.{assume_view}
use Rattle.goal_meaning.specs.declared.goals.Assume.{Assume}
use Rattle.goal_reader.proofs.printing.put_assumes.Goals as goal

pub returns : goal.returns
returns c = all_printed (λ (a : Assume). assume_plain (naming c.args.declared.now c.args.inputs.now c.args.names.now) (assume_view a)) c.args.assumes.now c.loop-assume.assume-index _ _ (omega (arith, c.loop-assume-test.false)) c.loop-assume.invariant
