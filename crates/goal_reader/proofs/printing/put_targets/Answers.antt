use Rattle.std.proofs.Common.{arith}
use Rattle.goal_reader.proofs.Printed.{all_printed}
use Rattle.goal_meaning.specs.InputForms.{target_plain, naming}
use Rattle.goal_meaning.specs.Views.{target_view}
use Rattle.goal_meaning.specs.declared.goals.Set.{Set}
use Rattle.goal_reader.proofs.printing.put_targets.Goals as goal

pub returns : goal.returns
returns c = all_printed (λ (a : Set). target_plain (naming c.args.declared.now c.args.inputs.now c.args.names.now) (target_view a)) c.args.targets.now c.loop-target.target-index _ _ (omega (arith, c.loop-target-test.false)) c.loop-target.invariant
