use Rattle.std.proofs.Common.{arith}
use Rattle.goal_meaning.specs.Views.{target_view}
use Rattle.goal_meaning.specs.declared.goals.Set.{Set}
use Rattle.goal_reader.proofs.Printed.{all_printed}
use Rattle.proc_goal.specs.ProcForms.{set_plain}
use Rattle.proc_goal.proofs.printing.put_sets.Goals as goal

pub returns : goal.returns
returns c = all_printed (λ (s : Set). set_plain c.args.vars.now (target_view s)) c.args.sets.now c.loop-set.set-index _ _ (omega (arith, c.loop-set-test.false)) c.loop-set.invariant
