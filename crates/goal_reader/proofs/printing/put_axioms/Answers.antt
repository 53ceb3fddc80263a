use Rattle.std.proofs.Common.{arith}
use Rattle.goal_reader.proofs.Printed.{all_lines}
use Rattle.goal_meaning.specs.InputForms.{axiom_plain}
use Rattle.goal_meaning.specs.Views.{axiom_view}
use Rattle.goal_meaning.specs.declared.goals.Axiom.{Axiom}
use Rattle.goal_reader.proofs.printing.put_axioms.Goals as goal

pub returns : goal.returns
returns c = all_lines (λ (a : Axiom). axiom_plain c.args.declared.now (axiom_view a)) c.args.axioms.now c.loop-one.one-index _ _ (omega (arith, c.loop-one-test.false)) c.loop-one.invariant
