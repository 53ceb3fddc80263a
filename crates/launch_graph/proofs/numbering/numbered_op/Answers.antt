use Rattle.std.proofs.Common.{sym, ◌∙◌}
use Rattle.launch_graph.specs.Numbering.{unknown, wrong_arity}
use Rattle.launch_graph.proofs.numbering.numbered_op.Goals as goal

pub returns-else-arity-count : goal.returns-else-arity-count
returns-else-arity-count c = wrong_arity c.in-Plain.is (λ e. c.if-arity-count.false (c.arity.ensures ∙ sym e))

pub returns-in-Unknown : goal.returns-in-Unknown
returns-in-Unknown c = unknown c.in-Unknown.is
