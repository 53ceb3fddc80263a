use Rattle.std.proofs.Common.{sym, ◌∙◌}
use Rattle.saturation.proofs.RuleSteps.{found_variable, no_more_variables}
use Rattle.saturation.proofs.axiom_rules.+has_variable.Goals as goal

pub returns-then-has_variable : goal.returns-then-has_variable
returns-then-has_variable t c =
    found_variable c.args.number c.args.term.now c.in-App.field-0 c.in-App.operands c.deref-operand-items.result.now c.loop-operand.operand-index c.operand-item.result c.in-App.is c.deref-operand-items.ensures.value c.loop-operand-test.true c.operand-item.is
    (sym c.has_variable.ensures ∙ c.if-has_variable.true)

pub loop-operand-preserved : goal.loop-operand-preserved
loop-operand-preserved t c =
    no_more_variables c.args.number c.deref-operand-items.result.now c.loop-operand.operand-index c.operand-item.result c.loop-operand-test.true c.operand-item.is c.loop-operand.invariant
    (sym c.has_variable.ensures ∙ c.if-has_variable.false)
