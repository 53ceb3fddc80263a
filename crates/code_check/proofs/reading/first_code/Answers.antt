use Rattle.std.proofs.Common.{sym, ◌∙◌, arith}
use Rattle.code_check.proofs.CodeTexts.{codes_here, codes_later, no_codes}
use Rattle.code_check.proofs.reading.first_code.Goals as goal

pub returns-then-is_code-clause-from : goal.returns-then-is_code-clause-from
returns-then-is_code-clause-from c =
    c.loop-number.invariant
    ∙ codes_here c.args.text.now c.args.forms.now c.loop-number.number c.index-forms-number.result c.loop-number-test.true c.index-forms-number.is (sym c.is_code.ensures ∙ c.if-is_code.true)

pub loop-number-preserved : goal.loop-number-preserved
loop-number-preserved c =
    c.loop-number.invariant
    ∙ codes_later c.args.text.now c.args.forms.now c.loop-number.number c.index-forms-number.result c.loop-number-test.true c.index-forms-number.is (sym c.is_code.ensures ∙ c.if-is_code.false)

pub returns-clause-from : goal.returns-clause-from
returns-clause-from c =
    c.loop-number.invariant ∙ no_codes c.args.text.now c.args.forms.now c.loop-number.number _ c.loop-number-test.false (omega arith)
