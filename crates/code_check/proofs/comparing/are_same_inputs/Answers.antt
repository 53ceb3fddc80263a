use Rattle.code_check.proofs.Comparisons.{all_same_inputs, none_same_inputs, one_more_input, other_input}
use Rattle.code_check.proofs.comparing.are_same_inputs.Goals as goal

pub loop-input-init : goal.loop-input-init
loop-input-init c = λ ts memory are. none_same_inputs c.args.graph.now c.args.inputs.now ts

pub returns-then-not-is_same_input : goal.returns-then-not-is_same_input
returns-then-not-is_same_input c = λ ts memory are.
    other_input c.args.graph.now c.args.inputs.now ts c.loop-input.input-index c.input-item.result c.loop-input-test.true
    c.input-item.is c.is_same_input.result c.if-not-is_same_input.true (c.is_same_input.ensures ts memory are)

pub loop-input-preserved : goal.loop-input-preserved
loop-input-preserved c = λ ts memory are.
    one_more_input c.args.graph.now c.args.inputs.now ts c.loop-input.input-index c.input-item.result c.loop-input-test.true
    c.input-item.is c.is_same_input.result c.if-not-is_same_input.false (c.is_same_input.ensures ts memory are)
    (c.loop-input.invariant ts memory are)

pub returns : goal.returns
returns c = λ ts memory are.
    all_same_inputs c.args.graph.now c.args.inputs.now ts c.loop-input.input-index c.loop-input-test.false
    (c.loop-input.invariant ts memory are)
