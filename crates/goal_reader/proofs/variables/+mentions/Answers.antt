use Rattle.std.proofs.Common.{◌≡◌, ◌∙◌, ◌≤◌, ◌-◌, length, take, drop, sym, ap}
use Rattle.forms.proofs.Views.{list_form}
use Rattle.goal_reader.specs.Roles.{mentions}
use Rattle.goal_reader.proofs.Operands.{rest_is}
use Rattle.goal_reader.proofs.VariableSteps.{mentioned_list, any_here, any_none}
use Rattle.goal_reader.proofs.variables.+mentions.Goals as goal

pub returns-then-mentions : goal.returns-then-mentions
returns-then-mentions t c =
    let text = c.args.text.now in
    let wanted = c.args.wanted.now in
    let is = list_form text (c.sexps_are_forms.ensures.lists text) c.args.form.now c.in-List.place c.in-List.parts c.in-List.is in
    let d = c.deref.result.now in
    let rest : take (length d - 1) (drop 1 d) ≡ drop 1 c.in-List.parts.items = rest_is d ∙ ap (drop 1) c.deref.ensures.value in
    sym (ap (mentions wanted) is ∙ mentioned_list text wanted c.in-List.place c.in-List.parts.items (take (length d - 1) (drop 1 d)) rest ∙ c.loop-operand.invariant.same
    ∙ any_here text wanted (take (length d - 1) (drop 1 d)) c.loop-operand.operand-index c.operand-item.result c.loop-operand-test.true c.operand-item.is (sym c.mentions.ensures ∙ c.if-mentions.true))

pub returns-after-loop-operand : goal.returns-after-loop-operand
returns-after-loop-operand t c =
    let text = c.args.text.now in
    let wanted = c.args.wanted.now in
    let is = list_form text (c.sexps_are_forms.ensures.lists text) c.args.form.now c.in-List.place c.in-List.parts c.in-List.is in
    let d = c.deref.result.now in
    let rest : take (length d - 1) (drop 1 d) ≡ drop 1 c.in-List.parts.items = rest_is d ∙ ap (drop 1) c.deref.ensures.value in
    let most : length (take (length d - 1) (drop 1 d)) ≤ c.loop-operand.operand-index = c.loop-operand-test.false in
    sym (ap (mentions wanted) is ∙ mentioned_list text wanted c.in-List.place c.in-List.parts.items (take (length d - 1) (drop 1 d)) rest ∙ c.loop-operand.invariant.same
    ∙ any_none text wanted (take (length d - 1) (drop 1 d)) c.loop-operand.operand-index most)
