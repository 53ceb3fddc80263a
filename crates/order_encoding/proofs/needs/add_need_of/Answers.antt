use Rattle.std.proofs.Common.{◌∷◌, [], ◌∙◌, sym}
use Rattle.std.specs.Prelude.{option_to_list}
use Rattle.cycle_encoding.specs.Shapes.{negative, numbered}
use Rattle.cycle_encoding.specs.Steps.{of_thing}
use Rattle.order_encoding.specs.LiveVariables.{all_needs, pooled_classes}
use Rattle.order_encoding.specs.LiveFamilies.{is_need_at, operands_needed}
use Rattle.order_encoding.proofs.AddSteps.{lits_exist, then_is}
use Rattle.order_encoding.proofs.NeedSteps.{free_need, unpooled_need, due_need}
use Rattle.order_encoding.proofs.needs.add_need_of.Goals as goal

pub returns-then-is_free : goal.returns-then-is_free
returns-then-is_free c =
    let g = c.args.live.now.facts.now in
    let xs = numbered 0 c.args.live.now.launches.now in
    let ns = numbered c.args.live.now.needs.first (all_needs c.args.live.now.needs.cycles (pooled_classes g xs)) in
    free_need g xs ns c.args.cycle c.args.operand c.args.var c.args.cnf.now (sym c.is_free.ensures ∙ c.if-is_free.true)

pub returns-then-not-is_pooled : goal.returns-then-not-is_pooled
returns-then-not-is_pooled c =
    let g = c.args.live.now.facts.now in
    let xs = numbered 0 c.args.live.now.launches.now in
    let ns = numbered c.args.live.now.needs.first (all_needs c.args.live.now.needs.cycles (pooled_classes g xs)) in
    unpooled_need g xs ns c.args.cycle c.args.operand c.args.var c.args.cnf.now (sym c.is_pooled.ensures ∙ c.if-not-is_pooled.true)

pub add_implied-requires-clause-lit : goal.add_implied-requires-clause-lit
add_implied-requires-clause-lit c =
    let g = c.args.live.now.facts.now in
    let xs = numbered 0 c.args.live.now.launches.now in
    let ns = numbered c.args.live.now.needs.first (all_needs c.args.live.now.needs.cycles (pooled_classes g xs)) in
    lits_exist (is_need_at c.args.operand.class c.args.cycle) c.args.live.now.needs.first c.args.cnf.now.vars (all_needs c.args.live.now.needs.cycles (pooled_classes g xs)) (option_to_list c.need_var-need.result) c.need_var-need.ensures c.requires.exist

pub returns : goal.returns
returns c =
    let g = c.args.live.now.facts.now in
    let xs = numbered 0 c.args.live.now.launches.now in
    let ns = numbered c.args.live.now.needs.first (all_needs c.args.live.now.needs.cycles (pooled_classes g xs)) in
    then_is c.add_implied.result c.args.cnf.now c.add_implied.new.cnf ((negative c.args.var ∷ option_to_list c.need_var-need.result) ∷ []) (of_thing c.args.var (operands_needed g xs ns c.args.cycle (c.args.operand ∷ [])))
    (due_need g xs ns c.args.cycle c.args.operand c.args.var (option_to_list c.need_var-need.result) (sym c.is_free.ensures ∙ c.if-is_free.false) (sym c.is_pooled.ensures ∙ c.if-not-is_pooled.false) c.need_var-need.ensures) c.add_implied.ensures
