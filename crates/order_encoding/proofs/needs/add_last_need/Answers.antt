use Rattle.std.proofs.Common.{◌∙◌, sym, arith}
use Rattle.cycle_encoding.specs.Shapes.{numbered}
use Rattle.cycle_encoding.specs.Variables.{all_overwritten}
use Rattle.order_encoding.specs.LiveVariables.{all_needs, pooled_classes}
use Rattle.order_encoding.proofs.TargetSteps.{clause_exist, not_made, not_pooled, target_added, target_room}
use Rattle.order_encoding.proofs.needs.add_last_need.Goals as goal

pub returns-then-not-is_needed_target : goal.returns-then-not-is_needed_target
returns-then-not-is_needed_target c =
    let g = c.args.live.now.facts.now in
    let k = c.args.live.now.needs.cycles in
    let xs = numbered 0 c.args.live.now.launches.now in
    let needs = all_needs k (pooled_classes g xs) in
    let ns = numbered c.args.live.now.needs.first needs in
    let over = c.args.live.now.over.now in
    let vs = numbered over.first (all_overwritten g over.cycles) in
    not_made g k xs ns vs c.args.set.now c.args.cnf.now (sym c.is_needed_target.ensures ∙ c.if-not-is_needed_target.true)

pub returns-then-not-is_pooled : goal.returns-then-not-is_pooled
returns-then-not-is_pooled c =
    let g = c.args.live.now.facts.now in
    let k = c.args.live.now.needs.cycles in
    let xs = numbered 0 c.args.live.now.launches.now in
    let needs = all_needs k (pooled_classes g xs) in
    let ns = numbered c.args.live.now.needs.first needs in
    let over = c.args.live.now.over.now in
    let vs = numbered over.first (all_overwritten g over.cycles) in
    not_pooled g k xs ns vs c.args.set.now c.args.cnf.now (sym c.is_pooled.ensures ∙ c.if-not-is_pooled.true)

pub add-requires-clause-exist : goal.add-requires-clause-exist
add-requires-clause-exist c =
    let g = c.args.live.now.facts.now in
    let k = c.args.live.now.needs.cycles in
    let xs = numbered 0 c.args.live.now.launches.now in
    let needs = all_needs k (pooled_classes g xs) in
    let ns = numbered c.args.live.now.needs.first needs in
    let over = c.args.live.now.over.now in
    let vs = numbered over.first (all_overwritten g over.cycles) in
    clause_exist g c.args.set.now.class c.args.cnf.now.vars k c.args.live.now.needs.first over.first needs (all_overwritten g over.cycles) c.deref.result.now (c.deref.ensures.value ∙ c.in_ok-clause.ensures) c.requires.exist c.requires.overwritten

pub add-requires-clause-room : goal.add-requires-clause-room
add-requires-clause-room c =
    let g = c.args.live.now.facts.now in
    let k = c.args.live.now.needs.cycles in
    let xs = numbered 0 c.args.live.now.launches.now in
    let needs = all_needs k (pooled_classes g xs) in
    let ns = numbered c.args.live.now.needs.first needs in
    let over = c.args.live.now.over.now in
    let vs = numbered over.first (all_overwritten g over.cycles) in
    let r = target_room g k xs ns vs c.args.set.now _ (sym c.is_needed_target.ensures ∙ c.if-not-is_needed_target.false) (sym c.is_pooled.ensures ∙ c.if-not-is_pooled.false) c.requires.room in
    omega arith

pub returns : goal.returns
returns c =
    let g = c.args.live.now.facts.now in
    let k = c.args.live.now.needs.cycles in
    let xs = numbered 0 c.args.live.now.launches.now in
    let needs = all_needs k (pooled_classes g xs) in
    let ns = numbered c.args.live.now.needs.first needs in
    let over = c.args.live.now.over.now in
    let vs = numbered over.first (all_overwritten g over.cycles) in
    target_added g k xs ns vs c.add.result c.args.cnf.now c.add.new.self c.args.set.now c.deref.result.now (sym c.is_needed_target.ensures ∙ c.if-not-is_needed_target.false) (sym c.is_pooled.ensures ∙ c.if-not-is_pooled.false) (c.deref.ensures.value ∙ c.in_ok-clause.ensures) c.add.ensures.ok
