use Rattle.std.proofs.Common.{◌++◌, map, take, sym, ap, ◌∙◌, arith}
use Rattle.std.proofs.lemmas.List.{append-nil, take_all}
use Rattle.saturation.specs.Asking.{asked_of_each, rule_asked}
use Rattle.saturation.specs.Instances.{asked_of}
use Rattle.saturation.proofs.Searched.{one_more_rule}
use Rattle.saturation.proofs.asking.ask_rules.Goals as goal

pub loop-at-init : goal.loop-at-init
loop-at-init c = sym (append-nil (map asked_of c.args.asked.now.items))

pub loop-at-preserved : goal.loop-at-preserved
loop-at-preserved c =
    one_more_rule rule_asked c.args.rules.now c.args.found.now c.loop-at.at c.index-rules-at.result c.index-found-at.result c.as_slice.result.now (map asked_of c.args.asked.now.items) (map asked_of c.loop-at.asked.items) (map asked_of c.ask_rule.new.asked.items) c.requires c.loop-at-test.true c.index-rules-at.is c.index-found-at.is c.as_slice.ensures c.loop-at.invariant c.in_ok-ask_rule.ensures

pub returns : goal.returns
returns c =
    let rules = take_all c.loop-at.at c.args.rules.now c.loop-at-test.false in
    let found = take_all c.loop-at.at c.args.found.now (omega (arith, c.requires, c.loop-at-test.false)) in
    c.loop-at.invariant
    ∙ ap (λ xs. map asked_of c.args.asked.now.items ++ asked_of_each rule_asked xs (take c.loop-at.at c.args.found.now)) rules
    ∙ ap (λ xs. map asked_of c.args.asked.now.items ++ asked_of_each rule_asked c.args.rules.now xs) found
