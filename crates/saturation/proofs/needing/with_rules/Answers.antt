use Rattle.std.proofs.Common.{◌+◌, ◌-◌, ◌^◌, min, take, refl, ap, ◌∙◌, arith}
use Rattle.std.proofs.lemmas.List.{take_all}
use Rattle.word_terms.specs.OperatorsIn.{operators_in}
use Rattle.saturation.specs.Trace.{operators_asked}
use Rattle.saturation.specs.Asking.{asked_of_each, rule_asked}
use Rattle.saturation.proofs.NeedSteps.{need_more}
use Rattle.saturation.proofs.needing.with_rules.Goals as goal

pub loop-at-init : goal.loop-at-init
loop-at-init c = let r = c.ranges.before.fits in omega (arith, r)

pub loop-at-preserved : goal.loop-at-preserved
loop-at-preserved c =
    let r = c.index-rules-at.result in
    need_more rule_asked c.args.rules.now c.args.found.now c.loop-at.at r c.index-found-at.result (operators_in r.right) c.args.before c.loop-at.need c.len.result c.operators.result c.with_matches-need.result (λ m. refl) c.requires c.loop-at-test.true c.index-rules-at.is c.index-found-at.is c.loop-at.invariant c.len.ensures (c.operators.ensures ∙ ap (λ t. min (operators_in t) (2 ^ 64 - 1)) c.right.ensures) c.with_matches-need.ensures

pub returns : goal.returns
returns c =
    let rules = take_all c.loop-at.at c.args.rules.now c.loop-at-test.false in
    let found = take_all c.loop-at.at c.args.found.now (omega (arith, c.requires, c.loop-at-test.false)) in
    c.loop-at.invariant
    ∙ ap (λ xs. min (c.args.before + operators_asked (asked_of_each rule_asked xs (take c.loop-at.at c.args.found.now))) (2 ^ 64 - 1)) rules
    ∙ ap (λ xs. min (c.args.before + operators_asked (asked_of_each rule_asked c.args.rules.now xs)) (2 ^ 64 - 1)) found
