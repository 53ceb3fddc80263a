use Rattle.std.proofs.Common.{◌<◌, ◌≤◌, map, length, refl, subst, arith}
use Rattle.std.proofs.lemmas.List.{take_all, length-map}
use Rattle.axiom_base.specs.Schemes.{plain}
use Rattle.pattern_match.specs.Found.{classes_in}
use Rattle.saturation.specs.Grown.{AreMet}
use Rattle.saturation.proofs.MetMatches.{met_none, met_next, not_met}
use Rattle.saturation.proofs.quiet.are_met.Goals as goal

pub loop-rule-init : goal.loop-rule-init
loop-rule-init c = met_none c.args.graph.now

pub loop-rule-preserved : goal.loop-rule-preserved
loop-rule-preserved c =
    let ens = c.in_ok-found.ensures.found in
    let none : length c.in_ok-found.found ≤ 0 = omega (arith, c.if-len-gt0.false, c.len.ensures) in
    met_next c.args.graph.now plain c.args.rules.now c.loop-rule.rule-index c.rule-item.result c.loop-rule-test.true c.rule-item.is c.loop-rule.invariant (map classes_in c.in_ok-found.found) (ens.all (omega (arith, none, length-map c.in_ok-found.found classes_in))) (omega (arith, none, length-map c.in_ok-found.found classes_in))

pub returns-then-len-gt0 : goal.returns-then-len-gt0
returns-then-len-gt0 c =
    let ens = c.in_ok-found.ensures.found in
    let some : 0 < length c.in_ok-found.found = omega (arith, c.if-len-gt0.true, c.len.ensures) in
    not_met c.args.graph.now plain c.args.rules.now c.loop-rule.rule-index c.rule-item.result c.loop-rule-test.true c.rule-item.is (map classes_in c.in_ok-found.found) ens.each (omega (arith, some, length-map c.in_ok-found.found classes_in))

pub returns : goal.returns
returns c = (λ t. subst (λ xs. AreMet c.args.graph.now (map plain xs)) (take_all c.loop-rule.rule-index c.args.rules.now c.loop-rule-test.false) c.loop-rule.invariant, λ h. refl)
