use Rattle.std.proofs.Common.{◌<◌, ◌≤◌, get_or, map, length, refl, subst, arith}
use Rattle.std.proofs.lemmas.List.{take_all, length-map, get_or_default}
use Rattle.axiom_base.specs.Schemes.{computed}
use Rattle.axiom_base.specs.declared.kinds.Calc.TheVariants.{C1}
use Rattle.pattern_match.specs.Found.{classes_in}
use Rattle.saturation.specs.Grown.{AreMet}
use Rattle.saturation.proofs.MetMatches.{met_none, met_next, not_met}
use Rattle.saturation.proofs.quiet.are_kinds_met.Goals as goal

pub loop-kind-init : goal.loop-kind-init
loop-kind-init c = met_none c.args.graph.now

pub loop-kind-preserved : goal.loop-kind-preserved
loop-kind-preserved c =
    let ens = c.in_ok-found.ensures.exact in
    let none : length c.in_ok-found.found ≤ 0 = omega (arith, c.if-len-gt0.false, c.len.ensures) in
    met_next c.args.graph.now computed c.args.kinds.now c.loop-kind.kind-index (get_or c.args.kinds.now c.loop-kind.kind-index C1) c.loop-kind-test.true (get_or_default c.args.kinds.now c.loop-kind.kind-index C1 (get_or c.args.kinds.now c.loop-kind.kind-index C1) c.loop-kind-test.true) c.loop-kind.invariant (map classes_in c.in_ok-found.found) (ens.all) (omega (arith, none, length-map c.in_ok-found.found classes_in))

pub returns-then-len-gt0 : goal.returns-then-len-gt0
returns-then-len-gt0 c =
    let ens = c.in_ok-found.ensures.exact in
    let some : 0 < length c.in_ok-found.found = omega (arith, c.if-len-gt0.true, c.len.ensures) in
    not_met c.args.graph.now computed c.args.kinds.now c.loop-kind.kind-index (get_or c.args.kinds.now c.loop-kind.kind-index C1) c.loop-kind-test.true (get_or_default c.args.kinds.now c.loop-kind.kind-index C1 (get_or c.args.kinds.now c.loop-kind.kind-index C1) c.loop-kind-test.true) (map classes_in c.in_ok-found.found) ens.each (omega (arith, some, length-map c.in_ok-found.found classes_in))

pub returns : goal.returns
returns c = (λ t. subst (λ xs. AreMet c.args.graph.now (map computed xs)) (take_all c.loop-kind.kind-index c.args.kinds.now c.loop-kind-test.false) c.loop-kind.invariant, λ h. refl)
