use Rattle.std.proofs.Common.{[], get_or, take, sym, subst, subst₂}
use Rattle.std.specs.List.{AllZip}
use Rattle.std.proofs.lemmas.List.{take_all, get_or_default}
use Rattle.axiom_base.specs.declared.kinds.Calc.TheVariants.{C1}
use Rattle.saturation.specs.Asking.{AreUnmetOfKind}
use Rattle.saturation.proofs.AskSteps.{zip_push}
use Rattle.saturation.proofs.SchemeLists.{taken_more}
use Rattle.saturation.proofs.searching.search_kinds.Goals as goal

pub loop-kind-init : goal.loop-kind-init
loop-kind-init c = subst (λ xs. AllZip (AreUnmetOfKind c.args.graph.now) [] xs) (sym c.new-found.ensures.items) tt

pub loop-kind-preserved : goal.loop-kind-preserved
loop-kind-preserved c =
    let R = AreUnmetOfKind c.args.graph.now in
    let kinds = c.args.kinds.now in
    let i = c.loop-kind.kind-index in
    let kind = get_or kinds i C1 in
    let more = sym (taken_more kinds i kind c.loop-kind-test.true (get_or_default kinds i C1 (get_or kinds i C1) c.loop-kind-test.true)) in
    subst₂ (AllZip R) more (sym c.in_ok-push.ensures.items) (zip_push R (take i kinds) c.loop-kind.found.items kind c.in_ok-find_calc_unmet.field-0 c.loop-kind.invariant (record { exact = c.in_ok-find_calc_unmet.ensures.exact; each = c.in_ok-find_calc_unmet.ensures.each }))

pub returns : goal.returns
returns c = record { found = subst (λ ks. AllZip (AreUnmetOfKind c.args.graph.now) ks c.loop-kind.found.items) (take_all c.loop-kind.kind-index c.args.kinds.now c.loop-kind-test.false) c.loop-kind.invariant }
