use Rattle.std.proofs.Common.{◌++◌, get_or, map, take, sym, ap, ◌∙◌, arith}
use Rattle.std.proofs.lemmas.List.{append-nil, take_all, get_or_default}
use Rattle.axiom_base.specs.declared.kinds.Calc.TheVariants.{C1}
use Rattle.saturation.specs.Asking.{asked_of_each, kind_asked}
use Rattle.saturation.specs.Instances.{asked_of}
use Rattle.saturation.proofs.Searched.{one_more_rule}
use Rattle.saturation.proofs.asking.ask_kinds.Goals as goal

pub loop-at-init : goal.loop-at-init
loop-at-init c = sym (append-nil (map asked_of c.args.asked.now.items))

pub loop-at-preserved : goal.loop-at-preserved
loop-at-preserved c =
    let kinds = c.args.kinds.now in
    let i = c.loop-at.at in
    let kind = get_or kinds i C1 in
    one_more_rule kind_asked kinds c.args.found.now i kind c.index-found-at.result c.as_slice.result.now (map asked_of c.args.asked.now.items) (map asked_of c.loop-at.asked.items) (map asked_of c.ask_kind.new.asked.items) c.requires c.loop-at-test.true (get_or_default kinds i C1 kind c.loop-at-test.true) c.index-found-at.is c.as_slice.ensures c.loop-at.invariant c.in_ok-ask_kind.ensures

pub returns : goal.returns
returns c =
    let kinds = take_all c.loop-at.at c.args.kinds.now c.loop-at-test.false in
    let found = take_all c.loop-at.at c.args.found.now (omega (arith, c.requires, c.loop-at-test.false)) in
    c.loop-at.invariant
    ∙ ap (λ xs. map asked_of c.args.asked.now.items ++ asked_of_each kind_asked xs (take c.loop-at.at c.args.found.now)) kinds
    ∙ ap (λ xs. map asked_of c.args.asked.now.items ++ asked_of_each kind_asked c.args.kinds.now xs) found
