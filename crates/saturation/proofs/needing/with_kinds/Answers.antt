use Rattle.std.proofs.Common.{◌+◌, ◌-◌, ◌^◌, min, get_or, take, ap, ◌∙◌, arith}
use Rattle.std.specs.Prelude.{unwrap_or}
use Rattle.std.proofs.lemmas.List.{take_all, get_or_default}
use Rattle.axiom_base.specs.Computed.{calc_right, no_constants}
use Rattle.word_terms.specs.OperatorsIn.{operators_in}
use Rattle.axiom_base.specs.declared.kinds.Calc.TheVariants.{C1}
use Rattle.saturation.specs.Trace.{operators_asked}
use Rattle.saturation.specs.Asking.{asked_of_each, kind_asked}
use Rattle.saturation.proofs.NeedSteps.{need_more, kind_operators}
use Rattle.saturation.proofs.needing.with_kinds.Goals as goal

pub loop-at-init : goal.loop-at-init
loop-at-init c = let r = c.ranges.before.fits in omega (arith, r)

pub loop-at-preserved : goal.loop-at-preserved
loop-at-preserved c =
    let kinds = c.args.kinds.now in
    let i = c.loop-at.at in
    let kind = get_or kinds i C1 in
    need_more kind_asked kinds c.args.found.now i kind c.index-found-at.result (operators_in (calc_right kind no_constants)) c.args.before c.loop-at.need c.len.result c.operators.result c.with_matches-need.result (λ m. kind_operators kind (unwrap_or m.given no_constants)) c.requires c.loop-at-test.true (get_or_default kinds i C1 kind c.loop-at-test.true) c.index-found-at.is c.loop-at.invariant c.len.ensures (c.operators.ensures ∙ ap (λ t. min (operators_in t) (2 ^ 64 - 1)) c.in_ok-right.ensures.tree) c.with_matches-need.ensures

pub returns : goal.returns
returns c =
    let kinds = take_all c.loop-at.at c.args.kinds.now c.loop-at-test.false in
    let found = take_all c.loop-at.at c.args.found.now (omega (arith, c.requires, c.loop-at-test.false)) in
    c.loop-at.invariant
    ∙ ap (λ xs. min (c.args.before + operators_asked (asked_of_each kind_asked xs (take c.loop-at.at c.args.found.now))) (2 ^ 64 - 1)) kinds
    ∙ ap (λ xs. min (c.args.before + operators_asked (asked_of_each kind_asked c.args.kinds.now xs)) (2 ^ 64 - 1)) found
