use Rattle.std.proofs.Common.{◌≡◌, ◌≤◌, ◌+◌, ◌-◌, ◌*◌, ◌^◌, min, All, [], length, take, sym, ap, ◌∙◌, subst, subst₂, arith}
use Rattle.std.specs.List.{AllZip}
use Rattle.std.proofs.lemmas.List.{take_all}
use Rattle.std.proofs.lemmas.Option.{MatchOption-at_some, MatchOption-at_none}
use Rattle.word_terms.specs.OperatorsIn.{operators_in}
use Rattle.axiom_base.specs.Rewrites.{IsRule}
use Rattle.saturation.specs.Asking.{AreUnmetOf}
use Rattle.saturation.proofs.AskSteps.{zip_push}
use Rattle.saturation.proofs.NeedSteps.{capped_product}
use Rattle.saturation.proofs.Needed.{least_none, least_more, rule_needs, more_at}
use Rattle.saturation.proofs.SchemeLists.{taken_more, all_more}
use Rattle.saturation.proofs.searching.search_rules.Goals as goal

pub loop-rule-init : goal.loop-rule-init
loop-rule-init c = record {
  found = subst (λ xs. AllZip (AreUnmetOf c.args.graph.now) [] xs) (sym c.new-found.ensures.items) tt;
  rules = λ k d l. absurd (omega (arith, l));
  least = least_none c.args.graph.now;
}

pub returns-in_default : goal.returns-in_default
returns-in_default c =
    let none = MatchOption-at_none _ _ c.in_default.is c.in_ok-unmet.ensures.found in
    let more = none.more in
    let left : c.saturating_sub-left.result ≡ c.args.room - c.loop-rule.need = c.saturating_sub-left.ensures in
    record { found = more_at c.args.graph.now c.requires.graph c.args.rules.now c.loop-rule.rule-index c.rule-item.result c.loop-rule.need none.need c.args.room c.loop-rule-test.true c.rule-item.is c.loop-rule.invariant.least none.is (omega (arith, more, left)) }

pub loop-rule-preserved : goal.loop-rule-preserved
loop-rule-preserved c =
    let g = c.args.graph.now in
    let R = AreUnmetOf g in
    let rules = c.args.rules.now in
    let i = c.loop-rule.rule-index in
    let r = c.rule-item.result in
    let found = c.in-Some.unmet in
    let unmet = MatchOption-at_some _ _ found c.in-Some.is c.in_ok-unmet.ensures.found in
    let more = sym (taken_more rules i r c.loop-rule-test.true c.rule-item.is) in
    let weight : c.operators.result ≡ min (operators_in r.right) (2 ^ 64 - 1) = c.operators.ensures ∙ ap (λ t. min (operators_in t) (2 ^ 64 - 1)) c.right.ensures in
    let capped : min (c.len.result * c.operators.result) (2 ^ 64 - 1) ≡ min (length found * operators_in r.right) (2 ^ 64 - 1) =
    ap (λ n. min (n * c.operators.result) (2 ^ 64 - 1)) c.len.ensures ∙ ap (λ w. min (length found * w) (2 ^ 64 - 1)) weight ∙ capped_product (length found) (operators_in r.right) (2 ^ 64 - 1) in
    let after : c.with_matches-need.result ≤ c.loop-rule.need + length found * operators_in r.right = omega (arith, capped, c.with_matches-need.ensures) in
    record {
      found = subst₂ (AllZip R) more (sym c.in_ok-push.ensures.items) (zip_push R (take i rules) c.loop-rule.found.items r found c.loop-rule.invariant.found unmet);
      rules = subst (All IsRule) more (all_more IsRule (take i rules) r c.loop-rule.invariant.rules c.in_ok-unmet.ensures.rule);
      least = least_more g rules i r c.loop-rule.need (length found * operators_in r.right) c.with_matches-need.result c.loop-rule-test.true c.rule-item.is c.loop-rule.invariant.least (rule_needs g r found unmet) after;
    }

pub returns : goal.returns
returns c =
    let all = take_all c.loop-rule.rule-index c.args.rules.now c.loop-rule-test.false in
    record {
      found = (
        subst (λ rs. AllZip (AreUnmetOf c.args.graph.now) rs c.loop-rule.found.items) all c.loop-rule.invariant.found,
        subst (All IsRule) all c.loop-rule.invariant.rules,
      );
    }
