use Rattle.std.proofs.Common.{◌≡◌, ◌≤◌, ◌+◌, ◌-◌, ◌^◌, ◌++◌, min, All, List, length, map, ap, ◌∙◌, subst, arith}
use Rattle.std.specs.List.{AllZip}
use Rattle.std.proofs.lemmas.Option.{MatchOption-at_some, MatchOption-at_none}
use Rattle.axiom_base.specs.Equations as rows
use Rattle.axiom_base.specs.Rewrites.{IsRule}
use Rattle.axiom_base.specs.Schemes.{plain, computed, calc_kinds}
use Rattle.pattern_match.specs.Matches.{AreNeeds}
use Rattle.saturation.specs.Asking.{AreUnmetOf, AreUnmetOfKind, NeedMoreThan, asked_of_each, fold_asked, rule_asked, kind_asked}
use Rattle.saturation.specs.Trace.{Asked, operators_asked}
use Rattle.saturation.proofs.Needed.{over_by_kinds, over_by_equations, over_by_axioms}
use Rattle.saturation.proofs.NeedSteps.{all_operators, folds_operators}
use Rattle.saturation.proofs.Searched.{rules_are_asked, kinds_are_asked, zip_length}
use Rattle.saturation.proofs.searching.search.Goals as goal
use Rattle.saturation.proofs.searching.search.Goals.{After-saturating_sub-room}

pub with_kinds-requires : goal.with_kinds-requires
with_kinds-requires c = ap length c.deref.ensures.value ∙ zip_length (AreUnmetOfKind c.args.graph.now) c.kinds-kinds.result.now c.in_ok-by_kind.by_kind.items c.in_ok-by_kind.ensures.found

-- what is found of them
kinds_found : (c : After-saturating_sub-room) → AllZip (AreUnmetOfKind c.args.graph.now) (calc_kinds ++ c.args.rules.now.kinds) c.in_ok-by_kind.by_kind.items
kinds_found c = subst (λ ks. AllZip (AreUnmetOfKind c.args.graph.now) ks c.in_ok-by_kind.by_kind.items) c.kinds-kinds.ensures c.in_ok-by_kind.ensures.found

abbrev by_kinds : After-saturating_sub-room → List Asked
by_kinds c = asked_of_each kind_asked (calc_kinds ++ c.args.rules.now.kinds) c.in_ok-by_kind.by_kind.items

-- what the computed rules need
kinds_need : (c : After-saturating_sub-room) → AreNeeds c.args.graph.now (map computed (calc_kinds ++ c.args.rules.now.kinds)) (operators_asked (by_kinds c))
kinds_need c = (kinds_are_asked c.schemes_are_true.ensures.weights c.args.graph.now (calc_kinds ++ c.args.rules.now.kinds) c.in_ok-by_kind.by_kind.items (kinds_found c)).needs

before_sum : (c : After-saturating_sub-room) → c.in_ok-before.before ≡ min (c.len.result + operators_asked (by_kinds c)) (2 ^ 64 - 1)
before_sum c =
    c.in_ok-before.ensures
    ∙ ap (λ fs. min (c.len.result + operators_asked (asked_of_each kind_asked c.kinds-kinds.result.now fs)) (2 ^ 64 - 1)) c.deref.ensures.value
    ∙ ap (λ ks. min (c.len.result + operators_asked (asked_of_each kind_asked ks c.in_ok-by_kind.by_kind.items)) (2 ^ 64 - 1)) c.kinds-kinds.ensures

before_is : (c : After-saturating_sub-room) → c.in_ok-before.before ≤ length c.in_ok-folds.folds + operators_asked (by_kinds c)
before_is c = let e = before_sum c in omega (arith, e, c.len.ensures)

room_is : (c : After-saturating_sub-room) → c.saturating_sub-room.result ≡ c.args.nodes - length c.args.graph.now.rows
room_is c =
    let e : c.saturating_sub-room.result ≡ c.from.result - c.from-2.result = c.saturating_sub-room.ensures in
    omega (arith, e, c.from.ensures, c.from-2.ensures, c.rows.ensures.value)

pub returns-then-before-room : goal.returns-then-before-room
returns-then-before-room c =
    let a = (goal.at.returns-then-before-room c).After-saturating_sub-room in
    record { found = over_by_kinds c.args.graph.now c.requires.graph c.args.rules.now _ _ c.args.nodes c.saturating_sub-room.result c.in_ok-before.before (kinds_need a) c.in_ok-folds.ensures.need (before_is a) (room_is a) c.if-before-room.true }

pub returns-in_default : goal.returns-in_default
returns-in_default c =
    let a = (goal.at.returns-in_default c).After-saturating_sub-room in
    let g = c.args.graph.now in
    let none = MatchOption-at_none _ _ c.in_default.is c.in_ok-by_equation.ensures.found in
    let more = subst (λ rs. NeedMoreThan g (map plain rs) (c.saturating_sub-room.result - c.in_ok-before.before)) c.equations-equations.ensures none in
    record { found = over_by_equations g c.requires.graph c.args.rules.now _ _ c.args.nodes c.saturating_sub-room.result c.in_ok-before.before (kinds_need a) c.in_ok-folds.ensures.need (before_is a) (room_is a) more }

pub with_rules-so_far-requires : goal.with_rules-so_far-requires
with_rules-so_far-requires c =
    let some = MatchOption-at_some _ _ c.in-Some.by_equation c.in-Some.is c.in_ok-by_equation.ensures.found in
    ap length c.deref-2.ensures.value ∙ zip_length (AreUnmetOf c.args.graph.now) c.equations-equations.result.now c.in-Some.by_equation.items some.0

pub returns-in_default-2 : goal.returns-in_default-2
returns-in_default-2 c =
    let a = (goal.at.returns-in_default-2 c).After-saturating_sub-room in
    let g = c.args.graph.now in
    let equations = c.equations-equations.result.now in
    let some = MatchOption-at_some _ _ c.in-Some.by_equation c.in-Some.is c.in_ok-by_equation.ensures.found in
    let none = MatchOption-at_none _ _ c.in_default-2.is c.in_ok-by_axiom.ensures.found in
    let E = asked_of_each rule_asked equations c.in-Some.by_equation.items in
    let needs = subst (λ rs. AreNeeds g (map plain rs) (operators_asked E)) c.equations-equations.ensures (rules_are_asked c.schemes_are_true.ensures.weights g equations c.in-Some.by_equation.items some.0).needs in
    let so_far = c.with_rules-so_far.ensures ∙ ap (λ fs. min (c.in_ok-before.before + operators_asked (asked_of_each rule_asked equations fs)) (2 ^ 64 - 1)) c.deref-2.ensures.value in
    let more = subst (λ rs. NeedMoreThan g (map plain rs) (c.saturating_sub-room.result - c.with_rules-so_far.result)) c.axioms-axioms.ensures
    (subst (NeedMoreThan g (map plain c.axioms-axioms.result.now)) c.saturating_sub-left.ensures none) in
    record { found = over_by_axioms g c.requires.graph c.args.rules.now _ _ c.args.nodes c.saturating_sub-room.result c.in_ok-before.before (kinds_need a) c.in_ok-folds.ensures.need (before_is a) (room_is a) (operators_asked E) c.with_rules-so_far.result needs (omega (arith, so_far)) more }

pub with_rules-need-requires : goal.with_rules-need-requires
with_rules-need-requires c =
    let some = MatchOption-at_some _ _ c.in-Some-2.by_axiom c.in-Some-2.is c.in_ok-by_axiom.ensures.found in
    ap length c.deref-3.ensures.value ∙ zip_length (AreUnmetOf c.args.graph.now) c.axioms-axioms.result.now c.in-Some-2.by_axiom.items some.0

pub returns : goal.returns
returns c =
    let a = (goal.at.returns c).After-saturating_sub-room in
    let g = c.args.graph.now in
    let axioms = c.args.rules.now.axioms in
    let by_equation = MatchOption-at_some _ _ c.in-Some.by_equation c.in-Some.is c.in_ok-by_equation.ensures.found in
    let by_axiom = MatchOption-at_some _ _ c.in-Some-2.by_axiom c.in-Some-2.is c.in_ok-by_axiom.ensures.found in
    let E = asked_of_each rule_asked rows.equations c.in-Some.by_equation.items in
    let P = asked_of_each rule_asked axioms c.in-Some-2.by_axiom.items in
    let K = by_kinds a in
    let before = before_sum a in
    let so_far : c.with_rules-so_far.result ≡ min (c.in_ok-before.before + operators_asked E) (2 ^ 64 - 1) =
    c.with_rules-so_far.ensures ∙ ap (λ fs. min (c.in_ok-before.before + operators_asked (asked_of_each rule_asked c.equations-equations.result.now fs)) (2 ^ 64 - 1)) c.deref-2.ensures.value
    ∙ ap (λ rs. min (c.in_ok-before.before + operators_asked (asked_of_each rule_asked rs c.in-Some.by_equation.items)) (2 ^ 64 - 1)) c.equations-equations.ensures in
    let need : c.with_rules-need.result ≡ min (c.with_rules-so_far.result + operators_asked P) (2 ^ 64 - 1) =
    c.with_rules-need.ensures ∙ ap (λ fs. min (c.with_rules-so_far.result + operators_asked (asked_of_each rule_asked c.axioms-axioms.result.now fs)) (2 ^ 64 - 1)) c.deref-3.ensures.value
    ∙ ap (λ rs. min (c.with_rules-so_far.result + operators_asked (asked_of_each rule_asked rs c.in-Some-2.by_axiom.items)) (2 ^ 64 - 1)) c.axioms-axioms.ensures in
    let all = all_operators E P K (map fold_asked c.in_ok-folds.folds) in
    let folds = folds_operators c.in_ok-folds.folds in
    record {
      found = (
        record {
          equations = subst (λ rs. AllZip (AreUnmetOf g) rs c.in-Some.by_equation.items) c.equations-equations.ensures by_equation.0;
          axioms = subst (λ rs. AllZip (AreUnmetOf g) rs c.in-Some-2.by_axiom.items) c.axioms-axioms.ensures by_axiom.0;
          kinds = kinds_found a;
          folds = c.in_ok-folds.ensures.exact;
          folds_need = c.in_ok-folds.ensures.need;
        },
        subst (All IsRule) c.axioms-axioms.ensures by_axiom.1,
        omega (arith, before, so_far, need, all, folds, c.len.ensures),
      );
    }
