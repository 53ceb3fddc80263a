use Rattle.std.specs.Prelude.{is_some, true, false}
use Rattle.std.proofs.Common.{rules, ◌≡◌, ◌+◌, All, [], map, take, sym, ap, ◌∙◌, subst, arith}
use Rattle.axiom_base.specs.Schemes.{computed}
use Rattle.axiom_base.specs.Computed.{calc_left}
use Rattle.axiom_base.specs.declared.kinds.Given.{Given}
use Rattle.pattern_match.specs.Bindings.{IsSubstitution, AreMatches, AreUnmet, IsUnmetGiven}
use Rattle.pattern_match.specs.Classes.{IsClass}
use Rattle.pattern_match.specs.Found.{classes_in}
use Rattle.pattern_match.specs.Listing.{Lists, Chosen, nothing}
use Rattle.pattern_match.specs.Matches.{IsUnmetOf, IsUnmetCalc, variables_of}
use Rattle.pattern_match.specs.declared.found.Match.{Match}
use Rattle.pattern_match.proofs.Choosing.{AsItself, lists_same, classes_at, match_at, loop_takes, loop_skips, each_more, whole}
use Rattle.pattern_match.proofs.ComputedMatching.{can_give, computed_unmet, unmet_computed, unmet_if, met_if, unmet_calc, some_if, none_if}
use Rattle.pattern_match.proofs.computed.find_calc_unmet.Goals as goal
use Rattle.pattern_match.proofs.computed.find_calc_unmet.Goals.{After-deref-one-items, then-is_some+in_ok-with+in_ok-push, else-is_some}

-- the matches of the left side
matches_of : (c : After-deref-one-items) → AreMatches c.args.graph.now (calc_left c.args.kind) (IsSubstitution c.args.graph.now (calc_left c.args.kind) (variables_of c.args.kind)) c.deref-one-items.result.now
matches_of c = subst (AreMatches c.args.graph.now (calc_left c.args.kind) (IsSubstitution c.args.graph.now (calc_left c.args.kind) (variables_of c.args.kind))) (sym c.deref-one-items.ensures.value) c.in_ok-matched.ensures

pub loop-one-init : goal.loop-one-init
loop-one-init c =
    let D = AreUnmet c.args.graph.now c.args.kind in
    record {
      chosen = subst (λ xs. Chosen (AsItself D D) [] (map classes_in xs)) (sym c.new-found.ensures.items) nothing;
      each = subst (All (IsUnmetCalc c.args.graph.now c.args.kind)) (sym c.new-found.ensures.items) (λ k d l. absurd (omega (arith, l)));
    }

pub unmet_given-requires : goal.unmet_given-requires
unmet_given-requires c =
    let g = c.args.graph.now in
    let kind = c.args.kind in
    let law = c.computed_rules_are_true.ensures in
    let m = matches_of (goal.at.unmet_given-requires c).After-deref-one-items in
    let matched = classes_at c.deref-one-items.result.now c.loop-one.one-index c.one-item.result c.loop-one-test.true c.one-item.is (IsSubstitution g (calc_left kind) (variables_of kind)) m.lists.each in
    record { can = can_give law.usable law.last g c.requires.graph kind c.one-item.result.classes matched }

pub loop-one-preserved : goal.loop-one-preserved
loop-one-preserved c =
    let g = c.args.graph.now in
    let kind = c.args.kind in
    let is = c.requires.graph in
    let law = c.computed_rules_are_true.ensures in
    let numbers = c.constants_are_numbered.ensures.numbers in
    let D = AreUnmet g kind in
    let items = c.deref-one-items.result.now in
    let i = c.loop-one.one-index in
    let m = c.one-item.result in
    let all = matches_of (goal.at.loop-one-preserved c).After-deref-one-items in
    let matched = classes_at items i m c.loop-one-test.true c.one-item.is (IsSubstitution g (calc_left kind) (variables_of kind)) all.lists.each in
    let left = match_at items i m c.loop-one-test.true c.one-item.is (λ (x : Match). IsClass g x.classes (calc_left kind) x.class) all.classes in
    let given = c.in_ok-given.given in
    let exact = c.in_ok-given.ensures in
    elim c.if-is_some.branch [
      | then-is_some+in_ok-with+in_ok-push w ↦
          (let there : is_some given ≡ true = search rules in
          let one = some_if ((given : Given) → ¬ IsUnmetGiven g kind m given) (IsUnmetGiven g kind m) given exact there in
          let x = w.in_ok-with.field-0 in
          let same = w.in_ok-with.ensures in
          let after = loop_takes items i m c.loop-one-test.true c.one-item.is D c.loop-one.found.items c.loop-one.invariant.chosen _ x w.in_ok-push.ensures.items (ap classes_in same) (unmet_if g is kind m left one.0 one.2) in
          let unmet = unmet_calc g is kind m left law.usable law.last numbers matched one.0 one.2 x (same ∙ ap (λ o. record { classes = m.classes; class = m.class; given = o }) one.1) in
          let each = each_more (IsUnmetCalc g kind) c.loop-one.found.items _ x c.loop-one.invariant.each w.in_ok-push.ensures.items unmet in
          record {
            chosen = subst (λ f. Chosen (AsItself D D) (map classes_in (take (i + 1) items)) (map classes_in f.items)) (sym w.found-is) after;
            each = subst (λ f. All (IsUnmetCalc g kind) f.items) (sym w.found-is) each;
          })
      | else-is_some w ↦
          (let there : is_some given ≡ false = search rules in
          let none = none_if ((given : Given) → ¬ IsUnmetGiven g kind m given) (IsUnmetGiven g kind m) given exact there in
          let same = loop_skips items i m c.loop-one-test.true c.one-item.is D c.loop-one.found.items c.loop-one.invariant.chosen (met_if g is kind m left none) in
          record {
            chosen = subst (λ f. Chosen (AsItself D D) (map classes_in (take (i + 1) items)) (map classes_in f.items)) (sym w.found-is) same;
            each = subst (λ f. All (IsUnmetCalc g kind) f.items) (sym w.found-is) c.loop-one.invariant.each;
          })
    ]

pub returns : goal.returns
returns c =
    let g = c.args.graph.now in
    let kind = c.args.kind in
    let is = c.requires.graph in
    let law = c.computed_rules_are_true.ensures in
    let numbers = c.constants_are_numbered.ensures.numbers in
    let D = AreUnmet g kind in
    let P = IsSubstitution g (calc_left kind) (variables_of kind) in
    let all = matches_of (goal.at.returns c).After-deref-one-items in
    let listed = whole P D c.deref-one-items.result.now c.loop-one.found.items all.lists c.loop-one.one-index c.loop-one-test.false c.loop-one.invariant.chosen in
    let matches = lists_same (λ cs. P cs × D cs) (IsUnmetOf g (computed kind)) (map classes_in c.loop-one.found.items) (λ cs h. computed_unmet law.usable law.last g is kind cs numbers h) (λ cs h. unmet_computed law.usable law.last g is kind cs numbers h) listed in
    record {
      exact = subst (λ xs. Lists (IsUnmetOf g (computed kind)) (map classes_in xs)) (sym c.from.ensures) matches;
      each = subst (All (IsUnmetCalc g kind)) (sym c.from.ensures) c.loop-one.invariant.each;
    }
