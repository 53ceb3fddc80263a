use Rattle.std.specs.Prelude.{is_some, true, false, MatchOption}
use Rattle.std.proofs.Common.{rules, ◌≡◌, ◌+◌, [], map, take, sym, ap, subst}
use Rattle.axiom_base.specs.Schemes.{computed}
use Rattle.axiom_base.specs.Computed.{calc_left}
use Rattle.axiom_base.specs.declared.kinds.Given.{Given}
use Rattle.pattern_match.specs.Bindings.{IsSubstitution, AreMatches}
use Rattle.pattern_match.specs.Found.{classes_in}
use Rattle.pattern_match.specs.Listing.{Lists, Chosen, nothing}
use Rattle.pattern_match.specs.Matches.{IsMatchOf, CanGive, AreGiven, variables_of}
use Rattle.pattern_match.proofs.Choosing.{AsItself, lists_same, classes_at, loop_takes, loop_skips, whole}
use Rattle.pattern_match.proofs.ComputedMatching.{can_give, computed_matched, matched_computed, IsGiven, some_if, none_if}
use Rattle.pattern_match.proofs.computed.calc_matches.Goals as goal
use Rattle.pattern_match.proofs.computed.calc_matches.Goals.{After-deref-one-items, then-is_some+in_ok-with+in_ok-push, else-is_some}

-- the matches of the left side
matches_of : (c : After-deref-one-items) → AreMatches c.args.graph.now (calc_left c.args.kind) (IsSubstitution c.args.graph.now (calc_left c.args.kind) (variables_of c.args.kind)) c.deref-one-items.result.now
matches_of c = subst (AreMatches c.args.graph.now (calc_left c.args.kind) (IsSubstitution c.args.graph.now (calc_left c.args.kind) (variables_of c.args.kind))) (sym c.deref-one-items.ensures.value) c.in_ok-matched.ensures

pub loop-one-init : goal.loop-one-init
loop-one-init c =
    let D = IsGiven c.args.graph.now c.args.kind in
    subst (λ xs. Chosen (AsItself D D) [] (map classes_in xs)) (sym c.new-found.ensures.items) nothing

pub calc_given-requires : goal.calc_given-requires
calc_given-requires c =
    let g = c.args.graph.now in
    let kind = c.args.kind in
    let law = c.computed_rules_are_true.ensures in
    let m = matches_of (goal.at.calc_given-requires c).After-deref-one-items in
    let matched = classes_at c.deref-one-items.result.now c.loop-one.one-index c.one-item.result c.loop-one-test.true c.one-item.is (IsSubstitution g (calc_left kind) (variables_of kind)) m.lists.each in
    subst (CanGive g kind) (sym c.as_slice.ensures) (can_give law.usable law.last g c.in_ok-tables.ensures.graph kind c.one-item.result.classes matched)

pub loop-one-preserved : goal.loop-one-preserved
loop-one-preserved c =
    let g = c.args.graph.now in
    let kind = c.args.kind in
    let D = IsGiven g kind in
    let items = c.deref-one-items.result.now in
    let i = c.loop-one.one-index in
    let m = c.one-item.result in
    let given = c.in_ok-given.given in
    let exact = subst (λ cs. MatchOption given ((given : Given) → ¬ AreGiven g kind cs given) (AreGiven g kind cs)) c.as_slice.ensures c.in_ok-given.ensures in
    elim c.if-is_some.branch [
      | then-is_some+in_ok-with+in_ok-push w ↦
          (let there : is_some given ≡ true = search rules in
          let one = some_if ((given : Given) → ¬ AreGiven g kind m.classes given) (AreGiven g kind m.classes) given exact there in
          let after = loop_takes items i m c.loop-one-test.true c.one-item.is D c.loop-one.found.items c.loop-one.invariant _ w.in_ok-with.field-0 w.in_ok-push.ensures.items (ap classes_in w.in_ok-with.ensures) (one.0, one.2) in
          subst (λ f. Chosen (AsItself D D) (map classes_in (take (i + 1) items)) (map classes_in f.items)) (sym w.found-is) after)
      | else-is_some w ↦
          (let there : is_some given ≡ false = search rules in
          let none = none_if ((given : Given) → ¬ AreGiven g kind m.classes given) (AreGiven g kind m.classes) given exact there in
          let same = loop_skips items i m c.loop-one-test.true c.one-item.is D c.loop-one.found.items c.loop-one.invariant (λ q. none q.0 q.1) in
          subst (λ f. Chosen (AsItself D D) (map classes_in (take (i + 1) items)) (map classes_in f.items)) (sym w.found-is) same)
    ]

pub returns : goal.returns
returns c =
    let g = c.args.graph.now in
    let kind = c.args.kind in
    let is = c.in_ok-tables.ensures.graph in
    let law = c.computed_rules_are_true.ensures in
    let numbers = c.constants_are_numbered.ensures.numbers in
    let D = IsGiven g kind in
    let P = IsSubstitution g (calc_left kind) (variables_of kind) in
    let all = matches_of (goal.at.returns c).After-deref-one-items in
    let listed = whole P D c.deref-one-items.result.now c.loop-one.found.items all.lists c.loop-one.one-index c.loop-one-test.false c.loop-one.invariant in
    let matches = lists_same (λ cs. P cs × D cs) (IsMatchOf g (computed kind)) (map classes_in c.loop-one.found.items) (λ cs h. computed_matched law.usable law.last g is kind cs numbers h) (λ cs h. matched_computed law.usable law.last g is kind cs numbers h) listed in
    record { exact = subst (λ xs. Lists (IsMatchOf g (computed kind)) (map classes_in xs)) (sym c.from.ensures) matches }
