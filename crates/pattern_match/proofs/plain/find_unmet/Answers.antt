use Rattle.std.specs.Prelude.{IsTrue, ◌↔◌}
use Rattle.std.proofs.Common.{rules, ◌≡◌, ◌+◌, ◌≤◌, ◌<◌, false, true, All, [], map, length, take, sym, ap, subst, subst₂, arith}
use Rattle.word_terms.specs.Tree.{AreBelow}
use Rattle.axiom_base.specs.Schemes.{plain}
use Rattle.pattern_match.specs.Bindings.{AreMatches, IsSubstitution}
use Rattle.pattern_match.specs.Classes.{CanFindClass, IsClass}
use Rattle.pattern_match.specs.Found.{classes_in}
use Rattle.pattern_match.specs.Listing.{ListsUpTo, Chosen, nothing}
use Rattle.pattern_match.specs.Matches.{IsUnmet, IsUnmetOf}
use Rattle.pattern_match.specs.declared.found.Match.{Match}
use Rattle.pattern_match.proofs.Choosing.{AsItself, lists_same, classes_at, match_at, loop_takes, loop_skips, each_more, whole, part, up_to}
use Rattle.pattern_match.proofs.Matching.{Differ, rule_below, rule_unmet, unmet_rule, right_reads, differ_if, one_if, unmet_with}
use Rattle.pattern_match.proofs.plain.find_unmet.Goals as goal
use Rattle.pattern_match.proofs.plain.find_unmet.Goals.{After-deref-one-items, then-not-branch+in_ok-with+in_ok-push+else-len-most, else-not-branch}

-- the matches of the left side
matches_of : (c : After-deref-one-items) → AreMatches c.args.graph.now c.args.rule.now.left (IsSubstitution c.args.graph.now c.args.rule.now.left (length c.args.rule.now.variables)) c.deref-one-items.result.now
matches_of c =
    let g = c.args.graph.now in
    let exact = subst₂ (λ t n. AreMatches g t (IsSubstitution g t n) c.in_ok-matched.matched.items) c.left.ensures (ap length c.variables-variables.ensures.sorts) c.in_ok-matched.ensures.exact in
    subst (AreMatches g c.args.rule.now.left (IsSubstitution g c.args.rule.now.left (length c.args.rule.now.variables))) (sym c.deref-one-items.ensures.value) exact

pub substitutions-requires-clause-below : goal.substitutions-requires-clause-below
substitutions-requires-clause-below c =
    let r = c.args.rule.now in
    subst₂ (λ n t. AreBelow n t) (ap length (sym c.variables-variables.ensures.sorts)) (sym c.left.ensures) (rule_below r c.variables-variables.ensures.rule)

pub loop-one-init : goal.loop-one-init
loop-one-init c =
    let r = c.args.rule.now in
    let g = c.args.graph.now in
    record {
      chosen = subst (λ xs. Chosen (AsItself (Differ g r.left r.right) (Differ g r.left r.right)) [] (map classes_in xs)) (sym c.new-found.ensures.items) nothing;
      each = subst (All (λ (m : Match). IsUnmet g r m.classes m.class)) (sym c.new-found.ensures.items) (λ k d l. absurd (omega (arith, l)));
      few = let e = ap length c.new-found.ensures.items in omega (arith, e);
    }

pub has_class-requires : goal.has_class-requires
has_class-requires c =
    let g = c.args.graph.now in
    let r = c.args.rule.now in
    let m = matches_of (goal.at.has_class-requires c).After-deref-one-items in
    let matched = classes_at c.deref-one-items.result.now c.loop-one.one-index c.one-item.result c.loop-one-test.true c.one-item.is (IsSubstitution g r.left (length r.variables)) m.lists.each in
    record { can = subst₂ (CanFindClass g) (sym c.as_slice.ensures) (sym c.right-right.ensures) (right_reads g c.requires.graph r c.variables-variables.ensures.rule c.one-item.result.classes matched) }

pub loop-one-preserved : goal.loop-one-preserved
loop-one-preserved c =
    let g = c.args.graph.now in
    let r = c.args.rule.now in
    let is = c.requires.graph in
    let D = Differ g r.left r.right in
    let items = c.deref-one-items.result.now in
    let i = c.loop-one.one-index in
    let m = c.one-item.result in
    let all = matches_of (goal.at.loop-one-preserved c).After-deref-one-items in
    let matched = classes_at items i m c.loop-one-test.true c.one-item.is (IsSubstitution g r.left (length r.variables)) all.lists.each in
    let left = match_at items i m c.loop-one-test.true c.one-item.is (λ (x : Match). IsClass g x.classes r.left x.class) all.classes in
    let exact = subst₂ (λ cs t. IsTrue c.in_ok-has_class.field-0 ↔ IsClass g cs t m.class) c.as_slice.ensures c.right-right.ensures c.in_ok-has_class.ensures.exact in
    elim c.if-not-branch.branch [
      | then-not-branch+in_ok-with+in_ok-push+else-len-most w ↦
          (let never : IsClass g m.classes r.right m.class → ⊥ = λ k. (let t = exact.1 k in let f : c.in_ok-has_class.field-0 ≡ false = search rules in absurd (cc)) in
          let x = w.in_ok-with.field-0 in
          let same = w.in_ok-with.ensures in
          let after = loop_takes items i m c.loop-one-test.true c.one-item.is D c.loop-one.found.items c.loop-one.invariant.chosen _ x w.in_ok-push.ensures.items (ap classes_in same) (differ_if g is r.left r.right m.classes m.class left never) in
          let one = subst (λ (y : Match). IsUnmet g r y.classes y.class) (sym same) (unmet_with g is r c.variables-variables.ensures.rule m.classes m.class matched left never) in
          let each = each_more (λ (y : Match). IsUnmet g r y.classes y.class) c.loop-one.found.items _ x c.loop-one.invariant.each w.in_ok-push.ensures.items one in
          record {
            chosen = subst (λ f. Chosen (AsItself D D) (map classes_in (take (i + 1) items)) (map classes_in f.items)) (sym w.found-is) after;
            each = subst (λ f. All (λ (y : Match). IsUnmet g r y.classes y.class) f.items) (sym w.found-is) each;
            few = subst (λ f. length f.items ≤ c.args.most) (sym w.found-is) (omega (arith, w.if-len-most.false, w.len.ensures, w.push.new.self.ok.0));
          })
      | else-not-branch w ↦
          (let has : IsClass g m.classes r.right m.class = exact.0 (search rules) in
          let same = loop_skips items i m c.loop-one-test.true c.one-item.is D c.loop-one.found.items c.loop-one.invariant.chosen (λ d. d (one_if g is r.left r.right m.classes m.class left has)) in
          record {
            chosen = subst (λ f. Chosen (AsItself D D) (map classes_in (take (i + 1) items)) (map classes_in f.items)) (sym w.found-is) same;
            each = subst (λ f. All (λ (y : Match). IsUnmet g r y.classes y.class) f.items) (sym w.found-is) c.loop-one.invariant.each;
            few = subst (λ f. length f.items ≤ c.args.most) (sym w.found-is) c.loop-one.invariant.few;
          })
    ]

pub returns-then-len-most : goal.returns-then-len-most
returns-then-len-most c =
    let g = c.args.graph.now in
    let r = c.args.rule.now in
    let is = c.requires.graph in
    let rule = c.variables-variables.ensures.rule in
    let P = IsSubstitution g r.left (length r.variables) in
    let D = Differ g r.left r.right in
    let items = c.deref-one-items.result.now in
    let i = c.loop-one.one-index in
    let m = c.one-item.result in
    let all = matches_of (goal.at.returns-then-len-most c).After-deref-one-items in
    let matched = classes_at items i m c.loop-one-test.true c.one-item.is P all.lists.each in
    let left = match_at items i m c.loop-one-test.true c.one-item.is (λ (x : Match). IsClass g x.classes r.left x.class) all.classes in
    let exact = subst₂ (λ cs t. IsTrue c.in_ok-has_class.field-0 ↔ IsClass g cs t m.class) c.as_slice.ensures c.right-right.ensures c.in_ok-has_class.ensures.exact in
    let f : c.in_ok-has_class.field-0 ≡ false = c.if-not-branch.true in
    let never : IsClass g m.classes r.right m.class → ⊥ = λ k. (let t : c.in_ok-has_class.field-0 ≡ true = exact.1 k in absurd (cc)) in
    let x = c.in_ok-with.field-0 in
    let same = c.in_ok-with.ensures in
    let after = loop_takes items i m c.loop-one-test.true c.one-item.is D c.loop-one.found.items c.loop-one.invariant.chosen c.push.new.self.items x c.in_ok-push.ensures.items (ap classes_in same) (differ_if g is r.left r.right m.classes m.class left never) in
    let one = subst (λ (y : Match). IsUnmet g r y.classes y.class) (sym same) (unmet_with g is r rule m.classes m.class matched left never) in
    let each = each_more (λ (y : Match). IsUnmet g r y.classes y.class) c.loop-one.found.items c.push.new.self.items x c.loop-one.invariant.each c.in_ok-push.ensures.items one in
    let more : c.args.most < length c.push.new.self.items = omega (arith, c.if-len-most.true, c.len.ensures, c.push.new.self.ok.0) in
    let found = part P D items c.push.new.self.items all.lists (IsUnmetOf g (plain r)) (rule_unmet g is r rule) (i + 1) c.args.most more after in
    record {
      found = subst (λ xs. ListsUpTo (IsUnmetOf g (plain r)) c.args.most (map classes_in xs)) (sym c.from.ensures) found;
      each = subst (All (λ (y : Match). IsUnmet g r y.classes y.class)) (sym c.from.ensures) each;
    }

pub returns : goal.returns
returns c =
    let g = c.args.graph.now in
    let r = c.args.rule.now in
    let D = Differ g r.left r.right in
    let all = matches_of (goal.at.returns c).After-deref-one-items in
    let listed = whole (IsSubstitution g r.left (length r.variables)) D c.deref-one-items.result.now c.loop-one.found.items all.lists c.loop-one.one-index c.loop-one-test.false c.loop-one.invariant.chosen in
    let unmet = lists_same _ (IsUnmetOf g (plain r)) (map classes_in c.loop-one.found.items) (rule_unmet g c.requires.graph r c.variables-variables.ensures.rule) (unmet_rule g c.requires.graph r c.variables-variables.ensures.rule) listed in
    record {
      found = subst (λ xs. ListsUpTo (IsUnmetOf g (plain r)) c.args.most (map classes_in xs)) (sym c.from-2.ensures) (up_to (IsUnmetOf g (plain r)) c.args.most (map classes_in c.loop-one.found.items) unmet);
      each = subst (All (λ (m : Match). IsUnmet g r m.classes m.class)) (sym c.from-2.ensures) c.loop-one.invariant.each;
    }
