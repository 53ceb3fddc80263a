use Rattle.std.proofs.Common.{◌≡◌, ◌+◌, ◌≤◌, ap, length, sym, ◌∙◌, subst, arith}
use Rattle.std.specs.declared.vec.Vec.{Vec}
use Rattle.std.specs.declared.alloc.Global.{Global}
use Rattle.word_ops.specs.declared.sorts.Sort.{Sort}
use Rattle.word_terms.specs.Tree.{variable, AreBelow, substituted}
use Rattle.word_terms.specs.View.{tree_of, trees_of}
use Rattle.goal_meaning.specs.Views.{axiom_view}
use Rattle.saturation.proofs.RuleSteps.{Numbered, numbers_more, sorts_more, sorts_same, few_sorts, sorts_count, side_below, rule_can}
use Rattle.saturation.proofs.axiom_rules.rule.Goals as goal
use Rattle.saturation.proofs.axiom_rules.rule.Goals.{then-has_variable+in_ok-push-2, else-has_variable, After-deref}

pub overflow_cast-len : goal.overflow_cast-len
overflow_cast-len c =
    let few = few_sorts (axiom_view c.args.equation.now) c.loop-number.number c.loop-number.sorts.items c.loop-number.invariant.1 in
    omega (arith, few, c.len.ensures, c.loop-number.sorts.ok.0, c.loop-number-test.true, c.requires.equation.1.some.1)

pub loop-number-preserved : goal.loop-number-preserved
loop-number-preserved c =
    let a = axiom_view c.args.equation.now in
    let k = c.loop-number.number in
    let count = c.len.ensures ∙ c.loop-number.sorts.ok.0 ∙ sorts_count a k c.loop-number.sorts.items c.loop-number.invariant.1 in
    let numbered = numbers_more a c.loop-number.numbered.items k c.variable.result c.loop-number.invariant.0 (c.variable.ensures.tree ∙ ap variable count) in (
      subst (λ xs. Numbered a xs (k + 1)) (sym c.in_ok-push.ensures.items) numbered,
      elim c.if-has_variable.branch [
        | then-has_variable+in_ok-push-2 w ↦
            ap (λ (v : Vec Sort Global). v.items) w.sorts-is ∙ w.in_ok-push-2.ensures.items ∙ sorts_more a k c.loop-number.sorts.items c.loop-number.invariant.1 (sym c.has_variable.ensures ∙ w.if-has_variable.true)
        | else-has_variable w ↦
            ap (λ (v : Vec Sort Global). v.items) w.sorts-is ∙ sorts_same a k c.loop-number.sorts.items c.loop-number.invariant.1 (sym c.has_variable.ensures ∙ w.if-has_variable.false)
      ],
    )

-- each variable has its number
all_numbered : (c : After-deref) → c.loop-number.number ≡ length c.args.equation.now.variables
all_numbered c =
    let e : c.len-number-end.result ≡ length c.args.equation.now.variables = c.len-number-end.ensures in
    let l : c.loop-number.number ≤ c.len-number-end.result = c.loop-number.auto.number-end in
    omega (arith, e, l, c.loop-number-test.false)

pub subst-requires : goal.subst-requires
subst-requires c =
    let a = axiom_view c.args.equation.now in
    record {
      variables = subst (λ xs. AreBelow (length xs) (tree_of c.args.equation.now.left)) (sym c.deref.ensures.value)
          (side_below a c.requires.equation.0 c.requires.equation.1 c.loop-number.numbered.items c.loop-number.number (all_numbered c) c.loop-number.invariant.0 a.left c.requires.equation.1.left);
    }

pub subst-requires-2 : goal.subst-requires-2
subst-requires-2 c =
    let a = axiom_view c.args.equation.now in
    record {
      variables = subst (λ xs. AreBelow (length xs) (tree_of c.args.equation.now.right)) (sym c.deref-2.ensures.value)
          (side_below a c.requires.equation.0 c.requires.equation.1 c.loop-number.numbered.items c.loop-number.number (all_numbered (goal.at.subst-requires-2 c).After-deref) c.loop-number.invariant.0 a.right c.requires.equation.1.right);
    }

pub over-requires : goal.over-requires
over-requires c =
    let a = axiom_view c.args.equation.now in
    let left = subst (λ xs. tree_of c.in_ok-left.left ≡ substituted (trees_of xs) a.left) c.deref.ensures.value c.in_ok-left.ensures.tree in
    let right = subst (λ xs. tree_of c.in_ok-right.right ≡ substituted (trees_of xs) a.right) c.deref-2.ensures.value c.in_ok-right.ensures.tree in
    rule_can a c.requires.equation.0 c.requires.equation.1 c.loop-number.numbered.items c.loop-number.number (all_numbered (goal.at.over-requires c).After-deref) c.loop-number.invariant.0 c.deref-3.result.now (tree_of c.in_ok-left.left) (tree_of c.in_ok-right.right)
    (c.deref-3.ensures.value ∙ c.loop-number.invariant.1) left right
