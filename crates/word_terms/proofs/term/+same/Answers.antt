use Rattle.std.proofs.Common.{◌≡◌, ap, arith, sym, ◌∙◌, Bool, IsTrue, take, get_or, false, refl, length, ◌<◌}
use Rattle.std.proofs.lemmas.Bool.Decides.{nat_tests}
use Rattle.std.proofs.lemmas.List.{take_all}
use Rattle.word_terms.specs.View.{trees_of}
use Rattle.word_terms.proofs.Trees.{same_variables, variable_not_application, operators_same, lengths_same, operands_same, applications_same}
use Rattle.word_terms.proofs.term.+same.Goals.{then-not-same_operator-via-then-not-same_operator, then-not-same_operator-via-else-not-same_operator+then-len}
use Rattle.word_terms.proofs.term.+same.Goals as goal

abbrev Exact : Bool → Type 0 → Type 0
Exact b P = record { exact : (IsTrue b → P) × (P → IsTrue b) }

are_not : {P : Type 0} → (P → ⊥) → Exact false P
are_not never = record { exact = (λ h. cc, λ p. absurd (never p)) }

pub returns-then-not-same_operator : goal.returns-then-not-same_operator
returns-then-not-same_operator g t c =
    let at = c.in-App-App in
    are_not (λ h. elim c.then-not-same_operator.branch [
      | then-not-same_operator-via-then-not-same_operator w ↦
          let never = c.same_operator.ensures.exact.1 (operators_same at.p at.q at.xs at.ys _ _ at.is-0 at.is-1 h) in cc
      | then-not-same_operator-via-else-not-same_operator+then-len w ↦
          let e = lengths_same at.p at.q at.xs at.ys _ _ at.is-0 at.is-1 h in grind (arith, e, w.if-len)
    ])

pub returns-then-not-same : goal.returns-then-not-same
returns-then-not-same g t c =
    let at = c.in-App-App in
    let items : c.deref-x-items.result.now ≡ at.xs.items = c.deref-x-items.ensures.value in
    let in_xs : c.loop-i.i < length at.xs.items = grind (arith, items) in
    let in_ys : c.loop-i.i < length at.ys.items = grind (arith, items, at.xs.ok.0, at.ys.ok.0) in
    are_not (λ h.
    let e = c.same.ensures.exact.1 (operands_same at.p at.q at.xs at.ys _ _ c.loop-i.i c.x-item.result c.index.result.now at.is-0 at.is-1 in_xs in_ys
    (c.x-item.is ∙ ap (λ xs. get_or xs c.loop-i.i c.x-item.result) items) c.index.ensures h) in cc)

pub returns-in-Var-Var : goal.returns-in-Var-Var
returns-in-Var-Var g t c =
    let at = c.in-Var-Var in
    let both = same_variables at.m at.n _ _ at.is-0 at.is-1 in
    record { exact = (λ h. both.0 (grind (arith, nat_tests, h)), λ e. let same = both.1 e in grind (arith, nat_tests, same)) }

pub returns-after-loop-i : goal.returns-after-loop-i
returns-after-loop-i g t c =
    let at = c.in-App-App in
    let items : c.deref-x-items.result.now ≡ at.xs.items = c.deref-x-items.ensures.value in
    let all_xs = take_all c.loop-i.i at.xs.items (grind (arith, items)) in
    let all_ys = take_all c.loop-i.i at.ys.items (grind (arith, items)) in
    let trees : trees_of at.xs.items ≡ trees_of at.ys.items =
    sym (ap trees_of (ap (take c.loop-i.i) items ∙ all_xs)) ∙ c.loop-i.invariant ∙ ap trees_of all_ys in
    let op : at.p ≡ at.q = c.same_operator.ensures.exact.0 (grind (arith, nat_tests, c.if-not-same_operator.false)) in
    record { exact = (λ h. applications_same at.p at.q at.xs at.ys _ _ at.is-0 at.is-1 op trees, λ e. refl) }

pub returns-in_default : goal.returns-in_default
returns-in_default g t c = are_not (variable_not_application _ _ _ _ _ c.in_default.is-0 c.in_default.is-1)

pub returns-in_default-2 : goal.returns-in_default-2
returns-in_default-2 g t c = are_not (λ h. variable_not_application _ _ _ _ _ c.in_default.is-1 c.in_default.is-0 (sym h))
