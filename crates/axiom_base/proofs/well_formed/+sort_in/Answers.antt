use Rattle.std.proofs.Common.{◌≡◌, ◌<◌, length, get_or, ap, ◌∙◌, arith}
use Rattle.std.proofs.lemmas.Bool.Decides.{nat_tests}
use Rattle.word_terms.specs.Sorting.{sort_at}
use Rattle.axiom_base.proofs.Sides.{occurs_in_operand, operand_has_sort, occurs_nowhere, variable_occurs, variable_is_that, sort_of_variable}
use Rattle.axiom_base.proofs.well_formed.+sort_in.Goals as goal

pub returns-in-Some-clause-place : goal.returns-in-Some-clause-place
returns-in-Some-clause-place t c =
    let at = c.in-App in
    let items : c.deref-operand-items.result.now ≡ at.operands.items = c.deref-operand-items.ensures.value in
    let within : c.loop-at.at < length at.operands.items = grind (arith, items) in
    let is : c.operand-item.result ≡ get_or at.operands.items c.loop-at.at c.operand-item.result = c.operand-item.is ∙ ap (λ xs. get_or xs c.loop-at.at c.operand-item.result) items in
    let found = c.in-Some.ensures.place in (
      occurs_in_operand c.terms_are_trees.ensures.applications at.op at.operands _ at.is c.args.number c.loop-at.at c.operand-item.result within is found.0,
      λ variables h. found.1 variables (rw c.sort_of_place.ensures (operand_has_sort c.terms_are_trees.ensures.applications at.op at.operands _ at.is variables c.args.sort c.loop-at.at c.operand-item.result within is h)),
    )

pub returns-then-n-number-clause-place : goal.returns-then-n-number-clause-place
returns-then-n-number-clause-place t c =
    let at = c.in-Var in
    let same : c.args.number ≡ at.n = grind (arith, nat_tests, c.if-n-number.true) in (
      variable_occurs c.terms_are_trees.ensures.variables at.n _ at.is c.args.number same,
      λ variables h. ap (sort_at variables) same ∙ (sort_of_variable c.terms_are_trees.ensures.variables at.n _ at.is variables c.args.sort h).1,
    )

pub returns-else-n-number-clause-place : goal.returns-else-n-number-clause-place
returns-else-n-number-clause-place t c =
    let at = c.in-Var in
    λ h. let same = variable_is_that c.terms_are_trees.ensures.variables at.n _ at.is c.args.number h in absurd (grind (arith, nat_tests, same, c.if-n-number.false))

pub returns-after-loop-at-clause-place : goal.returns-after-loop-at-clause-place
returns-after-loop-at-clause-place t c =
    let at = c.in-App in
    let items : c.deref-operand-items.result.now ≡ at.operands.items = c.deref-operand-items.ensures.value in
    occurs_nowhere c.terms_are_trees.ensures.applications at.op at.operands _ at.is c.args.number c.loop-at.at (grind (arith, items, c.loop-at-test.false))
    (λ k d l. let never = c.loop-at.invariant k d l in (λ h. never (rw items h)))
