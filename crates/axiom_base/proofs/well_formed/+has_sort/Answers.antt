use Rattle.std.proofs.Common.{◌≡◌, ◌<◌, IsTrue, false, length, get_or, ap, sym, ◌∙◌, refl, arith}
use Rattle.axiom_base.proofs.Sides.{operator_gives_sort, operator_takes_all, operand_has_sort, application_has_sort, variable_has_sort, sort_of_variable}
use Rattle.axiom_base.proofs.well_formed.+has_sort.Goals as goal

never : {P : Type 0} → (P → ⊥) → (IsTrue false → P) × (P → IsTrue false)
never h = (λ e. cc, λ p. absurd (h p))

pub returns-in-Var : goal.returns-in-Var
returns-in-Var t c =
    let at = c.in-Var in (
      λ e. let h = c.is_sort_at.ensures.0 e in variable_has_sort c.terms_are_trees.ensures.variables at.n _ at.is c.args.variables.now c.args.sort h.0 h.1,
      λ h. c.is_sort_at.ensures.1 (sort_of_variable c.terms_are_trees.ensures.variables at.n _ at.is c.args.variables.now c.args.sort h),
    )

pub returns-then-not-takes_and_gives : goal.returns-then-not-takes_and_gives
returns-then-not-takes_and_gives t c =
    let at = c.in-App in
    let count : c.len.result ≡ length at.operands.items = grind (arith, c.len.ensures, at.operands.ok.0) in
    never (λ h.
    let fits = c.takes_and_gives.ensures.exact.1 (
      count ∙ operator_takes_all c.terms_are_trees.ensures.applications at.op at.operands _ at.is c.args.variables.now c.args.sort h,
      operator_gives_sort c.terms_are_trees.ensures.applications at.op at.operands _ at.is c.args.variables.now c.args.sort h,
    ) in
    cc)

pub returns-then-not-has_sort : goal.returns-then-not-has_sort
returns-then-not-has_sort t c =
    let at = c.in-App in
    let items : c.deref-operand-items.result.now ≡ at.operands.items = c.deref-operand-items.ensures.value in
    let within : c.loop-at.at < length at.operands.items = grind (arith, items) in
    let is : c.operand-item.result ≡ get_or at.operands.items c.loop-at.at c.operand-item.result = c.operand-item.is ∙ ap (λ xs. get_or xs c.loop-at.at c.operand-item.result) items in
    never (λ h.
    let operand = c.has_sort.ensures.1 (rw c.sort_of_place.ensures (operand_has_sort c.terms_are_trees.ensures.applications at.op at.operands _ at.is c.args.variables.now c.args.sort c.loop-at.at c.operand-item.result within is h)) in
    cc)

pub returns-after-loop-at : goal.returns-after-loop-at
returns-after-loop-at t c =
    let at = c.in-App in
    let items : c.deref-operand-items.result.now ≡ at.operands.items = c.deref-operand-items.ensures.value in
    let count : c.len.result ≡ length at.operands.items = grind (arith, c.len.ensures, at.operands.ok.0) in
    let fits = c.takes_and_gives.ensures.exact.0 c.if-not-takes_and_gives.false in (
      λ e. application_has_sort c.terms_are_trees.ensures.applications at.op at.operands _ at.is c.args.variables.now c.args.sort c.loop-at.at fits.1 c.takes_and_gives.ensures.in_range
          (sym count ∙ fits.0) (grind (arith, items, c.loop-at-test.false))
          (λ k d l. let h = c.loop-at.invariant k d l in rw (← items) h),
      λ h. refl,
    )
