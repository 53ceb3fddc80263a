use Rattle.axiom_base.proofs.Sides.{variable_is_no_application, is_application, operator_gives_sort}
use Rattle.axiom_base.proofs.well_formed.sort_of.Goals as goal

pub returns-in-Var : goal.returns-in-Var
returns-in-Var c = variable_is_no_application c.terms_are_trees.ensures.variables c.in-Var.field-0 _ c.in-Var.is

pub returns-in-App : goal.returns-in-App
returns-in-App c =
    let at = c.in-App in (
      is_application c.terms_are_trees.ensures.applications at.op at.field-1 _ at.is,
      λ variables sort h. rw c.sort.ensures (operator_gives_sort c.terms_are_trees.ensures.applications at.op at.field-1 _ at.is variables sort h),
    )
