use Rattle.std.proofs.Common.{Some, ap}
use Rattle.std.proofs.lemmas.Result.{err_from_is_err_and}
use Rattle.word_ops.specs.declared.sorts.Sort.TheVariants as sorts
use Rattle.forms.specs.Forms.{place_of, is_list, sexp_form}
use Rattle.forms.proofs.Told.{told, told_of_part}
use Rattle.goal_reader.specs.Roles as roles
use Rattle.goal_reader.specs.Roles.{IsFaultAs}
use Rattle.goal_reader.proofs.Apart.{writes_clear}
use Rattle.goal_reader.proofs.LeftSides.{left_first, atom_first, left_clear}
use Rattle.goal_reader.proofs.axioms.left_side.Goals as goal

pub returns-in_err-left-clause-fault : goal.returns-in_err-left-clause-fault
returns-in_err-left-clause-fault c =
    let p = err_from_is_err_and c.from_residual.result c.from_residual.ensures.1 in
    let form = sexp_form c.args.text.now c.args.form.now in
    let scope = c.args.scope.now in
    rw (p.1, p.2)
    (told_of_part (IsFaultAs (roles.term scope (Some sorts.Word)) form) (IsFaultAs (roles.left_side scope) form) (left_first scope form) c.in_err-left.field-0.0 c.in_err-left.ensures.fault)

pub returns-in_default-clause-fault : goal.returns-in_default-clause-fault
returns-in_default-clause-fault c =
    let text = c.args.text.now in
    let form = sexp_form text c.args.form.now in
    let scope = c.args.scope.now in
    let w = c.in_ok-left.ensures.term in
    told (IsFaultAs (roles.left_side scope) form) c.at.result c.place.result (place_of form) _ c.at.ensures (c.place.ensures text)
    (atom_first scope form (writes_clear w.writes (Some sorts.Word) w.wanted_one) (c.in_default.ensures.parts text))

pub returns-clause-clear : goal.returns-clause-clear
returns-clause-clear c =
    let text = c.args.text.now in
    let form = sexp_form text c.args.form.now in
    let w = c.in_ok-left.ensures.term in
    left_clear c.args.scope.now form (writes_clear w.writes (Some sorts.Word) w.wanted_one) (ap is_list (c.in-Some.ensures.parts text))
