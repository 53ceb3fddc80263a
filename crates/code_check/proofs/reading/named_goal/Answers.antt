use Rattle.std.proofs.Common.{map}
use Rattle.forms.specs.Forms.{place_of, sexp_form}
use Rattle.forms.proofs.Told.{told}
use Rattle.goal_meaning.specs.Views.{goal_view}
use Rattle.code_check.specs.CodeRoles as roles
use Rattle.code_check.specs.CodeRoles.{IsCodeFaultAs}
use Rattle.code_check.proofs.Leaves.{form_first, unknown_goal_first}
use Rattle.code_check.proofs.reading.named_goal.Goals as goal

pub returns-in_default-clause-fault : goal.returns-in_default-clause-fault
returns-in_default-clause-fault c =
    let text = c.args.text.now in
    let form = sexp_form text c.args.form.now in
    let goals = map goal_view c.args.goals.now in
    let s = c.sexps_are_forms.ensures.stands text c.args.form.now c.requires.of in
    told (IsCodeFaultAs (roles.goal_name goals) form) c.at.result c.place.result (place_of form) _ c.at.ensures (c.place.ensures text)
    (form_first (roles.goal_name goals) form s.0 s.1 s.2 (roles.no_goal_name c.in_default.ensures.name))

pub returns-in-Some-goal_number-clause-goal : goal.returns-in-Some-goal_number-clause-goal
returns-in-Some-goal_number-clause-goal c = record { bytes = c.in-Some.bytes.now; named = c.in-Some.ensures.name; found = c.in-Some-goal_number.ensures }

pub returns-in-None-clause-fault : goal.returns-in-None-clause-fault
returns-in-None-clause-fault c =
    let text = c.args.text.now in
    let form = sexp_form text c.args.form.now in
    let goals = map goal_view c.args.goals.now in
    let s = c.sexps_are_forms.ensures.stands text c.args.form.now c.requires.of in
    told (IsCodeFaultAs (roles.goal_name goals) form) c.at-in-None.result c.place-in-None.result (place_of form) _ c.at-in-None.ensures (c.place-in-None.ensures text)
    (unknown_goal_first goals form s.0 s.1 c.in-Some.bytes.now s.2 c.in-Some.ensures.name c.in-None.ensures)
