use Rattle.std.proofs.Common.{map, sym, ◌∙◌}
use Rattle.forms.specs.Forms.{place_of, sexp_form}
use Rattle.forms.proofs.Told.{told}
use Rattle.goal_reader.specs.Roles as roles
use Rattle.goal_reader.specs.Roles.{IsFaultAs}
use Rattle.goal_reader.proofs.NewNames.{no_fresh_first, taken_first}
use Rattle.code_lift.specs.Views.{lift_view, names_of_lifts}
use Rattle.code_lift.proofs.reading.lift_name.Goals as goal

pub returns-in_default-clause-fault : goal.returns-in_default-clause-fault
returns-in_default-clause-fault c =
    let text = c.args.text.now in
    let form = sexp_form text c.args.form.now in
    let names = names_of_lifts (map lift_view c.args.before.now) in
    let s = c.sexps_are_forms.ensures.stands text c.args.form.now c.requires.of in
    told (IsFaultAs (roles.fresh_name names) form) c.at.result c.place.result (place_of form) _ c.at.ensures (c.place.ensures text)
    (no_fresh_first names form s.0 s.1 s.2 c.in_default.ensures.name)

pub returns-then-is_lift_name-clause-fault : goal.returns-then-is_lift_name-clause-fault
returns-then-is_lift_name-clause-fault c =
    let text = c.args.text.now in
    let form = sexp_form text c.args.form.now in
    let names = names_of_lifts (map lift_view c.args.before.now) in
    let s = c.sexps_are_forms.ensures.stands text c.args.form.now c.requires.of in
    told (IsFaultAs (roles.fresh_name names) form) c.at-then-is_lift_name.result c.place-then-is_lift_name.result (place_of form) _ c.at-then-is_lift_name.ensures (c.place-then-is_lift_name.ensures text)
    (taken_first names form s.0 s.1 s.2 c.in-Some.bytes.now c.in-Some.ensures.name (sym c.is_lift_name.ensures ∙ c.if-is_lift_name.true))
