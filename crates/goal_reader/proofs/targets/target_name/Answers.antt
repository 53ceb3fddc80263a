use Rattle.std.proofs.Common.{sym, ◌∙◌}
use Rattle.forms.specs.Forms.{place_of, sexp_form}
use Rattle.forms.proofs.Told.{told}
use Rattle.goal_reader.specs.Roles as roles
use Rattle.goal_reader.specs.Roles.{Role, IsFaultAs, register_number, ◌>>=◌}
use Rattle.goal_reader.specs.Reading.{names_of_targets}
use Rattle.goal_reader.proofs.NewNames.{no_fresh_first, taken_first}
use Rattle.goal_reader.proofs.targets.target_name.Goals as goal

pub returns-in_default-clause-fault : goal.returns-in_default-clause-fault
returns-in_default-clause-fault c =
    let text = c.args.text.now in
    let form = sexp_form text c.args.form.now in
    let s = c.sexps_are_forms.ensures.stands text c.args.form.now c.requires.of in
    told (IsFaultAs (roles.fresh_name (names_of_targets c.args.targets.now)) form) c.at.result c.place.result (place_of form) _ c.at.ensures (c.place.ensures text)
    (no_fresh_first (names_of_targets c.args.targets.now) form s.0 s.1 s.2 c.in_default.ensures.name)

pub returns-then-is_target-clause-fault : goal.returns-then-is_target-clause-fault
returns-then-is_target-clause-fault c =
    let text = c.args.text.now in
    let form = sexp_form text c.args.form.now in
    let s = c.sexps_are_forms.ensures.stands text c.args.form.now c.requires.of in
    told (IsFaultAs (roles.fresh_name (names_of_targets c.args.targets.now)) form) c.at-then-is_target.result c.place-then-is_target.result (place_of form) _ c.at-then-is_target.ensures (c.place-then-is_target.ensures text)
    (taken_first (names_of_targets c.args.targets.now) form s.0 s.1 s.2 c.in-Some.bytes.now c.in-Some.ensures.name (sym c.is_target.ensures ∙ c.if-is_target.true))
