use Rattle.std.proofs.Common.{sym, ◌∙◌}
use Rattle.forms.specs.Forms.{place_of, sexp_form}
use Rattle.forms.proofs.Told.{told}
use Rattle.goal_reader.specs.Reading.{names_of_targets}
use Rattle.proc_goal.specs.ProcRoles as roles
use Rattle.proc_goal.specs.ProcRoles.{IsProcFaultAs}
use Rattle.proc_goal.proofs.Leaves.{form_first, set_again_first, unknown_set_first}
use Rattle.proc_goal.proofs.ListForms.{pinned_known}
use Rattle.proc_goal.proofs.sets.name_to_set.Goals as goal

pub returns-in_default-clause-fault : goal.returns-in_default-clause-fault
returns-in_default-clause-fault c =
    let text = c.args.text.now in
    let form = sexp_form text c.args.form.now in
    let role = roles.set_name c.args.vars.now (names_of_targets c.args.before.now) in
    let s = c.sexps_are_forms.ensures.stands text c.args.form.now c.requires.of in
    told (IsProcFaultAs role form) c.at.result c.place.result (place_of form) _ c.at.ensures (c.place.ensures text)
    (form_first role form s.0 s.1 s.2 (roles.no_set_name c.in_default.ensures.name))

pub returns-in_default-pin_of-clause-fault : goal.returns-in_default-pin_of-clause-fault
returns-in_default-pin_of-clause-fault c =
    let text = c.args.text.now in
    let form = sexp_form text c.args.form.now in
    let vars = c.args.vars.now in
    let given = names_of_targets c.args.before.now in
    let s = c.sexps_are_forms.ensures.stands text c.args.form.now c.requires.of in
    told (IsProcFaultAs (roles.set_name vars given) form) c.at-in_default-pin_of.result c.place-in_default-pin_of.result (place_of form) _ c.at-in_default-pin_of.ensures (c.place-in_default-pin_of.ensures text)
    (unknown_set_first vars given form s.0 s.1 c.in-Some.bytes.now s.2 c.in-Some.ensures.name c.in_default-pin_of.ensures)

pub returns-then-is_set-clause-fault : goal.returns-then-is_set-clause-fault
returns-then-is_set-clause-fault c =
    let text = c.args.text.now in
    let form = sexp_form text c.args.form.now in
    let vars = c.args.vars.now in
    let given = names_of_targets c.args.before.now in
    let s = c.sexps_are_forms.ensures.stands text c.args.form.now c.requires.of in
    told (IsProcFaultAs (roles.set_name vars given) form) c.at-then-is_set.result c.place-then-is_set.result (place_of form) _ c.at-then-is_set.ensures (c.place-then-is_set.ensures text)
    (set_again_first vars given form s.0 s.1 c.in-Some.bytes.now s.2 c.in-Some.ensures.name (pinned_known vars c.in-Some.bytes.now c.in-Some-pin_of.pin c.in-Some-pin_of.ensures) (sym c.is_set.ensures ∙ c.if-is_set.true))

pub returns-clause-named : goal.returns-clause-named
returns-clause-named c = record {
  named = c.in-Some.ensures.name;
  pinned = c.in-Some-pin_of.ensures;
  fresh = sym c.is_set.ensures ∙ c.if-is_set.false;
}
