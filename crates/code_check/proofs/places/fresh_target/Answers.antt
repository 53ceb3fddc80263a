use Rattle.std.proofs.Common.{map, sym, ◌∙◌}
use Rattle.forms.specs.Forms.{place_of, sexp_form, sexp_forms}
use Rattle.forms.proofs.Told.{told}
use Rattle.goal_meaning.specs.Views.{target_view}
use Rattle.code_check.specs.CodeRoles as roles
use Rattle.code_check.specs.CodeRoles.{IsCodeFaultAs, targets_named}
use Rattle.code_check.proofs.Leaves.{form_first, given_first, unknown_target_first}
use Rattle.code_check.proofs.places.fresh_target.Goals as goal

pub returns-in_default-clause-fault : goal.returns-in_default-clause-fault
returns-in_default-clause-fault c =
    let text = c.args.text.now in
    let form = sexp_form text c.args.form.now in
    let sets = map target_view c.args.sets.now in
    let given = targets_named (sexp_forms text c.args.before.now) in
    let s = c.sexps_are_forms.ensures.stands text c.args.form.now c.requires.of in
    told (IsCodeFaultAs (roles.target_name sets given) form) c.at.result c.place.result (place_of form) _ c.at.ensures (c.place.ensures text)
    (form_first (roles.target_name sets given) form s.0 s.1 s.2 (roles.no_target_name c.in_default.ensures.name))

pub returns-in_default-word_target-clause-fault : goal.returns-in_default-word_target-clause-fault
returns-in_default-word_target-clause-fault c =
    let text = c.args.text.now in
    let form = sexp_form text c.args.form.now in
    let sets = map target_view c.args.sets.now in
    let given = targets_named (sexp_forms text c.args.before.now) in
    let s = c.sexps_are_forms.ensures.stands text c.args.form.now c.requires.of in
    told (IsCodeFaultAs (roles.target_name sets given) form) c.at-in_default-word_target.result c.place-in_default-word_target.result (place_of form) _ c.at-in_default-word_target.ensures (c.place-in_default-word_target.ensures text)
    (unknown_target_first sets given form s.0 s.1 c.in-Some.bytes.now s.2 c.in-Some.ensures.name c.in_default-word_target.ensures)

pub returns-then-is_named-clause-fault : goal.returns-then-is_named-clause-fault
returns-then-is_named-clause-fault c =
    let text = c.args.text.now in
    let form = sexp_form text c.args.form.now in
    let sets = map target_view c.args.sets.now in
    let given = targets_named (sexp_forms text c.args.before.now) in
    let s = c.sexps_are_forms.ensures.stands text c.args.form.now c.requires.of in
    let found = c.in-Some-word_target.ensures in
    told (IsCodeFaultAs (roles.target_name sets given) form) c.at-then-is_named.result c.place-then-is_named.result (place_of form) _ c.at-then-is_named.ensures (c.place-then-is_named.ensures text)
    (given_first sets given form s.0 s.1 c.in-Some.bytes.now found.item s.2 c.in-Some.ensures.name found.is (sym c.is_named.ensures ∙ c.if-is_named.true))

pub returns-clause-target : goal.returns-clause-target
returns-clause-target c = record {
  bytes = c.in-Some.bytes.now;
  named = c.in-Some.ensures.name;
  found = c.in-Some-word_target.ensures;
  fresh = sym c.is_named.ensures ∙ c.if-is_named.false;
}
