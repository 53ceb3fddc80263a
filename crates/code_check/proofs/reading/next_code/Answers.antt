use Rattle.std.proofs.Common.{map, sym, ◌∙◌}
use Rattle.forms.specs.Forms.{place_of, sexp_form}
use Rattle.forms.proofs.Told.{told}
use Rattle.goal_meaning.specs.Views.{goal_view}
use Rattle.code_check.specs.CodeRoles as roles
use Rattle.code_check.specs.CodeRoles.{IsCodeFaultAs}
use Rattle.code_check.proofs.CodeTexts.{beyond_first, wrong_first}
use Rattle.code_check.proofs.reading.next_code.Goals as goal

pub returns-then-not-is_code-clause-fault : goal.returns-then-not-is_code-clause-fault
returns-then-not-is_code-clause-fault c =
    let text = c.args.text.now in
    let form = sexp_form text c.args.form.now in
    let goals = map goal_view c.args.goals.now in
    let s = c.sexps_are_forms.ensures.stands text c.args.form.now c.requires.of in
    told (IsCodeFaultAs (roles.top_role goals c.args.index form) form) c.at.result c.place.result (place_of form) _ c.at.ensures (c.place.ensures text)
    (wrong_first goals c.args.index form s.0 s.1 s.2 (sym c.is_code.ensures ∙ c.if-not-is_code.true))

pub returns-then-index-ge-MOST_CODES-clause-fault : goal.returns-then-index-ge-MOST_CODES-clause-fault
returns-then-index-ge-MOST_CODES-clause-fault c =
    let text = c.args.text.now in
    let form = sexp_form text c.args.form.now in
    let goals = map goal_view c.args.goals.now in
    let s = c.sexps_are_forms.ensures.stands text c.args.form.now c.requires.of in
    told (IsCodeFaultAs (roles.top_role goals c.args.index form) form) c.at-then-index-ge-MOST_CODES.result c.place-then-index-ge-MOST_CODES.result (place_of form) _ c.at-then-index-ge-MOST_CODES.ensures (c.place-then-index-ge-MOST_CODES.ensures text)
    (beyond_first goals c.args.index form s.0 s.1 s.2 (sym c.is_code.ensures ∙ c.if-not-is_code.false) c.if-index-ge-MOST_CODES.true)
