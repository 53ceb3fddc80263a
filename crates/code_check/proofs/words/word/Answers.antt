use Rattle.std.proofs.Common.{sym, arith}
use Rattle.forms.specs.Forms.{place_of, sexp_form}
use Rattle.forms.proofs.Told.{told}
use Rattle.code_check.specs.CodeRoles as roles
use Rattle.code_check.specs.CodeRoles.{IsCodeFaultAs}
use Rattle.code_check.proofs.Leaves.{form_first, stray_first}
use Rattle.code_check.proofs.words.word.Goals as goal

pub returns-in_default-clause-fault : goal.returns-in_default-clause-fault
returns-in_default-clause-fault c = λ count before.
    let text = c.args.text.now in
    let form = sexp_form text c.args.form.now in
    let s = c.sexps_are_forms.ensures.stands text c.args.form.now c.requires.of in
    told (IsCodeFaultAs (roles.a_word count before) form) c.at.result c.place.result (place_of form) _ c.at.ensures (c.place.ensures text)
    (form_first (roles.a_word count before) form s.0 s.1 s.2 (roles.no_number (sym (c.in_default.ensures text))))

pub returns-in-Err-clause-fault : goal.returns-in-Err-clause-fault
returns-in-Err-clause-fault c = λ count before.
    let text = c.args.text.now in
    let form = sexp_form text c.args.form.now in
    let s = c.sexps_are_forms.ensures.stands text c.args.form.now c.requires.of in
    told (IsCodeFaultAs (roles.a_word count before) form) c.at-in-Err.result c.place-in-Err.result (place_of form) _ c.at-in-Err.ensures (c.place-in-Err.ensures text)
    (stray_first count before form s.0 s.1 c.in-Some.value s.2 (sym (c.in-Some.ensures text)) (λ h. let l = h.0 in omega (arith, l)))
