use Rattle.std.proofs.Common.{ap, ◌∙◌, sym, subst, All}
use Rattle.forms.specs.Forms.{is_list, list, place_of, forms_from, sexp_forms, sexp_form}
use Rattle.forms.specs.Reading.{IsSexpOf}
use Rattle.forms.proofs.Views.{atom_form, list_form}
use Rattle.forms.proofs.reading.parts.Goals as goal

pub returns-in-Atom-clause-parts : goal.returns-in-Atom-clause-parts
returns-in-Atom-clause-parts c = λ text. ap is_list (atom_form text (c.sexps_are_forms.ensures.atoms text) c.args.form.now c.in-Atom.field-0 c.in-Atom.is)

pub returns-in-List-clause-parts : goal.returns-in-List-clause-parts
returns-in-List-clause-parts c = λ text.
    let e = list_form text (c.sexps_are_forms.ensures.lists text) c.args.form.now c.in-List.place c.in-List.parts c.in-List.is in
    e ∙ ap (λ place. list place (forms_from (sexp_forms text c.in-List.parts.items))) (sym (ap place_of e))
    ∙ ap (λ items. list (place_of (sexp_form text c.args.form.now)) (forms_from (sexp_forms text items))) (sym c.as_slice.ensures.value)

pub returns-in-List-clause-of : goal.returns-in-List-clause-of
returns-in-List-clause-of c = λ text of.
    subst (All (IsSexpOf text)) (sym c.as_slice.ensures.value) (c.sexps_are_forms.ensures.parts text c.in-List.place c.in-List.parts (subst (IsSexpOf text) c.in-List.is of))
