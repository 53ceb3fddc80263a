use Rattle.std.proofs.Common.{◌≡◌, Some, sym, ◌∙◌, ap, refl, subst}
use Rattle.forms.specs.Forms.{place_of, sexp_form}
use Rattle.forms.proofs.Told.{told}
use Rattle.goal_reader.specs.Roles.{term, IsFaultAs, IsWanted, sort_of_leaf}
use Rattle.goal_reader.specs.Scopes.{leaf_named}
use Rattle.goal_reader.proofs.Trees.{tree_of_variable, tree_of_constant}
use Rattle.goal_reader.proofs.Atoms.{form_first, number_sort_first, unknown_name_first, name_sort_first, lacking_first, number_writes, memory_writes, input_writes, binding_writes, variable_writes}
use Rattle.goal_reader.proofs.terms.atom.Goals as goal

pub returns-then-not-fits-clause-fault : goal.returns-then-not-fits-clause-fault
returns-then-not-fits-clause-fault c =
    let text = c.args.text.now in
    let form = sexp_form text c.args.form.now in
    let s = c.sexps_are_forms.ensures.stands text c.args.form.now c.requires.of in
    told (IsFaultAs (term c.args.scope.now c.args.wanted) form) c.at.result c.place.result (place_of form) _ c.at.ensures (c.place.ensures text)
    (number_sort_first c.args.scope.now c.args.wanted form s.0 s.1 s.2 c.in-Some.value (sym (c.in-Some.ensures text)) (λ w. let e = c.if-not-fits.ensures.1 w in cc))

pub returns-in-Some-clause-term : goal.returns-in-Some-clause-term
returns-in-Some-clause-term c =
    let text = c.args.text.now in
    let form = sexp_form text c.args.form.now in
    let s = c.sexps_are_forms.ensures.stands text c.args.form.now c.requires.of in
    number_writes c.args.scope.now c.args.wanted form c.in-Some.value _ (sym (c.in-Some.ensures text)) (c.if-not-fits.ensures.0 refl) (tree_of_constant _ c.new.result c.new.ensures.items)

pub returns-in_default-name-clause-fault : goal.returns-in_default-name-clause-fault
returns-in_default-name-clause-fault c =
    let text = c.args.text.now in
    let form = sexp_form text c.args.form.now in
    let s = c.sexps_are_forms.ensures.stands text c.args.form.now c.requires.of in
    told (IsFaultAs (term c.args.scope.now c.args.wanted) form) c.at-in_default-name.result c.place-in_default-name.result (place_of form) _ c.at-in_default-name.ensures (c.place-in_default-name.ensures text)
    (form_first c.args.scope.now c.args.wanted form s.0 s.1 s.2 c.requires.atom (sym (c.in_default.ensures text)) c.in_default-name.ensures.name)

pub returns-in_default-leaf_of-clause-fault : goal.returns-in_default-leaf_of-clause-fault
returns-in_default-leaf_of-clause-fault c =
    let text = c.args.text.now in
    let form = sexp_form text c.args.form.now in
    let s = c.sexps_are_forms.ensures.stands text c.args.form.now c.requires.of in
    told (IsFaultAs (term c.args.scope.now c.args.wanted) form) c.at-in_default-leaf_of.result c.place-in_default-leaf_of.result (place_of form) _ c.at-in_default-leaf_of.ensures (c.place-in_default-leaf_of.ensures text)
    (unknown_name_first c.args.scope.now c.args.wanted form s.0 s.1 s.2 c.in-Some-name.bytes.now c.in-Some-name.ensures.name (ap (λ ls. leaf_named ls c.in-Some-name.bytes.now) (sym c.as_slice.ensures) ∙ sym c.in_default-leaf_of.ensures))

pub returns-then-not-fits-2-clause-fault : goal.returns-then-not-fits-2-clause-fault
returns-then-not-fits-2-clause-fault c =
    let text = c.args.text.now in
    let form = sexp_form text c.args.form.now in
    let s = c.sexps_are_forms.ensures.stands text c.args.form.now c.requires.of in
    let named : leaf_named c.args.scope.now.leaves c.in-Some-name.bytes.now ≡ Some c.in-Some-leaf_of.named = ap (λ ls. leaf_named ls c.in-Some-name.bytes.now) (sym c.as_slice.ensures) ∙ sym c.in-Some-leaf_of.ensures in
    told (IsFaultAs (term c.args.scope.now c.args.wanted) form) c.at-then-not-fits-2.result c.place-then-not-fits-2.result (place_of form) _ c.at-then-not-fits-2.ensures (c.place-then-not-fits-2.ensures text)
    (name_sort_first c.args.scope.now c.args.wanted form s.0 s.1 s.2 c.in-Some-name.bytes.now c.in-Some-leaf_of.named c.in-Some-name.ensures.name named (λ w. let e = c.if-not-fits-2.ensures.1 (subst (IsWanted c.args.wanted) (sym c.sort_of.ensures) w) in cc))

pub returns-in-Memory-clause-term : goal.returns-in-Memory-clause-term
returns-in-Memory-clause-term c =
    let text = c.args.text.now in
    let form = sexp_form text c.args.form.now in
    let s = c.sexps_are_forms.ensures.stands text c.args.form.now c.requires.of in
    let named : leaf_named c.args.scope.now.leaves c.in-Some-name.bytes.now ≡ Some c.in-Some-leaf_of.named = ap (λ ls. leaf_named ls c.in-Some-name.bytes.now) (sym c.as_slice.ensures) ∙ sym c.in-Some-leaf_of.ensures in
    let wanted : IsWanted c.args.wanted (sort_of_leaf c.in-Some-leaf_of.named) = subst (IsWanted c.args.wanted) c.sort_of.ensures (c.if-not-fits-2.ensures.0 refl) in
    memory_writes c.args.scope.now c.args.wanted form c.in-Some-name.bytes.now _ c.in-Some-name.ensures.name (named ∙ ap Some c.in-Memory.is) (subst (λ n. IsWanted c.args.wanted (sort_of_leaf n)) c.in-Memory.is wanted) (tree_of_constant _ c.new-in-Memory.result c.new-in-Memory.ensures.items)

pub returns-in-Input-clause-term : goal.returns-in-Input-clause-term
returns-in-Input-clause-term c =
    let text = c.args.text.now in
    let form = sexp_form text c.args.form.now in
    let s = c.sexps_are_forms.ensures.stands text c.args.form.now c.requires.of in
    let named : leaf_named c.args.scope.now.leaves c.in-Some-name.bytes.now ≡ Some c.in-Some-leaf_of.named = ap (λ ls. leaf_named ls c.in-Some-name.bytes.now) (sym c.as_slice.ensures) ∙ sym c.in-Some-leaf_of.ensures in
    let wanted : IsWanted c.args.wanted (sort_of_leaf c.in-Some-leaf_of.named) = subst (IsWanted c.args.wanted) c.sort_of.ensures (c.if-not-fits-2.ensures.0 refl) in
    input_writes c.args.scope.now c.args.wanted form c.in-Some-name.bytes.now c.in-Input.register _ c.in-Some-name.ensures.name (named ∙ ap Some c.in-Input.is) (subst (λ n. IsWanted c.args.wanted (sort_of_leaf n)) c.in-Input.is wanted) (tree_of_constant _ c.new-in-Input.result c.new-in-Input.ensures.items)

pub returns-in-Let-clause-term : goal.returns-in-Let-clause-term
returns-in-Let-clause-term c =
    let text = c.args.text.now in
    let form = sexp_form text c.args.form.now in
    let s = c.sexps_are_forms.ensures.stands text c.args.form.now c.requires.of in
    let named : leaf_named c.args.scope.now.leaves c.in-Some-name.bytes.now ≡ Some c.in-Some-leaf_of.named = ap (λ ls. leaf_named ls c.in-Some-name.bytes.now) (sym c.as_slice.ensures) ∙ sym c.in-Some-leaf_of.ensures in
    let wanted : IsWanted c.args.wanted (sort_of_leaf c.in-Some-leaf_of.named) = subst (IsWanted c.args.wanted) c.sort_of.ensures (c.if-not-fits-2.ensures.0 refl) in
    binding_writes c.args.scope.now c.args.wanted form c.in-Some-name.bytes.now c.in-Let.n _ _ c.in-Some-name.ensures.name (named ∙ ap Some c.in-Let.is) (subst (λ n. IsWanted c.args.wanted (sort_of_leaf n)) c.in-Let.is wanted) (tree_of_variable c.in-Let.n)

pub returns-in-Variable-clause-term : goal.returns-in-Variable-clause-term
returns-in-Variable-clause-term c =
    let text = c.args.text.now in
    let form = sexp_form text c.args.form.now in
    let s = c.sexps_are_forms.ensures.stands text c.args.form.now c.requires.of in
    let named : leaf_named c.args.scope.now.leaves c.in-Some-name.bytes.now ≡ Some c.in-Some-leaf_of.named = ap (λ ls. leaf_named ls c.in-Some-name.bytes.now) (sym c.as_slice.ensures) ∙ sym c.in-Some-leaf_of.ensures in
    let wanted : IsWanted c.args.wanted (sort_of_leaf c.in-Some-leaf_of.named) = subst (IsWanted c.args.wanted) c.sort_of.ensures (c.if-not-fits-2.ensures.0 refl) in
    variable_writes c.args.scope.now c.args.wanted form c.in-Some-name.bytes.now c.in-Variable.n _ c.in-Some-name.ensures.name (named ∙ ap Some c.in-Variable.is) (subst (λ n. IsWanted c.args.wanted (sort_of_leaf n)) c.in-Variable.is wanted) (tree_of_variable c.in-Variable.n)

pub returns-in-Lacking-clause-fault : goal.returns-in-Lacking-clause-fault
returns-in-Lacking-clause-fault c =
    let text = c.args.text.now in
    let form = sexp_form text c.args.form.now in
    let s = c.sexps_are_forms.ensures.stands text c.args.form.now c.requires.of in
    let named : leaf_named c.args.scope.now.leaves c.in-Some-name.bytes.now ≡ Some c.in-Some-leaf_of.named = ap (λ ls. leaf_named ls c.in-Some-name.bytes.now) (sym c.as_slice.ensures) ∙ sym c.in-Some-leaf_of.ensures in
    let wanted : IsWanted c.args.wanted (sort_of_leaf c.in-Some-leaf_of.named) = subst (IsWanted c.args.wanted) c.sort_of.ensures (c.if-not-fits-2.ensures.0 refl) in
    told (IsFaultAs (term c.args.scope.now c.args.wanted) form) c.at-in-Lacking.result c.place-in-Lacking.result (place_of form) _ c.at-in-Lacking.ensures (c.place-in-Lacking.ensures text)
    (lacking_first c.args.scope.now c.args.wanted form s.0 s.1 s.2 c.in-Some-name.bytes.now c.in-Some-name.ensures.name (named ∙ ap Some c.in-Lacking.is) (subst (λ n. IsWanted c.args.wanted (sort_of_leaf n)) c.in-Lacking.is wanted))
