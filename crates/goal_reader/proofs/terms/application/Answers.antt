use Rattle.std.proofs.Common.{◌≡◌, ◌+◌, length, sym, ◌∙◌, ap, refl, subst}
use Rattle.std.proofs.lemmas.Bool.{false≢true}
use Rattle.std.proofs.lemmas.List.{length-map}
use Rattle.word_ops.specs.Meanings.{arity_of_op}
use Rattle.forms.specs.Forms.{place_of, sexp_form, sexp_forms}
use Rattle.forms.proofs.Told.{told}
use Rattle.goal_reader.specs.Roles.{term, IsFaultAs, IsWanted}
use Rattle.goal_reader.specs.Scopes.{operator_named}
use Rattle.goal_reader.proofs.Heads.{empty_first, no_name_first, unknown_first, operator_known, arity_first, sort_first, application_is, part_form, no_part_form}
use Rattle.goal_reader.proofs.terms.application.Goals as goal

pub unreachable-requires : goal.unreachable-requires
unreachable-requires c = false≢true (sym (c.in_default.ensures.parts c.args.text.now) ∙ c.requires.list)

pub returns-in_default-first-clause-fault : goal.returns-in_default-first-clause-fault
returns-in_default-first-clause-fault c =
    let text = c.args.text.now in
    let form = sexp_form text c.args.form.now in
    let s = c.sexps_are_forms.ensures.stands text c.args.form.now c.requires.of in
    told (IsFaultAs (term c.args.scope.now c.args.wanted) form) c.at.result c.place.result (place_of form) _ c.at.ensures (c.place.ensures text)
    (empty_first c.args.scope.now c.args.wanted form (place_of form) s.0 s.1 s.2 (sexp_forms text c.in-Some.parts.now) (c.in-Some.ensures.parts text)
    (no_part_form text c.in-Some.parts.now 0 (sym c.in_default-first.ensures.value)))

pub returns-in_default-name-clause-fault : goal.returns-in_default-name-clause-fault
returns-in_default-name-clause-fault c =
    let text = c.args.text.now in
    let form = sexp_form text c.args.form.now in
    let s = c.sexps_are_forms.ensures.stands text c.args.form.now c.requires.of in
    told (IsFaultAs (term c.args.scope.now c.args.wanted) form) c.at-in_default-name.result c.place-in_default-name.result (place_of (sexp_form text c.in-Some-first.head.now)) _ c.at-in_default-name.ensures (c.place-in_default-name.ensures text)
    (no_name_first c.args.scope.now c.args.wanted form (place_of form) s.0 s.1 s.2 (sexp_forms text c.in-Some.parts.now) (sexp_form text c.in-Some-first.head.now) (c.in-Some.ensures.parts text)
    (part_form text c.in-Some.parts.now 0 c.in-Some-first.head.now (sym c.in-Some-first.ensures.value)) c.in_default-name.ensures.name)

pub returns-in_default-operator-clause-fault : goal.returns-in_default-operator-clause-fault
returns-in_default-operator-clause-fault c =
    let text = c.args.text.now in
    let form = sexp_form text c.args.form.now in
    let s = c.sexps_are_forms.ensures.stands text c.args.form.now c.requires.of in
    let forms = sexp_forms text c.in-Some.parts.now in
    let is = c.in-Some.ensures.parts text in
    let head = part_form text c.in-Some.parts.now 0 c.in-Some-first.head.now (sym c.in-Some-first.ensures.value) in
    told (IsFaultAs (term c.args.scope.now c.args.wanted) form) c.at-in_default-operator.result c.place-in_default-operator.result (place_of (sexp_form text c.in-Some-first.head.now)) _ c.at-in_default-operator.ensures (c.place-in_default-operator.ensures text)
    (unknown_first c.args.scope.now c.args.wanted form (place_of form) s.0 s.1 s.2 forms (sexp_form text c.in-Some-first.head.now) c.in-Some-name.bytes.now is head c.in-Some-name.ensures.name
    (ap (λ ops. operator_named ops c.in-Some-name.bytes.now) (sym c.as_slice.ensures) ∙ sym c.in_default-operator.ensures))

pub returns-then-parts-arity-clause-fault : goal.returns-then-parts-arity-clause-fault
returns-then-parts-arity-clause-fault c =
    let text = c.args.text.now in
    let form = sexp_form text c.args.form.now in
    let s = c.sexps_are_forms.ensures.stands text c.args.form.now c.requires.of in
    let forms = sexp_forms text c.in-Some.parts.now in
    let is = c.in-Some.ensures.parts text in
    let head = part_form text c.in-Some.parts.now 0 c.in-Some-first.head.now (sym c.in-Some-first.ensures.value) in
    let known = operator_known c.args.scope.now c.args.wanted form (place_of form) s.0 s.1 s.2 forms (sexp_form text c.in-Some-first.head.now) c.in-Some-name.bytes.now c.in-Some-operator.op is head c.in-Some-name.ensures.name
    (ap (λ ops. operator_named ops c.in-Some-name.bytes.now) (sym c.as_slice.ensures) ∙ sym c.in-Some-operator.ensures) in
    told (IsFaultAs (term c.args.scope.now c.args.wanted) form) c.at-then-parts-arity.result c.place-then-parts-arity.result (place_of form) _ c.at-then-parts-arity.ensures (c.place-then-parts-arity.ensures text)
    (arity_first c.args.scope.now c.args.wanted form (place_of form) s.0 s.1 s.2 forms (sexp_form text c.in-Some-first.head.now) c.in-Some-operator.op is head known
    (λ e. c.if-parts-arity.true (sym (length-map c.in-Some.parts.now (sexp_form text)) ∙ e ∙ ap (λ n. 1 + n) (sym c.arity.ensures))))

pub returns-then-not-fits-clause-fault : goal.returns-then-not-fits-clause-fault
returns-then-not-fits-clause-fault c =
    let text = c.args.text.now in
    let form = sexp_form text c.args.form.now in
    let s = c.sexps_are_forms.ensures.stands text c.args.form.now c.requires.of in
    let forms = sexp_forms text c.in-Some.parts.now in
    let is = c.in-Some.ensures.parts text in
    let head = part_form text c.in-Some.parts.now 0 c.in-Some-first.head.now (sym c.in-Some-first.ensures.value) in
    let known = operator_known c.args.scope.now c.args.wanted form (place_of form) s.0 s.1 s.2 forms (sexp_form text c.in-Some-first.head.now) c.in-Some-name.bytes.now c.in-Some-operator.op is head c.in-Some-name.ensures.name
    (ap (λ ops. operator_named ops c.in-Some-name.bytes.now) (sym c.as_slice.ensures) ∙ sym c.in-Some-operator.ensures) in
    let count : length forms ≡ 1 + arity_of_op c.in-Some-operator.op = length-map c.in-Some.parts.now (sexp_form text) ∙ c.if-parts-arity.false ∙ ap (λ n. 1 + n) c.arity.ensures in
    told (IsFaultAs (term c.args.scope.now c.args.wanted) form) c.at-then-not-fits.result c.place-then-not-fits.result (place_of form) _ c.at-then-not-fits.ensures (c.place-then-not-fits.ensures text)
    (sort_first c.args.scope.now c.args.wanted form (place_of form) s.0 s.1 s.2 forms (sexp_form text c.in-Some-first.head.now) c.in-Some-operator.op is head known count
    (λ w. let e = c.if-not-fits.ensures.1 (subst (IsWanted c.args.wanted) (sym c.sort.ensures) w) in cc))

pub returns-clause-op : goal.returns-clause-op
returns-clause-op c =
    let text = c.args.text.now in
    let form = sexp_form text c.args.form.now in
    let s = c.sexps_are_forms.ensures.stands text c.args.form.now c.requires.of in
    let forms = sexp_forms text c.in-Some.parts.now in
    let is = c.in-Some.ensures.parts text in
    let head = part_form text c.in-Some.parts.now 0 c.in-Some-first.head.now (sym c.in-Some-first.ensures.value) in
    let known = operator_known c.args.scope.now c.args.wanted form (place_of form) s.0 s.1 s.2 forms (sexp_form text c.in-Some-first.head.now) c.in-Some-name.bytes.now c.in-Some-operator.op is head c.in-Some-name.ensures.name
    (ap (λ ops. operator_named ops c.in-Some-name.bytes.now) (sym c.as_slice.ensures) ∙ sym c.in-Some-operator.ensures) in
    let count : length forms ≡ 1 + arity_of_op c.in-Some-operator.op = length-map c.in-Some.parts.now (sexp_form text) ∙ c.if-parts-arity.false ∙ ap (λ n. 1 + n) c.arity.ensures in
    application_is c.args.scope.now c.args.wanted form (place_of form) s.0 s.1 s.2 forms c.in-Some-operator.op is known count
    (subst (IsWanted c.args.wanted) c.sort.ensures (c.if-not-fits.ensures.0 refl))
