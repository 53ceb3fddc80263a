use Rattle.std.proofs.Common.{◌≡◌, ◌++◌, ◌<◌, List, [], ◌∷◌, Some, None, length, subst, sym, ◌∙◌, ap, refl, arith}
use Rattle.std.proofs.lemmas.Result.{err_from_is_err_and}
use Rattle.text_core.specs.declared.faults.Kind.TheVariants.{BadForm}
use Rattle.forms.specs.Forms.{place_of, sexp_form, parts_of}
use Rattle.forms.proofs.Told.{told, told_of_part}
use Rattle.goal_reader.specs.Roles as roles
use Rattle.goal_reader.specs.Roles.{Role, Shape, IsFaultAs, goal_keywords, sort_in, ◌>>=◌}
use Rattle.goal_meaning.specs.Names.{names_of_declared}
use Rattle.goal_reader.specs.Reading.{IsOwnName, names_of_inputs, names_of_lets}
use Rattle.text_core.specs.Faults.{IsFirst, IsFaultBy}
use Rattle.goal_reader.proofs.Apart.{writes_clear}
use Rattle.goal_reader.proofs.Sorts.{binding_only, sort_told}
use Rattle.goal_reader.proofs.Fixed.{short_first, clear_none, clear_more, part_first, whole_clear, wrong_first}
use Rattle.goal_reader.proofs.NewNames.{own_name_clear, nth_part, part_of, count_form, target_told}
use Rattle.goal_reader.proofs.Ranks.{has_parts}
use Rattle.goal_reader.proofs.lets.binding.Goals as goal

pub unreachable-requires : goal.unreachable-requires
unreachable-requires c =
    has_parts goal_keywords 2 (sexp_form c.args.text.now c.args.form.now) c.requires.keyword (c.in_default.ensures.parts c.args.text.now)

pub unreachable-requires-in_default-sort_told : goal.unreachable-requires-in_default-sort_told
unreachable-requires-in_default-sort_told c =
    let e : None ≡ Some c.in_ok-value.ensures.term.sort = c.in_default-sort_told.ensures ∙ sort_told c.in_ok-value.ensures.term.writes in cc

pub returns-then-parts-lt3-clause-fault : goal.returns-then-parts-lt3-clause-fault
returns-then-parts-lt3-clause-fault c =
    let text = c.args.text.now in
    let form = sexp_form text c.args.form.now in
    let s = c.sexps_are_forms.ensures.stands text c.args.form.now c.requires.of in
    let parts = c.in-Some.parts.now in
    let is = c.in-Some.ensures.parts text in
    let scope = c.args.scope.now in
    let leaves = names_of_inputs c.args.inputs.now ++ names_of_lets c.args.lets.now in
    let shape : Shape = roles.binding scope leaves in
    let each : List Role = roles.own_name (names_of_declared scope.declared ++ leaves) ∷ roles.term scope None ∷ [] in
    let only = binding_only scope leaves form in
    let count = count_form text form (place_of form) parts is in
    told (IsFaultAs (roles.a_list shape) form) c.at.result c.place.result (place_of form) _ c.at.ensures (c.place.ensures text)
    (short_first shape form each s.0 s.1 s.2 only (λ at. refl) (let f = c.if-parts-lt3.true in omega (arith, count, f)))

pub returns-in_err-bytes-clause-fault : goal.returns-in_err-bytes-clause-fault
returns-in_err-bytes-clause-fault c =
    let p = err_from_is_err_and c.from_residual.result c.from_residual.ensures.1 in
    let text = c.args.text.now in
    let form = sexp_form text c.args.form.now in
    let s = c.sexps_are_forms.ensures.stands text c.args.form.now c.requires.of in
    let parts = c.in-Some.parts.now in
    let is = c.in-Some.ensures.parts text in
    let scope = c.args.scope.now in
    let leaves = names_of_inputs c.args.inputs.now ++ names_of_lets c.args.lets.now in
    let shape : Shape = roles.binding scope leaves in
    let each : List Role = roles.own_name (names_of_declared scope.declared ++ leaves) ∷ roles.term scope None ∷ [] in
    let only = binding_only scope leaves form in
    let count = count_form text form (place_of form) parts is in
    let enough : length (parts_of form) < 3 → ⊥ = λ l. (let f = c.if-parts-lt3.false in omega (arith, count, l, f)) in
    let none = clear_none shape form each s.0 s.1 s.2 only (λ at. refl) in
    let g1 = nth_part text form (place_of form) parts 1 c.index-parts-1.result is (let f = c.if-parts-lt3.false in omega (arith, f)) c.index-parts-1.is in
    rw (p.1, p.2)
    (told_of_part (IsFaultAs _ (sexp_form text c.index-parts-1.result)) (IsFaultAs (roles.a_list shape) form)
    (λ p k first. part_first shape form each s.0 s.1 s.2 only (λ at. refl) 0 (sexp_form text c.index-parts-1.result) p k enough none g1 first) c.in_err-bytes.field-0.0
    (subst (λ ds. IsFaultBy (IsFirst (IsFaultAs (roles.own_name (names_of_declared ds ++ leaves)) (sexp_form text c.index-parts-1.result))) c.in_err-bytes.field-0.0) c.as_slice.ensures c.in_err-bytes.ensures.fault))

pub returns-in_err-value-clause-fault : goal.returns-in_err-value-clause-fault
returns-in_err-value-clause-fault c =
    let p = err_from_is_err_and c.from_residual-in_err-value.result c.from_residual-in_err-value.ensures.1 in
    let text = c.args.text.now in
    let form = sexp_form text c.args.form.now in
    let s = c.sexps_are_forms.ensures.stands text c.args.form.now c.requires.of in
    let parts = c.in-Some.parts.now in
    let is = c.in-Some.ensures.parts text in
    let scope = c.args.scope.now in
    let leaves = names_of_inputs c.args.inputs.now ++ names_of_lets c.args.lets.now in
    let shape : Shape = roles.binding scope leaves in
    let each : List Role = roles.own_name (names_of_declared scope.declared ++ leaves) ∷ roles.term scope None ∷ [] in
    let only = binding_only scope leaves form in
    let count = count_form text form (place_of form) parts is in
    let enough : length (parts_of form) < 3 → ⊥ = λ l. (let f = c.if-parts-lt3.false in omega (arith, count, l, f)) in
    let none = clear_none shape form each s.0 s.1 s.2 only (λ at. refl) in
    let g1 = nth_part text form (place_of form) parts 1 c.index-parts-1.result is (let f = c.if-parts-lt3.false in omega (arith, f)) c.index-parts-1.is in
    let clear1 = clear_more shape form each s.0 s.1 s.2 only (λ at. refl) 0 (sexp_form text c.index-parts-1.result) none g1 (own_name_clear _ _ c.in_ok-bytes.bytes.now (subst (λ ds. IsOwnName (names_of_declared ds ++ leaves) (sexp_form text c.index-parts-1.result) c.in_ok-bytes.bytes.now) c.as_slice.ensures c.in_ok-bytes.ensures.ok)) in
    let g2 = nth_part text form (place_of form) parts 2 c.index-parts-2.result is (let f = c.if-parts-lt3.false in omega (arith, f)) c.index-parts-2.is in
    rw (p.1, p.2)
    (told_of_part (IsFaultAs _ (sexp_form text c.index-parts-2.result)) (IsFaultAs (roles.a_list shape) form)
    (λ p k first. part_first shape form each s.0 s.1 s.2 only (λ at. refl) 1 (sexp_form text c.index-parts-2.result) p k enough clear1 g2 first) c.in_err-value.field-0.0 c.in_err-value.ensures.fault)

pub returns-then-parts-gt3-clause-fault : goal.returns-then-parts-gt3-clause-fault
returns-then-parts-gt3-clause-fault c =
    let text = c.args.text.now in
    let form = sexp_form text c.args.form.now in
    let s = c.sexps_are_forms.ensures.stands text c.args.form.now c.requires.of in
    let parts = c.in-Some.parts.now in
    let is = c.in-Some.ensures.parts text in
    let scope = c.args.scope.now in
    let leaves = names_of_inputs c.args.inputs.now ++ names_of_lets c.args.lets.now in
    let shape : Shape = roles.binding scope leaves in
    let each : List Role = roles.own_name (names_of_declared scope.declared ++ leaves) ∷ roles.term scope None ∷ [] in
    let only = binding_only scope leaves form in
    let count = count_form text form (place_of form) parts is in
    let enough : length (parts_of form) < 3 → ⊥ = λ l. (let f = c.if-parts-lt3.false in omega (arith, count, l, f)) in
    let none = clear_none shape form each s.0 s.1 s.2 only (λ at. refl) in
    let g1 = nth_part text form (place_of form) parts 1 c.index-parts-1.result is (let f = c.if-parts-lt3.false in omega (arith, f)) c.index-parts-1.is in
    let clear1 = clear_more shape form each s.0 s.1 s.2 only (λ at. refl) 0 (sexp_form text c.index-parts-1.result) none g1 (own_name_clear _ _ c.in_ok-bytes.bytes.now (subst (λ ds. IsOwnName (names_of_declared ds ++ leaves) (sexp_form text c.index-parts-1.result) c.in_ok-bytes.bytes.now) c.as_slice.ensures c.in_ok-bytes.ensures.ok)) in
    let g2 = nth_part text form (place_of form) parts 2 c.index-parts-2.result is (let f = c.if-parts-lt3.false in omega (arith, f)) c.index-parts-2.is in
    let clear2 = clear_more shape form each s.0 s.1 s.2 only (λ at. refl) 1 (sexp_form text c.index-parts-2.result) clear1 g2 (writes_clear c.in_ok-value.ensures.term.writes None c.in_ok-value.ensures.term.wanted_one) in
    let g3 = nth_part text form (place_of form) parts 3 c.index-parts-3.result is c.if-parts-gt3.true c.index-parts-3.is in
    let of = c.sexps_are_forms.ensures.stands text c.index-parts-3.result (part_of text parts 3 c.index-parts-3.result (c.in-Some.ensures.of text c.requires.of) c.if-parts-gt3.true c.index-parts-3.is) in
    told (IsFaultAs (roles.a_list shape) form) c.at-then-parts-gt3.result c.place-then-parts-gt3.result (place_of (sexp_form text c.index-parts-3.result)) _ c.at-then-parts-gt3.ensures (c.place-then-parts-gt3.ensures text)
    (part_first shape form each s.0 s.1 s.2 only (λ at. refl) 2 (sexp_form text c.index-parts-3.result) _ BadForm enough clear2 g3 (wrong_first (sexp_form text c.index-parts-3.result) of.0 of.1 of.2))

pub returns-clause-named : goal.returns-clause-named
returns-clause-named c =
    let text = c.args.text.now in
    let form = sexp_form text c.args.form.now in
    let s = c.sexps_are_forms.ensures.stands text c.args.form.now c.requires.of in
    let parts = c.in-Some.parts.now in
    let is = c.in-Some.ensures.parts text in
    let scope = c.args.scope.now in
    let leaves = names_of_inputs c.args.inputs.now ++ names_of_lets c.args.lets.now in
    let shape : Shape = roles.binding scope leaves in
    let each : List Role = roles.own_name (names_of_declared scope.declared ++ leaves) ∷ roles.term scope None ∷ [] in
    let only = binding_only scope leaves form in
    let count = count_form text form (place_of form) parts is in
    let enough : length (parts_of form) < 3 → ⊥ = λ l. (let f = c.if-parts-lt3.false in omega (arith, count, l, f)) in
    let none = clear_none shape form each s.0 s.1 s.2 only (λ at. refl) in
    let g1 = nth_part text form (place_of form) parts 1 c.index-parts-1.result is (let f = c.if-parts-lt3.false in omega (arith, f)) c.index-parts-1.is in
    let clear1 = clear_more shape form each s.0 s.1 s.2 only (λ at. refl) 0 (sexp_form text c.index-parts-1.result) none g1 (own_name_clear _ _ c.in_ok-bytes.bytes.now (subst (λ ds. IsOwnName (names_of_declared ds ++ leaves) (sexp_form text c.index-parts-1.result) c.in_ok-bytes.bytes.now) c.as_slice.ensures c.in_ok-bytes.ensures.ok)) in
    let g2 = nth_part text form (place_of form) parts 2 c.index-parts-2.result is (let f = c.if-parts-lt3.false in omega (arith, f)) c.index-parts-2.is in
    target_told form (sexp_form text c.index-parts-1.result) c.in_ok-bytes.bytes.now g1 c.in_ok-bytes.ensures.ok.named ∙ ap Some (sym c.in_ok-name.ensures)

pub returns-clause-value : goal.returns-clause-value
returns-clause-value c =
    let text = c.args.text.now in
    let form = sexp_form text c.args.form.now in
    let s = c.sexps_are_forms.ensures.stands text c.args.form.now c.requires.of in
    let parts = c.in-Some.parts.now in
    let is = c.in-Some.ensures.parts text in
    let scope = c.args.scope.now in
    let leaves = names_of_inputs c.args.inputs.now ++ names_of_lets c.args.lets.now in
    let shape : Shape = roles.binding scope leaves in
    let each : List Role = roles.own_name (names_of_declared scope.declared ++ leaves) ∷ roles.term scope None ∷ [] in
    let only = binding_only scope leaves form in
    let count = count_form text form (place_of form) parts is in
    let enough : length (parts_of form) < 3 → ⊥ = λ l. (let f = c.if-parts-lt3.false in omega (arith, count, l, f)) in
    let none = clear_none shape form each s.0 s.1 s.2 only (λ at. refl) in
    let g1 = nth_part text form (place_of form) parts 1 c.index-parts-1.result is (let f = c.if-parts-lt3.false in omega (arith, f)) c.index-parts-1.is in
    let clear1 = clear_more shape form each s.0 s.1 s.2 only (λ at. refl) 0 (sexp_form text c.index-parts-1.result) none g1 (own_name_clear _ _ c.in_ok-bytes.bytes.now (subst (λ ds. IsOwnName (names_of_declared ds ++ leaves) (sexp_form text c.index-parts-1.result) c.in_ok-bytes.bytes.now) c.as_slice.ensures c.in_ok-bytes.ensures.ok)) in
    let g2 = nth_part text form (place_of form) parts 2 c.index-parts-2.result is (let f = c.if-parts-lt3.false in omega (arith, f)) c.index-parts-2.is in
    record { part = sexp_form text c.index-parts-2.result; found = g2; writes = c.in_ok-value.ensures.term }

pub returns-clause-sort : goal.returns-clause-sort
returns-clause-sort c =
    let text = c.args.text.now in
    let form = sexp_form text c.args.form.now in
    let s = c.sexps_are_forms.ensures.stands text c.args.form.now c.requires.of in
    let parts = c.in-Some.parts.now in
    let is = c.in-Some.ensures.parts text in
    let scope = c.args.scope.now in
    let leaves = names_of_inputs c.args.inputs.now ++ names_of_lets c.args.lets.now in
    let shape : Shape = roles.binding scope leaves in
    let each : List Role = roles.own_name (names_of_declared scope.declared ++ leaves) ∷ roles.term scope None ∷ [] in
    let only = binding_only scope leaves form in
    let count = count_form text form (place_of form) parts is in
    let enough : length (parts_of form) < 3 → ⊥ = λ l. (let f = c.if-parts-lt3.false in omega (arith, count, l, f)) in
    let none = clear_none shape form each s.0 s.1 s.2 only (λ at. refl) in
    let g1 = nth_part text form (place_of form) parts 1 c.index-parts-1.result is (let f = c.if-parts-lt3.false in omega (arith, f)) c.index-parts-1.is in
    let clear1 = clear_more shape form each s.0 s.1 s.2 only (λ at. refl) 0 (sexp_form text c.index-parts-1.result) none g1 (own_name_clear _ _ c.in_ok-bytes.bytes.now (subst (λ ds. IsOwnName (names_of_declared ds ++ leaves) (sexp_form text c.index-parts-1.result) c.in_ok-bytes.bytes.now) c.as_slice.ensures c.in_ok-bytes.ensures.ok)) in
    let g2 = nth_part text form (place_of form) parts 2 c.index-parts-2.result is (let f = c.if-parts-lt3.false in omega (arith, f)) c.index-parts-2.is in
    ap (λ o. o >>= sort_in scope) g2 ∙ sym c.in-Some-sort_told.ensures

pub returns-clause-clear : goal.returns-clause-clear
returns-clause-clear c =
    let text = c.args.text.now in
    let form = sexp_form text c.args.form.now in
    let s = c.sexps_are_forms.ensures.stands text c.args.form.now c.requires.of in
    let parts = c.in-Some.parts.now in
    let is = c.in-Some.ensures.parts text in
    let scope = c.args.scope.now in
    let leaves = names_of_inputs c.args.inputs.now ++ names_of_lets c.args.lets.now in
    let shape : Shape = roles.binding scope leaves in
    let each : List Role = roles.own_name (names_of_declared scope.declared ++ leaves) ∷ roles.term scope None ∷ [] in
    let only = binding_only scope leaves form in
    let count = count_form text form (place_of form) parts is in
    let enough : length (parts_of form) < 3 → ⊥ = λ l. (let f = c.if-parts-lt3.false in omega (arith, count, l, f)) in
    let none = clear_none shape form each s.0 s.1 s.2 only (λ at. refl) in
    let g1 = nth_part text form (place_of form) parts 1 c.index-parts-1.result is (let f = c.if-parts-lt3.false in omega (arith, f)) c.index-parts-1.is in
    let clear1 = clear_more shape form each s.0 s.1 s.2 only (λ at. refl) 0 (sexp_form text c.index-parts-1.result) none g1 (own_name_clear _ _ c.in_ok-bytes.bytes.now (subst (λ ds. IsOwnName (names_of_declared ds ++ leaves) (sexp_form text c.index-parts-1.result) c.in_ok-bytes.bytes.now) c.as_slice.ensures c.in_ok-bytes.ensures.ok)) in
    let g2 = nth_part text form (place_of form) parts 2 c.index-parts-2.result is (let f = c.if-parts-lt3.false in omega (arith, f)) c.index-parts-2.is in
    let clear2 = clear_more shape form each s.0 s.1 s.2 only (λ at. refl) 1 (sexp_form text c.index-parts-2.result) clear1 g2 (writes_clear c.in_ok-value.ensures.term.writes None c.in_ok-value.ensures.term.wanted_one) in
    whole_clear shape form each s.0 s.1 s.2 only (λ at. refl) 2 enough (let f = c.if-parts-gt3.false in omega (arith, count, f)) clear2
