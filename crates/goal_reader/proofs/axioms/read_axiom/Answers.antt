use Rattle.std.proofs.Common.{◌≡◌, ◌<◌, ◌≤◌, ℕ, List, [], ◌∷◌, Some, length, ◌∙◌, ap, refl, subst, arith}
use Rattle.std.proofs.lemmas.Result.{err_from_is_err_and}
use Rattle.word_ops.specs.declared.sorts.Sort.TheVariants as sorts
use Rattle.text_core.specs.declared.faults.Kind.TheVariants.{BadForm}
use Rattle.text_core.specs.Faults.{IsFirst, IsFaultBy}
use Rattle.word_terms.specs.View.{tree_of}
use Rattle.forms.specs.Forms.{place_of, sexp_form, parts_of}
use Rattle.forms.proofs.Told.{told, told_of_part}
use Rattle.goal_meaning.specs.declared.goals.DeclaredOp.{DeclaredOp}
use Rattle.goal_reader.specs.declared.scopes.Scope.{Scope}
use Rattle.goal_meaning.specs.declared.goals.Axiom.{Axiom}
use Rattle.goal_reader.specs.Grammar.{axiom_scope}
use Rattle.goal_reader.specs.Reading.{IsClear, mentioned_scope}
use Rattle.goal_reader.specs.Roles as roles
use Rattle.goal_reader.specs.Roles.{Role, Shape, IsFaultAs, WritesTerm, left_scope, right_scope}
use Rattle.goal_reader.proofs.Apart.{writes_clear}
use Rattle.goal_reader.proofs.AxiomForms.{equation_only, left_same, right_same, axiom_written}
use Rattle.goal_reader.proofs.Fixed.{short_first, clear_none, clear_more, part_first, whole_clear, wrong_first}
use Rattle.goal_reader.proofs.NewNames.{nth_part, part_of, count_form}
use Rattle.goal_reader.proofs.axioms.read_axiom.Goals as goal

pub returns-then-parts-lt4-clause-fault : goal.returns-then-parts-lt4-clause-fault
returns-then-parts-lt4-clause-fault c =
    let text = c.args.text.now in
    let form = sexp_form text c.args.form.now in
    let declared = c.args.declared in
    let s = c.sexps_are_forms.ensures.stands text c.args.form.now c.requires.of in
    let shape : Shape = roles.equation declared in
    let each : List Role = roles.a_list (roles.variables declared) ∷ roles.left_side (left_scope declared form) ∷ roles.term (right_scope declared form) (Some sorts.Word) ∷ [] in
    let only = equation_only declared form in
    let parts = c.in-Some.parts.now in
    let is = c.in-Some.ensures.parts text in
    let count = count_form text form (place_of form) parts is in
    told (IsFaultAs (roles.a_list shape) form) c.at-then-parts-lt4.result c.place-then-parts-lt4.result (place_of form) _ c.at-then-parts-lt4.ensures (c.place-then-parts-lt4.ensures text)
    (short_first shape form each s.0 s.1 s.2 only (λ at. refl) (let f = c.if-parts-lt4.true in omega (arith, count, f)))

pub returns-in_err-variables-clause-fault : goal.returns-in_err-variables-clause-fault
returns-in_err-variables-clause-fault c =
    let p = err_from_is_err_and c.from_residual.result c.from_residual.ensures.1 in
    let text = c.args.text.now in
    let form = sexp_form text c.args.form.now in
    let declared = c.args.declared in
    let s = c.sexps_are_forms.ensures.stands text c.args.form.now c.requires.of in
    let shape : Shape = roles.equation declared in
    let each : List Role = roles.a_list (roles.variables declared) ∷ roles.left_side (left_scope declared form) ∷ roles.term (right_scope declared form) (Some sorts.Word) ∷ [] in
    let only = equation_only declared form in
    let parts = c.in-Some.parts.now in
    let is = c.in-Some.ensures.parts text in
    let count = count_form text form (place_of form) parts is in
    let enough : length (parts_of form) < 4 → ⊥ = λ l. (let f = c.if-parts-lt4.false in omega (arith, count, l, f)) in
    let none = clear_none shape form each s.0 s.1 s.2 only (λ at. refl) in
    let p1 = sexp_form text c.index-parts-1.result in
    let g1 = nth_part text form (place_of form) parts 1 c.index-parts-1.result is (let f = c.if-parts-lt4.false in omega (arith, f)) c.index-parts-1.is in
    rw (p.1, p.2)
    (let fault : IsFaultBy (IsFirst (IsFaultAs (roles.a_list (roles.variables declared)) p1)) c.in_err-variables.field-0.0 =
    subst (λ (ds : List DeclaredOp). IsFaultBy (IsFirst (IsFaultAs (roles.a_list (roles.variables ds)) p1)) c.in_err-variables.field-0.0) c.as_slice.ensures c.in_err-variables.ensures.fault in
    told_of_part (IsFaultAs (roles.a_list (roles.variables declared)) p1) (IsFaultAs (roles.a_list shape) form)
    (λ p k first. part_first shape form each s.0 s.1 s.2 only (λ at. refl) 0 p1 p k enough none g1 first) c.in_err-variables.field-0.0 fault)

pub returns-in_err-left-clause-fault : goal.returns-in_err-left-clause-fault
returns-in_err-left-clause-fault c =
    let p = err_from_is_err_and c.from_residual-in_err-left.result c.from_residual-in_err-left.ensures.1 in
    let text = c.args.text.now in
    let form = sexp_form text c.args.form.now in
    let declared = c.args.declared in
    let s = c.sexps_are_forms.ensures.stands text c.args.form.now c.requires.of in
    let shape : Shape = roles.equation declared in
    let each : List Role = roles.a_list (roles.variables declared) ∷ roles.left_side (left_scope declared form) ∷ roles.term (right_scope declared form) (Some sorts.Word) ∷ [] in
    let only = equation_only declared form in
    let parts = c.in-Some.parts.now in
    let is = c.in-Some.ensures.parts text in
    let count = count_form text form (place_of form) parts is in
    let enough : length (parts_of form) < 4 → ⊥ = λ l. (let f = c.if-parts-lt4.false in omega (arith, count, l, f)) in
    let none = clear_none shape form each s.0 s.1 s.2 only (λ at. refl) in
    let p1 = sexp_form text c.index-parts-1.result in
    let g1 = nth_part text form (place_of form) parts 1 c.index-parts-1.result is (let f = c.if-parts-lt4.false in omega (arith, f)) c.index-parts-1.is in
    let ops : c.as_slice.result.now ≡ declared = c.as_slice.ensures in
    let names = c.in_ok-variables.variables in
    let clear_names : IsClear (roles.a_list (roles.variables declared)) p1 = subst (λ (ds : List DeclaredOp). IsClear (roles.a_list (roles.variables ds)) p1) ops c.in_ok-variables.ensures.clear in
    let clear1 = clear_more shape form each s.0 s.1 s.2 only (λ at. refl) 0 p1 none g1 clear_names in
    let p2 = sexp_form text c.index-parts-2.result in
    let g2 = nth_part text form (place_of form) parts 2 c.index-parts-2.result is (let f = c.if-parts-lt4.false in omega (arith, f)) c.index-parts-2.is in
    let scope : c.in_ok-scope.scope ≡ axiom_scope declared names = c.in_ok-scope.ensures ∙ ap (λ (ns : List (List ℕ)). axiom_scope declared ns) c.as_slice-2.ensures in
    let left_is : c.in_ok-scope.scope ≡ left_scope declared form = scope ∙ left_same declared form p1 p2 names g1 g2 c.in_ok-variables.ensures.names in
    rw (p.1, p.2)
    (let fault : IsFaultBy (IsFirst (IsFaultAs (roles.left_side (left_scope declared form)) p2)) c.in_err-left.field-0.0 =
    subst (λ (x : Scope). IsFaultBy (IsFirst (IsFaultAs (roles.left_side x) p2)) c.in_err-left.field-0.0) left_is c.in_err-left.ensures.fault in
    told_of_part (IsFaultAs (roles.left_side (left_scope declared form)) p2) (IsFaultAs (roles.a_list shape) form)
    (λ p k first. part_first shape form each s.0 s.1 s.2 only (λ at. refl) 1 p2 p k enough clear1 g2 first) c.in_err-left.field-0.0 fault)

pub returns-in_err-right-clause-fault : goal.returns-in_err-right-clause-fault
returns-in_err-right-clause-fault c =
    let p = err_from_is_err_and c.from_residual-in_err-right.result c.from_residual-in_err-right.ensures.1 in
    let text = c.args.text.now in
    let form = sexp_form text c.args.form.now in
    let declared = c.args.declared in
    let s = c.sexps_are_forms.ensures.stands text c.args.form.now c.requires.of in
    let shape : Shape = roles.equation declared in
    let each : List Role = roles.a_list (roles.variables declared) ∷ roles.left_side (left_scope declared form) ∷ roles.term (right_scope declared form) (Some sorts.Word) ∷ [] in
    let only = equation_only declared form in
    let parts = c.in-Some.parts.now in
    let is = c.in-Some.ensures.parts text in
    let count = count_form text form (place_of form) parts is in
    let enough : length (parts_of form) < 4 → ⊥ = λ l. (let f = c.if-parts-lt4.false in omega (arith, count, l, f)) in
    let none = clear_none shape form each s.0 s.1 s.2 only (λ at. refl) in
    let p1 = sexp_form text c.index-parts-1.result in
    let g1 = nth_part text form (place_of form) parts 1 c.index-parts-1.result is (let f = c.if-parts-lt4.false in omega (arith, f)) c.index-parts-1.is in
    let ops : c.as_slice.result.now ≡ declared = c.as_slice.ensures in
    let names = c.in_ok-variables.variables in
    let clear_names : IsClear (roles.a_list (roles.variables declared)) p1 = subst (λ (ds : List DeclaredOp). IsClear (roles.a_list (roles.variables ds)) p1) ops c.in_ok-variables.ensures.clear in
    let clear1 = clear_more shape form each s.0 s.1 s.2 only (λ at. refl) 0 p1 none g1 clear_names in
    let p2 = sexp_form text c.index-parts-2.result in
    let g2 = nth_part text form (place_of form) parts 2 c.index-parts-2.result is (let f = c.if-parts-lt4.false in omega (arith, f)) c.index-parts-2.is in
    let scope : c.in_ok-scope.scope ≡ axiom_scope declared names = c.in_ok-scope.ensures ∙ ap (λ (ns : List (List ℕ)). axiom_scope declared ns) c.as_slice-2.ensures in
    let left_is : c.in_ok-scope.scope ≡ left_scope declared form = scope ∙ left_same declared form p1 p2 names g1 g2 c.in_ok-variables.ensures.names in
    let clear_left : IsClear (roles.left_side (left_scope declared form)) p2 = subst (λ (x : Scope). IsClear (roles.left_side x) p2) left_is c.in_ok-left.ensures.clear in
    let clear2 = clear_more shape form each s.0 s.1 s.2 only (λ at. refl) 1 p2 clear1 g2 clear_left in
    let p3 = sexp_form text c.index-parts-3.result in
    let g3 = nth_part text form (place_of form) parts 3 c.index-parts-3.result is (let f = c.if-parts-lt4.false in omega (arith, f)) c.index-parts-3.is in
    rw (p.1, p.2)
    (let mentioned : c.in_ok-scope-2.scope ≡ mentioned_scope declared names p2 =
    c.in_ok-scope-2.ensures ∙ ap (λ (ns : List (List ℕ)). mentioned_scope c.in_ok-scope.scope.declared ns p2) c.as_slice-3.ensures ∙ ap (λ (x : Scope). mentioned_scope x.declared names p2) scope in
    let right_is : c.in_ok-scope-2.scope ≡ right_scope declared form = mentioned ∙ right_same declared form p1 p2 names g1 g2 c.in_ok-variables.ensures.names in
    let fault : IsFaultBy (IsFirst (IsFaultAs (roles.term (right_scope declared form) (Some sorts.Word)) p3)) c.in_err-right.field-0.0 =
    subst (λ (x : Scope). IsFaultBy (IsFirst (IsFaultAs (roles.term x (Some sorts.Word)) p3)) c.in_err-right.field-0.0) right_is c.in_err-right.ensures.fault in
    told_of_part (IsFaultAs (roles.term (right_scope declared form) (Some sorts.Word)) p3) (IsFaultAs (roles.a_list shape) form)
    (λ p k first. part_first shape form each s.0 s.1 s.2 only (λ at. refl) 2 p3 p k enough clear2 g3 first) c.in_err-right.field-0.0 fault)

pub returns-then-parts-gt4-clause-fault : goal.returns-then-parts-gt4-clause-fault
returns-then-parts-gt4-clause-fault c =
    let text = c.args.text.now in
    let form = sexp_form text c.args.form.now in
    let declared = c.args.declared in
    let s = c.sexps_are_forms.ensures.stands text c.args.form.now c.requires.of in
    let shape : Shape = roles.equation declared in
    let each : List Role = roles.a_list (roles.variables declared) ∷ roles.left_side (left_scope declared form) ∷ roles.term (right_scope declared form) (Some sorts.Word) ∷ [] in
    let only = equation_only declared form in
    let parts = c.in-Some.parts.now in
    let is = c.in-Some.ensures.parts text in
    let count = count_form text form (place_of form) parts is in
    let enough : length (parts_of form) < 4 → ⊥ = λ l. (let f = c.if-parts-lt4.false in omega (arith, count, l, f)) in
    let none = clear_none shape form each s.0 s.1 s.2 only (λ at. refl) in
    let p1 = sexp_form text c.index-parts-1.result in
    let g1 = nth_part text form (place_of form) parts 1 c.index-parts-1.result is (let f = c.if-parts-lt4.false in omega (arith, f)) c.index-parts-1.is in
    let ops : c.as_slice.result.now ≡ declared = c.as_slice.ensures in
    let names = c.in_ok-variables.variables in
    let clear_names : IsClear (roles.a_list (roles.variables declared)) p1 = subst (λ (ds : List DeclaredOp). IsClear (roles.a_list (roles.variables ds)) p1) ops c.in_ok-variables.ensures.clear in
    let clear1 = clear_more shape form each s.0 s.1 s.2 only (λ at. refl) 0 p1 none g1 clear_names in
    let p2 = sexp_form text c.index-parts-2.result in
    let g2 = nth_part text form (place_of form) parts 2 c.index-parts-2.result is (let f = c.if-parts-lt4.false in omega (arith, f)) c.index-parts-2.is in
    let scope : c.in_ok-scope.scope ≡ axiom_scope declared names = c.in_ok-scope.ensures ∙ ap (λ (ns : List (List ℕ)). axiom_scope declared ns) c.as_slice-2.ensures in
    let left_is : c.in_ok-scope.scope ≡ left_scope declared form = scope ∙ left_same declared form p1 p2 names g1 g2 c.in_ok-variables.ensures.names in
    let clear_left : IsClear (roles.left_side (left_scope declared form)) p2 = subst (λ (x : Scope). IsClear (roles.left_side x) p2) left_is c.in_ok-left.ensures.clear in
    let clear2 = clear_more shape form each s.0 s.1 s.2 only (λ at. refl) 1 p2 clear1 g2 clear_left in
    let p3 = sexp_form text c.index-parts-3.result in
    let g3 = nth_part text form (place_of form) parts 3 c.index-parts-3.result is (let f = c.if-parts-lt4.false in omega (arith, f)) c.index-parts-3.is in
    let mentioned : c.in_ok-scope-2.scope ≡ mentioned_scope declared names p2 =
    c.in_ok-scope-2.ensures ∙ ap (λ (ns : List (List ℕ)). mentioned_scope c.in_ok-scope.scope.declared ns p2) c.as_slice-3.ensures ∙ ap (λ (x : Scope). mentioned_scope x.declared names p2) scope in
    let right_is : c.in_ok-scope-2.scope ≡ right_scope declared form = mentioned ∙ right_same declared form p1 p2 names g1 g2 c.in_ok-variables.ensures.names in
    let w = c.in_ok-right.ensures.term in
    let clear_right : IsClear (roles.term (right_scope declared form) (Some sorts.Word)) p3 =
    subst (λ (x : Scope). IsClear (roles.term x (Some sorts.Word)) p3) right_is (writes_clear w.writes (Some sorts.Word) w.wanted_one) in
    let clear3 = clear_more shape form each s.0 s.1 s.2 only (λ at. refl) 2 p3 clear2 g3 clear_right in
    let g4 = nth_part text form (place_of form) parts 4 c.index-parts-4.result is c.if-parts-gt4.true c.index-parts-4.is in
    let of = c.sexps_are_forms.ensures.stands text c.index-parts-4.result (part_of text parts 4 c.index-parts-4.result (c.in-Some.ensures.of text c.requires.of) c.if-parts-gt4.true c.index-parts-4.is) in
    told (IsFaultAs (roles.a_list shape) form) c.at-then-parts-gt4.result c.place-then-parts-gt4.result (place_of (sexp_form text c.index-parts-4.result)) _ c.at-then-parts-gt4.ensures (c.place-then-parts-gt4.ensures text)
    (part_first shape form each s.0 s.1 s.2 only (λ at. refl) 3 (sexp_form text c.index-parts-4.result) _ BadForm enough clear3 g4 (wrong_first (sexp_form text c.index-parts-4.result) of.0 of.1 of.2))

pub returns-clause-axiom : goal.returns-clause-axiom
returns-clause-axiom c =
    let text = c.args.text.now in
    let form = sexp_form text c.args.form.now in
    let declared = c.args.declared in
    let s = c.sexps_are_forms.ensures.stands text c.args.form.now c.requires.of in
    let shape : Shape = roles.equation declared in
    let each : List Role = roles.a_list (roles.variables declared) ∷ roles.left_side (left_scope declared form) ∷ roles.term (right_scope declared form) (Some sorts.Word) ∷ [] in
    let only = equation_only declared form in
    let parts = c.in-Some.parts.now in
    let is = c.in-Some.ensures.parts text in
    let count = count_form text form (place_of form) parts is in
    let enough : length (parts_of form) < 4 → ⊥ = λ l. (let f = c.if-parts-lt4.false in omega (arith, count, l, f)) in
    let none = clear_none shape form each s.0 s.1 s.2 only (λ at. refl) in
    let p1 = sexp_form text c.index-parts-1.result in
    let g1 = nth_part text form (place_of form) parts 1 c.index-parts-1.result is (let f = c.if-parts-lt4.false in omega (arith, f)) c.index-parts-1.is in
    let ops : c.as_slice.result.now ≡ declared = c.as_slice.ensures in
    let names = c.in_ok-variables.variables in
    let clear_names : IsClear (roles.a_list (roles.variables declared)) p1 = subst (λ (ds : List DeclaredOp). IsClear (roles.a_list (roles.variables ds)) p1) ops c.in_ok-variables.ensures.clear in
    let clear1 = clear_more shape form each s.0 s.1 s.2 only (λ at. refl) 0 p1 none g1 clear_names in
    let p2 = sexp_form text c.index-parts-2.result in
    let g2 = nth_part text form (place_of form) parts 2 c.index-parts-2.result is (let f = c.if-parts-lt4.false in omega (arith, f)) c.index-parts-2.is in
    let scope : c.in_ok-scope.scope ≡ axiom_scope declared names = c.in_ok-scope.ensures ∙ ap (λ (ns : List (List ℕ)). axiom_scope declared ns) c.as_slice-2.ensures in
    let left_is : c.in_ok-scope.scope ≡ left_scope declared form = scope ∙ left_same declared form p1 p2 names g1 g2 c.in_ok-variables.ensures.names in
    let clear_left : IsClear (roles.left_side (left_scope declared form)) p2 = subst (λ (x : Scope). IsClear (roles.left_side x) p2) left_is c.in_ok-left.ensures.clear in
    let clear2 = clear_more shape form each s.0 s.1 s.2 only (λ at. refl) 1 p2 clear1 g2 clear_left in
    let p3 = sexp_form text c.index-parts-3.result in
    let g3 = nth_part text form (place_of form) parts 3 c.index-parts-3.result is (let f = c.if-parts-lt4.false in omega (arith, f)) c.index-parts-3.is in
    let mentioned : c.in_ok-scope-2.scope ≡ mentioned_scope declared names p2 =
    c.in_ok-scope-2.ensures ∙ ap (λ (ns : List (List ℕ)). mentioned_scope c.in_ok-scope.scope.declared ns p2) c.as_slice-3.ensures ∙ ap (λ (x : Scope). mentioned_scope x.declared names p2) scope in
    let right_is : c.in_ok-scope-2.scope ≡ right_scope declared form = mentioned ∙ right_same declared form p1 p2 names g1 g2 c.in_ok-variables.ensures.names in
    let most : length (parts_of form) ≤ 4 = (let f = c.if-parts-gt4.false in omega (arith, count, f)) in
    let axiom_is : Axiom = record { variables = names; left = c.in_ok-left.left; right = c.in_ok-right.right } in
    axiom_written declared form p1 p2 names g1 g2 c.in_ok-variables.ensures.names p3 axiom_is g3 c.requires.keyword most refl c.in_ok-variables.ensures.few c.in_ok-variables.ensures.list clear_names c.in_ok-left.ensures.application
    (subst (λ (x : Scope). WritesTerm x (Some sorts.Word) p2 (tree_of axiom_is.left)) scope c.in_ok-left.ensures.term)
    (subst (λ (x : Scope). WritesTerm x (Some sorts.Word) p3 (tree_of axiom_is.right)) mentioned c.in_ok-right.ensures.term)

pub returns-clause-clear : goal.returns-clause-clear
returns-clause-clear c =
    let text = c.args.text.now in
    let form = sexp_form text c.args.form.now in
    let declared = c.args.declared in
    let s = c.sexps_are_forms.ensures.stands text c.args.form.now c.requires.of in
    let shape : Shape = roles.equation declared in
    let each : List Role = roles.a_list (roles.variables declared) ∷ roles.left_side (left_scope declared form) ∷ roles.term (right_scope declared form) (Some sorts.Word) ∷ [] in
    let only = equation_only declared form in
    let parts = c.in-Some.parts.now in
    let is = c.in-Some.ensures.parts text in
    let count = count_form text form (place_of form) parts is in
    let enough : length (parts_of form) < 4 → ⊥ = λ l. (let f = c.if-parts-lt4.false in omega (arith, count, l, f)) in
    let none = clear_none shape form each s.0 s.1 s.2 only (λ at. refl) in
    let p1 = sexp_form text c.index-parts-1.result in
    let g1 = nth_part text form (place_of form) parts 1 c.index-parts-1.result is (let f = c.if-parts-lt4.false in omega (arith, f)) c.index-parts-1.is in
    let ops : c.as_slice.result.now ≡ declared = c.as_slice.ensures in
    let names = c.in_ok-variables.variables in
    let clear_names : IsClear (roles.a_list (roles.variables declared)) p1 = subst (λ (ds : List DeclaredOp). IsClear (roles.a_list (roles.variables ds)) p1) ops c.in_ok-variables.ensures.clear in
    let clear1 = clear_more shape form each s.0 s.1 s.2 only (λ at. refl) 0 p1 none g1 clear_names in
    let p2 = sexp_form text c.index-parts-2.result in
    let g2 = nth_part text form (place_of form) parts 2 c.index-parts-2.result is (let f = c.if-parts-lt4.false in omega (arith, f)) c.index-parts-2.is in
    let scope : c.in_ok-scope.scope ≡ axiom_scope declared names = c.in_ok-scope.ensures ∙ ap (λ (ns : List (List ℕ)). axiom_scope declared ns) c.as_slice-2.ensures in
    let left_is : c.in_ok-scope.scope ≡ left_scope declared form = scope ∙ left_same declared form p1 p2 names g1 g2 c.in_ok-variables.ensures.names in
    let clear_left : IsClear (roles.left_side (left_scope declared form)) p2 = subst (λ (x : Scope). IsClear (roles.left_side x) p2) left_is c.in_ok-left.ensures.clear in
    let clear2 = clear_more shape form each s.0 s.1 s.2 only (λ at. refl) 1 p2 clear1 g2 clear_left in
    let p3 = sexp_form text c.index-parts-3.result in
    let g3 = nth_part text form (place_of form) parts 3 c.index-parts-3.result is (let f = c.if-parts-lt4.false in omega (arith, f)) c.index-parts-3.is in
    let mentioned : c.in_ok-scope-2.scope ≡ mentioned_scope declared names p2 =
    c.in_ok-scope-2.ensures ∙ ap (λ (ns : List (List ℕ)). mentioned_scope c.in_ok-scope.scope.declared ns p2) c.as_slice-3.ensures ∙ ap (λ (x : Scope). mentioned_scope x.declared names p2) scope in
    let right_is : c.in_ok-scope-2.scope ≡ right_scope declared form = mentioned ∙ right_same declared form p1 p2 names g1 g2 c.in_ok-variables.ensures.names in
    let w = c.in_ok-right.ensures.term in
    let clear_right : IsClear (roles.term (right_scope declared form) (Some sorts.Word)) p3 =
    subst (λ (x : Scope). IsClear (roles.term x (Some sorts.Word)) p3) right_is (writes_clear w.writes (Some sorts.Word) w.wanted_one) in
    let clear3 = clear_more shape form each s.0 s.1 s.2 only (λ at. refl) 2 p3 clear2 g3 clear_right in
    whole_clear shape form each s.0 s.1 s.2 only (λ at. refl) 3 enough (let f = c.if-parts-gt4.false in omega (arith, count, f)) clear3
