use Rattle.std.proofs.Common.{◌<◌, ℕ, List, [], ◌∷◌, Some, length, sym, ◌∙◌, ap, refl, arith}
use Rattle.std.proofs.lemmas.Result.{err_from_is_err_and}
use Rattle.text_core.specs.declared.faults.Kind.TheVariants.{BadForm}
use Rattle.forms.specs.Forms.{place_of, sexp_form, parts_of}
use Rattle.forms.proofs.Told.{told, told_of_part}
use Rattle.goal_reader.specs.Roles as roles
use Rattle.goal_reader.specs.Roles.{Role, Shape, IsFaultAs, arity_named, ◌>>=◌}
use Rattle.goal_meaning.specs.Names.{names_of_declared}
use Rattle.goal_meaning.specs.declared.goals.DeclaredOp.{DeclaredOp}
use Rattle.word_ops.specs.declared.sorts.Arity.{Arity}
use Rattle.goal_reader.proofs.Fixed.{short_first, clear_none, clear_more, part_first, whole_clear, wrong_first}
use Rattle.goal_reader.proofs.GoalSteps.{no_parts}
use Rattle.goal_reader.proofs.NewNames.{own_name_clear, nth_part, part_of, count_form}
use Rattle.goal_reader.proofs.Arities.{declaration_only, declaration_found}
use Rattle.goal_reader.proofs.declarations.declaration.Goals as goal

abbrev put : List ℕ → Arity → DeclaredOp
put n a = record { name = n; arity = a }

pub returns-in_default-clause-fault : goal.returns-in_default-clause-fault
returns-in_default-clause-fault c =
    let text = c.args.text.now in
    let form = sexp_form text c.args.form.now in
    let s = c.sexps_are_forms.ensures.stands text c.args.form.now c.requires.of in
    let shape : Shape = roles.declaration c.args.declared.now in
    let each : List Role = roles.own_name (names_of_declared c.args.declared.now) ∷ roles.an_arity ∷ [] in
    let only = declaration_only c.args.declared.now form in
    told (IsFaultAs (roles.a_list shape) form) c.at.result c.place.result (place_of form) _ c.at.ensures (c.place.ensures text)
    (short_first shape form each s.0 s.1 s.2 only (λ at. refl) (let f = no_parts form (c.in_default.ensures.parts text) in omega (arith, f)))

pub returns-then-parts-lt3-clause-fault : goal.returns-then-parts-lt3-clause-fault
returns-then-parts-lt3-clause-fault c =
    let text = c.args.text.now in
    let form = sexp_form text c.args.form.now in
    let s = c.sexps_are_forms.ensures.stands text c.args.form.now c.requires.of in
    let parts = c.in-Some.parts.now in
    let is = c.in-Some.ensures.parts text in
    let shape : Shape = roles.declaration c.args.declared.now in
    let each : List Role = roles.own_name (names_of_declared c.args.declared.now) ∷ roles.an_arity ∷ [] in
    let only = declaration_only c.args.declared.now form in
    let count = count_form text form (place_of form) parts is in
    told (IsFaultAs (roles.a_list shape) form) c.at-then-parts-lt3.result c.place-then-parts-lt3.result (place_of form) _ c.at-then-parts-lt3.ensures (c.place-then-parts-lt3.ensures text)
    (short_first shape form each s.0 s.1 s.2 only (λ at. refl) (let f = c.if-parts-lt3.true in omega (arith, count, f)))

pub returns-in_err-bytes-clause-fault : goal.returns-in_err-bytes-clause-fault
returns-in_err-bytes-clause-fault c =
    let p = err_from_is_err_and c.from_residual.result c.from_residual.ensures.1 in
    let text = c.args.text.now in
    let form = sexp_form text c.args.form.now in
    let s = c.sexps_are_forms.ensures.stands text c.args.form.now c.requires.of in
    let parts = c.in-Some.parts.now in
    let is = c.in-Some.ensures.parts text in
    let shape : Shape = roles.declaration c.args.declared.now in
    let each : List Role = roles.own_name (names_of_declared c.args.declared.now) ∷ roles.an_arity ∷ [] in
    let only = declaration_only c.args.declared.now form in
    let count = count_form text form (place_of form) parts is in
    let enough : length (parts_of form) < 3 → ⊥ = λ l. (let f = c.if-parts-lt3.false in omega (arith, count, l, f)) in
    let none = clear_none shape form each s.0 s.1 s.2 only (λ at. refl) in
    let p1 = sexp_form text c.index-parts-1.result in
    let g1 = nth_part text form (place_of form) parts 1 c.index-parts-1.result is (let f = c.if-parts-lt3.false in omega (arith, f)) c.index-parts-1.is in
    rw (p.1, p.2)
    (told_of_part (IsFaultAs (roles.own_name (names_of_declared c.args.declared.now)) p1) (IsFaultAs (roles.a_list shape) form)
    (λ p k first. part_first shape form each s.0 s.1 s.2 only (λ at. refl) 0 p1 p k enough none g1 first) c.in_err-bytes.field-0.0 c.in_err-bytes.ensures.fault)

pub returns-in_err-arity-clause-fault : goal.returns-in_err-arity-clause-fault
returns-in_err-arity-clause-fault c =
    let p = err_from_is_err_and c.from_residual-in_err-arity.result c.from_residual-in_err-arity.ensures.1 in
    let text = c.args.text.now in
    let form = sexp_form text c.args.form.now in
    let s = c.sexps_are_forms.ensures.stands text c.args.form.now c.requires.of in
    let parts = c.in-Some.parts.now in
    let is = c.in-Some.ensures.parts text in
    let shape : Shape = roles.declaration c.args.declared.now in
    let each : List Role = roles.own_name (names_of_declared c.args.declared.now) ∷ roles.an_arity ∷ [] in
    let only = declaration_only c.args.declared.now form in
    let count = count_form text form (place_of form) parts is in
    let enough : length (parts_of form) < 3 → ⊥ = λ l. (let f = c.if-parts-lt3.false in omega (arith, count, l, f)) in
    let none = clear_none shape form each s.0 s.1 s.2 only (λ at. refl) in
    let p1 = sexp_form text c.index-parts-1.result in
    let g1 = nth_part text form (place_of form) parts 1 c.index-parts-1.result is (let f = c.if-parts-lt3.false in omega (arith, f)) c.index-parts-1.is in
    let clear1 = clear_more shape form each s.0 s.1 s.2 only (λ at. refl) 0 p1 none g1 (own_name_clear _ p1 c.in_ok-bytes.bytes.now c.in_ok-bytes.ensures.ok) in
    let p2 = sexp_form text c.index-parts-2.result in
    let g2 = nth_part text form (place_of form) parts 2 c.index-parts-2.result is (let f = c.if-parts-lt3.false in omega (arith, f)) c.index-parts-2.is in
    rw (p.1, p.2)
    (told_of_part (IsFaultAs roles.an_arity p2) (IsFaultAs (roles.a_list shape) form)
    (λ p k first. part_first shape form each s.0 s.1 s.2 only (λ at. refl) 1 p2 p k enough clear1 g2 first) c.in_err-arity.field-0.0 c.in_err-arity.ensures.fault)

pub returns-then-parts-gt3-clause-fault : goal.returns-then-parts-gt3-clause-fault
returns-then-parts-gt3-clause-fault c =
    let text = c.args.text.now in
    let form = sexp_form text c.args.form.now in
    let s = c.sexps_are_forms.ensures.stands text c.args.form.now c.requires.of in
    let parts = c.in-Some.parts.now in
    let is = c.in-Some.ensures.parts text in
    let shape : Shape = roles.declaration c.args.declared.now in
    let each : List Role = roles.own_name (names_of_declared c.args.declared.now) ∷ roles.an_arity ∷ [] in
    let only = declaration_only c.args.declared.now form in
    let count = count_form text form (place_of form) parts is in
    let enough : length (parts_of form) < 3 → ⊥ = λ l. (let f = c.if-parts-lt3.false in omega (arith, count, l, f)) in
    let none = clear_none shape form each s.0 s.1 s.2 only (λ at. refl) in
    let p1 = sexp_form text c.index-parts-1.result in
    let g1 = nth_part text form (place_of form) parts 1 c.index-parts-1.result is (let f = c.if-parts-lt3.false in omega (arith, f)) c.index-parts-1.is in
    let clear1 = clear_more shape form each s.0 s.1 s.2 only (λ at. refl) 0 p1 none g1 (own_name_clear _ p1 c.in_ok-bytes.bytes.now c.in_ok-bytes.ensures.ok) in
    let p2 = sexp_form text c.index-parts-2.result in
    let g2 = nth_part text form (place_of form) parts 2 c.index-parts-2.result is (let f = c.if-parts-lt3.false in omega (arith, f)) c.index-parts-2.is in
    let clear2 = clear_more shape form each s.0 s.1 s.2 only (λ at. refl) 1 p2 clear1 g2 c.in_ok-arity.ensures.clear in
    let g3 = nth_part text form (place_of form) parts 3 c.index-parts-3.result is c.if-parts-gt3.true c.index-parts-3.is in
    let of = c.sexps_are_forms.ensures.stands text c.index-parts-3.result (part_of text parts 3 c.index-parts-3.result (c.in-Some.ensures.of text c.requires.of) c.if-parts-gt3.true c.index-parts-3.is) in
    told (IsFaultAs (roles.a_list shape) form) c.at-then-parts-gt3.result c.place-then-parts-gt3.result (place_of (sexp_form text c.index-parts-3.result)) _ c.at-then-parts-gt3.ensures (c.place-then-parts-gt3.ensures text)
    (part_first shape form each s.0 s.1 s.2 only (λ at. refl) 2 (sexp_form text c.index-parts-3.result) _ BadForm enough clear2 g3 (wrong_first (sexp_form text c.index-parts-3.result) of.0 of.1 of.2))

pub returns-clause-declaration : goal.returns-clause-declaration
returns-clause-declaration c =
    let text = c.args.text.now in
    let form = sexp_form text c.args.form.now in
    let s = c.sexps_are_forms.ensures.stands text c.args.form.now c.requires.of in
    let parts = c.in-Some.parts.now in
    let is = c.in-Some.ensures.parts text in
    let shape : Shape = roles.declaration c.args.declared.now in
    let each : List Role = roles.own_name (names_of_declared c.args.declared.now) ∷ roles.an_arity ∷ [] in
    let only = declaration_only c.args.declared.now form in
    let count = count_form text form (place_of form) parts is in
    let enough : length (parts_of form) < 3 → ⊥ = λ l. (let f = c.if-parts-lt3.false in omega (arith, count, l, f)) in
    let none = clear_none shape form each s.0 s.1 s.2 only (λ at. refl) in
    let p1 = sexp_form text c.index-parts-1.result in
    let g1 = nth_part text form (place_of form) parts 1 c.index-parts-1.result is (let f = c.if-parts-lt3.false in omega (arith, f)) c.index-parts-1.is in
    let clear1 = clear_more shape form each s.0 s.1 s.2 only (λ at. refl) 0 p1 none g1 (own_name_clear _ p1 c.in_ok-bytes.bytes.now c.in_ok-bytes.ensures.ok) in
    let p2 = sexp_form text c.index-parts-2.result in
    let g2 = nth_part text form (place_of form) parts 2 c.index-parts-2.result is (let f = c.if-parts-lt3.false in omega (arith, f)) c.index-parts-2.is in
    declaration_found form p1 p2 c.in_ok-bytes.bytes.now c.in_ok-arity.arity g1 c.in_ok-bytes.ensures.ok.named g2 c.in_ok-arity.ensures.arity ∙ ap (λ (n : List ℕ). Some (put n c.in_ok-arity.arity)) (sym c.in_ok-name.ensures)

pub returns-clause-clear : goal.returns-clause-clear
returns-clause-clear c =
    let text = c.args.text.now in
    let form = sexp_form text c.args.form.now in
    let s = c.sexps_are_forms.ensures.stands text c.args.form.now c.requires.of in
    let parts = c.in-Some.parts.now in
    let is = c.in-Some.ensures.parts text in
    let shape : Shape = roles.declaration c.args.declared.now in
    let each : List Role = roles.own_name (names_of_declared c.args.declared.now) ∷ roles.an_arity ∷ [] in
    let only = declaration_only c.args.declared.now form in
    let count = count_form text form (place_of form) parts is in
    let enough : length (parts_of form) < 3 → ⊥ = λ l. (let f = c.if-parts-lt3.false in omega (arith, count, l, f)) in
    let none = clear_none shape form each s.0 s.1 s.2 only (λ at. refl) in
    let p1 = sexp_form text c.index-parts-1.result in
    let g1 = nth_part text form (place_of form) parts 1 c.index-parts-1.result is (let f = c.if-parts-lt3.false in omega (arith, f)) c.index-parts-1.is in
    let clear1 = clear_more shape form each s.0 s.1 s.2 only (λ at. refl) 0 p1 none g1 (own_name_clear _ p1 c.in_ok-bytes.bytes.now c.in_ok-bytes.ensures.ok) in
    let p2 = sexp_form text c.index-parts-2.result in
    let g2 = nth_part text form (place_of form) parts 2 c.index-parts-2.result is (let f = c.if-parts-lt3.false in omega (arith, f)) c.index-parts-2.is in
    let clear2 = clear_more shape form each s.0 s.1 s.2 only (λ at. refl) 1 p2 clear1 g2 c.in_ok-arity.ensures.clear in
    whole_clear shape form each s.0 s.1 s.2 only (λ at. refl) 2 enough (let f = c.if-parts-gt3.false in omega (arith, count, f)) clear2
