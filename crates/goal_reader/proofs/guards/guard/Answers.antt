use Rattle.std.proofs.Common.{◌<◌, List, [], ◌∷◌, Some, length, refl, arith}
use Rattle.std.proofs.lemmas.Result.{err_from_is_err_and}
use Rattle.word_ops.specs.declared.sorts.Sort.TheVariants as sorts
use Rattle.text_core.specs.declared.faults.Kind.TheVariants.{BadForm}
use Rattle.forms.specs.Forms.{place_of, sexp_form, parts_of}
use Rattle.forms.proofs.Told.{told, told_of_part}
use Rattle.goal_reader.specs.Roles as roles
use Rattle.goal_reader.specs.Roles.{Role, Shape, IsFaultAs, goal_keywords}
use Rattle.goal_reader.proofs.Fixed.{short_first, clear_none, clear_more, part_first, whole_clear, wrong_first}
use Rattle.goal_reader.proofs.NewNames.{guard_only, nth_part, part_of, count_form}
use Rattle.goal_reader.proofs.Apart.{writes_clear}
use Rattle.goal_reader.proofs.Ranks.{has_parts}
use Rattle.goal_reader.proofs.guards.guard.Goals as goal

pub unreachable-requires : goal.unreachable-requires
unreachable-requires c =
    has_parts goal_keywords 4 (sexp_form c.args.text.now c.args.form.now) c.requires.keyword (c.in_default.ensures.parts c.args.text.now)

pub returns-then-parts-lt2-clause-fault : goal.returns-then-parts-lt2-clause-fault
returns-then-parts-lt2-clause-fault c =
    let text = c.args.text.now in
    let form = sexp_form text c.args.form.now in
    let s = c.sexps_are_forms.ensures.stands text c.args.form.now c.requires.of in
    let parts = c.in-Some.parts.now in
    let is = c.in-Some.ensures.parts text in
    let shape : Shape = roles.guard c.args.scope.now in
    let each : List Role = roles.term c.args.scope.now (Some sorts.Word) ∷ [] in
    let only = guard_only c.args.scope.now form in
    let count = count_form text form (place_of form) parts is in
    told (IsFaultAs (roles.a_list shape) form) c.at.result c.place.result (place_of form) _ c.at.ensures (c.place.ensures text)
    (short_first shape form each s.0 s.1 s.2 only (λ at. refl) (let f = c.if-parts-lt2.true in omega (arith, count, f)))

pub returns-in_err-guard-clause-fault : goal.returns-in_err-guard-clause-fault
returns-in_err-guard-clause-fault c =
    let p = err_from_is_err_and c.from_residual.result c.from_residual.ensures.1 in
    let text = c.args.text.now in
    let form = sexp_form text c.args.form.now in
    let s = c.sexps_are_forms.ensures.stands text c.args.form.now c.requires.of in
    let parts = c.in-Some.parts.now in
    let is = c.in-Some.ensures.parts text in
    let shape : Shape = roles.guard c.args.scope.now in
    let each : List Role = roles.term c.args.scope.now (Some sorts.Word) ∷ [] in
    let only = guard_only c.args.scope.now form in
    let count = count_form text form (place_of form) parts is in
    let enough : length (parts_of form) < 2 → ⊥ = λ l. (let f = c.if-parts-lt2.false in omega (arith, count, l, f)) in
    let none = clear_none shape form each s.0 s.1 s.2 only (λ at. refl) in
    let g1 = nth_part text form (place_of form) parts 1 c.index-parts-1.result is (let f = c.if-parts-lt2.false in omega (arith, f)) c.index-parts-1.is in
    rw (p.1, p.2)
    (told_of_part (IsFaultAs (roles.term c.args.scope.now (Some sorts.Word)) (sexp_form text c.index-parts-1.result)) (IsFaultAs (roles.a_list shape) form)
    (λ p k first. part_first shape form each s.0 s.1 s.2 only (λ at. refl) 0 (sexp_form text c.index-parts-1.result) p k enough none g1 first) c.in_err-guard.field-0.0 c.in_err-guard.ensures.fault)

pub returns-then-parts-gt2-clause-fault : goal.returns-then-parts-gt2-clause-fault
returns-then-parts-gt2-clause-fault c =
    let text = c.args.text.now in
    let form = sexp_form text c.args.form.now in
    let s = c.sexps_are_forms.ensures.stands text c.args.form.now c.requires.of in
    let parts = c.in-Some.parts.now in
    let is = c.in-Some.ensures.parts text in
    let shape : Shape = roles.guard c.args.scope.now in
    let each : List Role = roles.term c.args.scope.now (Some sorts.Word) ∷ [] in
    let only = guard_only c.args.scope.now form in
    let count = count_form text form (place_of form) parts is in
    let enough : length (parts_of form) < 2 → ⊥ = λ l. (let f = c.if-parts-lt2.false in omega (arith, count, l, f)) in
    let none = clear_none shape form each s.0 s.1 s.2 only (λ at. refl) in
    let g1 = nth_part text form (place_of form) parts 1 c.index-parts-1.result is (let f = c.if-parts-lt2.false in omega (arith, f)) c.index-parts-1.is in
    let clear1 = clear_more shape form each s.0 s.1 s.2 only (λ at. refl) 0 (sexp_form text c.index-parts-1.result) none g1 (writes_clear c.in_ok-guard.ensures.term.writes (Some sorts.Word) c.in_ok-guard.ensures.term.wanted_one) in
    let g2 = nth_part text form (place_of form) parts 2 c.index-parts-2.result is c.if-parts-gt2.true c.index-parts-2.is in
    let of = c.sexps_are_forms.ensures.stands text c.index-parts-2.result (part_of text parts 2 c.index-parts-2.result (c.in-Some.ensures.of text c.requires.of) c.if-parts-gt2.true c.index-parts-2.is) in
    told (IsFaultAs (roles.a_list shape) form) c.at-then-parts-gt2.result c.place-then-parts-gt2.result (place_of (sexp_form text c.index-parts-2.result)) _ c.at-then-parts-gt2.ensures (c.place-then-parts-gt2.ensures text)
    (part_first shape form each s.0 s.1 s.2 only (λ at. refl) 1 (sexp_form text c.index-parts-2.result) _ BadForm enough clear1 g2 (wrong_first (sexp_form text c.index-parts-2.result) of.0 of.1 of.2))

pub returns-clause-term : goal.returns-clause-term
returns-clause-term c =
    let text = c.args.text.now in
    let form = sexp_form text c.args.form.now in
    let s = c.sexps_are_forms.ensures.stands text c.args.form.now c.requires.of in
    let parts = c.in-Some.parts.now in
    let is = c.in-Some.ensures.parts text in
    let shape : Shape = roles.guard c.args.scope.now in
    let each : List Role = roles.term c.args.scope.now (Some sorts.Word) ∷ [] in
    let only = guard_only c.args.scope.now form in
    let count = count_form text form (place_of form) parts is in
    let enough : length (parts_of form) < 2 → ⊥ = λ l. (let f = c.if-parts-lt2.false in omega (arith, count, l, f)) in
    let none = clear_none shape form each s.0 s.1 s.2 only (λ at. refl) in
    let g1 = nth_part text form (place_of form) parts 1 c.index-parts-1.result is (let f = c.if-parts-lt2.false in omega (arith, f)) c.index-parts-1.is in
    record { part = sexp_form text c.index-parts-1.result; found = g1; writes = c.in_ok-guard.ensures.term }

pub returns-clause-clear : goal.returns-clause-clear
returns-clause-clear c =
    let text = c.args.text.now in
    let form = sexp_form text c.args.form.now in
    let s = c.sexps_are_forms.ensures.stands text c.args.form.now c.requires.of in
    let parts = c.in-Some.parts.now in
    let is = c.in-Some.ensures.parts text in
    let shape : Shape = roles.guard c.args.scope.now in
    let each : List Role = roles.term c.args.scope.now (Some sorts.Word) ∷ [] in
    let only = guard_only c.args.scope.now form in
    let count = count_form text form (place_of form) parts is in
    let enough : length (parts_of form) < 2 → ⊥ = λ l. (let f = c.if-parts-lt2.false in omega (arith, count, l, f)) in
    let none = clear_none shape form each s.0 s.1 s.2 only (λ at. refl) in
    let g1 = nth_part text form (place_of form) parts 1 c.index-parts-1.result is (let f = c.if-parts-lt2.false in omega (arith, f)) c.index-parts-1.is in
    let clear1 = clear_more shape form each s.0 s.1 s.2 only (λ at. refl) 0 (sexp_form text c.index-parts-1.result) none g1 (writes_clear c.in_ok-guard.ensures.term.writes (Some sorts.Word) c.in_ok-guard.ensures.term.wanted_one) in
    whole_clear shape form each s.0 s.1 s.2 only (λ at. refl) 1 enough (let f = c.if-parts-gt2.false in omega (arith, count, f)) clear1
