use Rattle.std.proofs.Common.{◌≡◌, ◌<◌, List, [], ◌∷◌, Option, None, length, sym, ◌∙◌, ap, refl, subst, arith}
use Rattle.std.proofs.lemmas.Result.{err_from_is_err_and}
use Rattle.word_ops.specs.declared.sorts.Sort.{Sort}
use Rattle.word_terms.specs.View.{tree_of}
use Rattle.text_core.specs.declared.faults.Kind.TheVariants.{BadForm}
use Rattle.text_core.specs.Faults.{IsFirst, IsFaultBy}
use Rattle.forms.specs.Forms.{place_of, sexp_form, parts_of, part}
use Rattle.forms.proofs.Told.{told, told_of_part}
use Rattle.goal_reader.specs.Roles as roles
use Rattle.goal_reader.specs.Roles.{Role, Shape, IsFaultAs, sort_in, ◌>>=◌, WritesTerm, goal_keywords}
use Rattle.goal_reader.proofs.Fixed.{short_first, clear_none, clear_more, part_first, whole_clear, wrong_first}
use Rattle.goal_reader.proofs.NewNames.{nth_part, part_of, count_form}
use Rattle.goal_reader.proofs.Apart.{writes_clear}
use Rattle.goal_reader.proofs.Sorts.{assume_only}
use Rattle.goal_reader.proofs.Ranks.{has_parts}
use Rattle.goal_reader.proofs.assumes.assume.Goals as goal

pub unreachable-requires : goal.unreachable-requires
unreachable-requires c =
    has_parts goal_keywords 3 (sexp_form c.args.text.now c.args.form.now) c.requires.keyword (c.in_default.ensures.parts c.args.text.now)

pub returns-then-parts-lt3-clause-fault : goal.returns-then-parts-lt3-clause-fault
returns-then-parts-lt3-clause-fault c =
    let text = c.args.text.now in
    let form = sexp_form text c.args.form.now in
    let scope = c.args.scope.now in
    let s = c.sexps_are_forms.ensures.stands text c.args.form.now c.requires.of in
    let parts = c.in-Some.parts.now in
    let is = c.in-Some.ensures.parts text in
    let shape : Shape = roles.assume scope in
    let second : Option Sort = part 1 form >>= sort_in scope in
    let each : List Role = roles.term scope None ∷ roles.term scope second ∷ [] in
    let only = assume_only scope form in
    let count = count_form text form (place_of form) parts is in
    told (IsFaultAs (roles.a_list shape) form) c.at.result c.place.result (place_of form) _ c.at.ensures (c.place.ensures text)
    (short_first shape form each s.0 s.1 s.2 only (λ at. refl) (let f = c.if-parts-lt3.true in omega (arith, count, f)))

pub returns-in_err-left-clause-fault : goal.returns-in_err-left-clause-fault
returns-in_err-left-clause-fault c =
    let p = err_from_is_err_and c.from_residual.result c.from_residual.ensures.1 in
    let text = c.args.text.now in
    let form = sexp_form text c.args.form.now in
    let scope = c.args.scope.now in
    let s = c.sexps_are_forms.ensures.stands text c.args.form.now c.requires.of in
    let parts = c.in-Some.parts.now in
    let is = c.in-Some.ensures.parts text in
    let shape : Shape = roles.assume scope in
    let second : Option Sort = part 1 form >>= sort_in scope in
    let each : List Role = roles.term scope None ∷ roles.term scope second ∷ [] in
    let only = assume_only scope form in
    let count = count_form text form (place_of form) parts is in
    let enough : length (parts_of form) < 3 → ⊥ = λ l. (let f = c.if-parts-lt3.false in omega (arith, count, l, f)) in
    let none = clear_none shape form each s.0 s.1 s.2 only (λ at. refl) in
    let g1 = nth_part text form (place_of form) parts 1 c.index-parts-1.result is (let f = c.if-parts-lt3.false in omega (arith, f)) c.index-parts-1.is in
    rw (p.1, p.2)
    (told_of_part (IsFaultAs (roles.term scope None) (sexp_form text c.index-parts-1.result)) (IsFaultAs (roles.a_list shape) form)
    (λ p k first. part_first shape form each s.0 s.1 s.2 only (λ at. refl) 0 (sexp_form text c.index-parts-1.result) p k enough none g1 first) c.in_err-left.field-0.0 c.in_err-left.ensures.fault)

pub returns-in_err-right-clause-fault : goal.returns-in_err-right-clause-fault
returns-in_err-right-clause-fault c =
    let p = err_from_is_err_and c.from_residual-in_err-right.result c.from_residual-in_err-right.ensures.1 in
    let text = c.args.text.now in
    let form = sexp_form text c.args.form.now in
    let scope = c.args.scope.now in
    let s = c.sexps_are_forms.ensures.stands text c.args.form.now c.requires.of in
    let parts = c.in-Some.parts.now in
    let is = c.in-Some.ensures.parts text in
    let shape : Shape = roles.assume scope in
    let second : Option Sort = part 1 form >>= sort_in scope in
    let each : List Role = roles.term scope None ∷ roles.term scope second ∷ [] in
    let only = assume_only scope form in
    let count = count_form text form (place_of form) parts is in
    let enough : length (parts_of form) < 3 → ⊥ = λ l. (let f = c.if-parts-lt3.false in omega (arith, count, l, f)) in
    let none = clear_none shape form each s.0 s.1 s.2 only (λ at. refl) in
    let g1 = nth_part text form (place_of form) parts 1 c.index-parts-1.result is (let f = c.if-parts-lt3.false in omega (arith, f)) c.index-parts-1.is in
    let clear1 = clear_more shape form each s.0 s.1 s.2 only (λ at. refl) 0 (sexp_form text c.index-parts-1.result) none g1 (writes_clear c.in_ok-left.ensures.term.writes None c.in_ok-left.ensures.term.wanted_one) in
    let g2 = nth_part text form (place_of form) parts 2 c.index-parts-2.result is (let f = c.if-parts-lt3.false in omega (arith, f)) c.index-parts-2.is in
    let sorted : c.sort_told-sort.result ≡ second = c.sort_told-sort.ensures ∙ sym (ap (λ o. o >>= sort_in scope) g1) in
    let told = subst (λ w. IsFaultBy (IsFirst (IsFaultAs (roles.term scope w) (sexp_form text c.index-parts-2.result))) c.in_err-right.field-0.0) sorted c.in_err-right.ensures.fault in
    rw (p.1, p.2)
    (told_of_part (IsFaultAs (roles.term scope second) (sexp_form text c.index-parts-2.result)) (IsFaultAs (roles.a_list shape) form)
    (λ p k first. part_first shape form each s.0 s.1 s.2 only (λ at. refl) 1 (sexp_form text c.index-parts-2.result) p k enough clear1 g2 first) c.in_err-right.field-0.0 told)

pub returns-then-parts-gt3-clause-fault : goal.returns-then-parts-gt3-clause-fault
returns-then-parts-gt3-clause-fault c =
    let text = c.args.text.now in
    let form = sexp_form text c.args.form.now in
    let scope = c.args.scope.now in
    let s = c.sexps_are_forms.ensures.stands text c.args.form.now c.requires.of in
    let parts = c.in-Some.parts.now in
    let is = c.in-Some.ensures.parts text in
    let shape : Shape = roles.assume scope in
    let second : Option Sort = part 1 form >>= sort_in scope in
    let each : List Role = roles.term scope None ∷ roles.term scope second ∷ [] in
    let only = assume_only scope form in
    let count = count_form text form (place_of form) parts is in
    let enough : length (parts_of form) < 3 → ⊥ = λ l. (let f = c.if-parts-lt3.false in omega (arith, count, l, f)) in
    let none = clear_none shape form each s.0 s.1 s.2 only (λ at. refl) in
    let g1 = nth_part text form (place_of form) parts 1 c.index-parts-1.result is (let f = c.if-parts-lt3.false in omega (arith, f)) c.index-parts-1.is in
    let clear1 = clear_more shape form each s.0 s.1 s.2 only (λ at. refl) 0 (sexp_form text c.index-parts-1.result) none g1 (writes_clear c.in_ok-left.ensures.term.writes None c.in_ok-left.ensures.term.wanted_one) in
    let g2 = nth_part text form (place_of form) parts 2 c.index-parts-2.result is (let f = c.if-parts-lt3.false in omega (arith, f)) c.index-parts-2.is in
    let sorted : c.sort_told-sort.result ≡ second = c.sort_told-sort.ensures ∙ sym (ap (λ o. o >>= sort_in scope) g1) in
    let right = subst (λ w. WritesTerm scope w (sexp_form text c.index-parts-2.result) (tree_of c.in_ok-right.right)) sorted c.in_ok-right.ensures.term in
    let clear2 = clear_more shape form each s.0 s.1 s.2 only (λ at. refl) 1 (sexp_form text c.index-parts-2.result) clear1 g2 (writes_clear right.writes second right.wanted_one) in
    let g3 = nth_part text form (place_of form) parts 3 c.index-parts-3.result is c.if-parts-gt3.true c.index-parts-3.is in
    let of = c.sexps_are_forms.ensures.stands text c.index-parts-3.result (part_of text parts 3 c.index-parts-3.result (c.in-Some.ensures.of text c.requires.of) c.if-parts-gt3.true c.index-parts-3.is) in
    told (IsFaultAs (roles.a_list shape) form) c.at-then-parts-gt3.result c.place-then-parts-gt3.result (place_of (sexp_form text c.index-parts-3.result)) _ c.at-then-parts-gt3.ensures (c.place-then-parts-gt3.ensures text)
    (part_first shape form each s.0 s.1 s.2 only (λ at. refl) 2 (sexp_form text c.index-parts-3.result) _ BadForm enough clear2 g3 (wrong_first (sexp_form text c.index-parts-3.result) of.0 of.1 of.2))

pub returns-clause-left : goal.returns-clause-left
returns-clause-left c =
    let text = c.args.text.now in
    let form = sexp_form text c.args.form.now in
    let scope = c.args.scope.now in
    let s = c.sexps_are_forms.ensures.stands text c.args.form.now c.requires.of in
    let parts = c.in-Some.parts.now in
    let is = c.in-Some.ensures.parts text in
    let shape : Shape = roles.assume scope in
    let second : Option Sort = part 1 form >>= sort_in scope in
    let each : List Role = roles.term scope None ∷ roles.term scope second ∷ [] in
    let only = assume_only scope form in
    let count = count_form text form (place_of form) parts is in
    let enough : length (parts_of form) < 3 → ⊥ = λ l. (let f = c.if-parts-lt3.false in omega (arith, count, l, f)) in
    let none = clear_none shape form each s.0 s.1 s.2 only (λ at. refl) in
    let g1 = nth_part text form (place_of form) parts 1 c.index-parts-1.result is (let f = c.if-parts-lt3.false in omega (arith, f)) c.index-parts-1.is in
    record { part = sexp_form text c.index-parts-1.result; found = g1; writes = c.in_ok-left.ensures.term }

pub returns-clause-right : goal.returns-clause-right
returns-clause-right c =
    let text = c.args.text.now in
    let form = sexp_form text c.args.form.now in
    let scope = c.args.scope.now in
    let s = c.sexps_are_forms.ensures.stands text c.args.form.now c.requires.of in
    let parts = c.in-Some.parts.now in
    let is = c.in-Some.ensures.parts text in
    let shape : Shape = roles.assume scope in
    let second : Option Sort = part 1 form >>= sort_in scope in
    let each : List Role = roles.term scope None ∷ roles.term scope second ∷ [] in
    let only = assume_only scope form in
    let count = count_form text form (place_of form) parts is in
    let enough : length (parts_of form) < 3 → ⊥ = λ l. (let f = c.if-parts-lt3.false in omega (arith, count, l, f)) in
    let none = clear_none shape form each s.0 s.1 s.2 only (λ at. refl) in
    let g1 = nth_part text form (place_of form) parts 1 c.index-parts-1.result is (let f = c.if-parts-lt3.false in omega (arith, f)) c.index-parts-1.is in
    let clear1 = clear_more shape form each s.0 s.1 s.2 only (λ at. refl) 0 (sexp_form text c.index-parts-1.result) none g1 (writes_clear c.in_ok-left.ensures.term.writes None c.in_ok-left.ensures.term.wanted_one) in
    let g2 = nth_part text form (place_of form) parts 2 c.index-parts-2.result is (let f = c.if-parts-lt3.false in omega (arith, f)) c.index-parts-2.is in
    let sorted : c.sort_told-sort.result ≡ second = c.sort_told-sort.ensures ∙ sym (ap (λ o. o >>= sort_in scope) g1) in
    record { part = sexp_form text c.index-parts-2.result; found = g2; writes = subst (λ w. WritesTerm scope w (sexp_form text c.index-parts-2.result) (tree_of c.in_ok-right.right)) sorted c.in_ok-right.ensures.term }

pub returns-clause-clear : goal.returns-clause-clear
returns-clause-clear c =
    let text = c.args.text.now in
    let form = sexp_form text c.args.form.now in
    let scope = c.args.scope.now in
    let s = c.sexps_are_forms.ensures.stands text c.args.form.now c.requires.of in
    let parts = c.in-Some.parts.now in
    let is = c.in-Some.ensures.parts text in
    let shape : Shape = roles.assume scope in
    let second : Option Sort = part 1 form >>= sort_in scope in
    let each : List Role = roles.term scope None ∷ roles.term scope second ∷ [] in
    let only = assume_only scope form in
    let count = count_form text form (place_of form) parts is in
    let enough : length (parts_of form) < 3 → ⊥ = λ l. (let f = c.if-parts-lt3.false in omega (arith, count, l, f)) in
    let none = clear_none shape form each s.0 s.1 s.2 only (λ at. refl) in
    let g1 = nth_part text form (place_of form) parts 1 c.index-parts-1.result is (let f = c.if-parts-lt3.false in omega (arith, f)) c.index-parts-1.is in
    let clear1 = clear_more shape form each s.0 s.1 s.2 only (λ at. refl) 0 (sexp_form text c.index-parts-1.result) none g1 (writes_clear c.in_ok-left.ensures.term.writes None c.in_ok-left.ensures.term.wanted_one) in
    let g2 = nth_part text form (place_of form) parts 2 c.index-parts-2.result is (let f = c.if-parts-lt3.false in omega (arith, f)) c.index-parts-2.is in
    let sorted : c.sort_told-sort.result ≡ second = c.sort_told-sort.ensures ∙ sym (ap (λ o. o >>= sort_in scope) g1) in
    let right = subst (λ w. WritesTerm scope w (sexp_form text c.index-parts-2.result) (tree_of c.in_ok-right.right)) sorted c.in_ok-right.ensures.term in
    let clear2 = clear_more shape form each s.0 s.1 s.2 only (λ at. refl) 1 (sexp_form text c.index-parts-2.result) clear1 g2 (writes_clear right.writes second right.wanted_one) in
    whole_clear shape form each s.0 s.1 s.2 only (λ at. refl) 2 enough (let f = c.if-parts-gt3.false in omega (arith, count, f)) clear2
