use Rattle.std.proofs.Common.{◌≡◌, ℕ, ◌<◌, ◌++◌, if◌then◌else◌, true, List, Option, Some, length, sym, ◌∙◌, ap, subst, arith}
use Rattle.std.proofs.lemmas.Result.{err_from_is_err_and}
use Rattle.word_ops.specs.declared.sorts.Sort.{Sort}
use Rattle.word_terms.specs.View.{tree_of}
use Rattle.text_core.specs.declared.faults.Kind.TheVariants.{BadForm}
use Rattle.text_core.specs.Faults.{IsFirst, IsFaultBy}
use Rattle.forms.specs.Forms.{place_of, sexp_form, parts_of}
use Rattle.forms.proofs.Told.{told, told_of_part}
use Rattle.goal_reader.specs.Roles as roles
use Rattle.goal_reader.specs.Roles.{Role, Shape, IsFaultAs, WritesTerm, fresh_register, least_parts, listed_role, pin_role, register_of, second_name, set_roles, shape_part, target_sort, value_part, wrong, ◌>>=◌}
use Rattle.goal_reader.specs.Reading.{IsClear, WritesPart, names_of_targets, pins_of_targets}
use Rattle.goal_meaning.specs.WellFormed.{sort_of_target}
use Rattle.goal_reader.proofs.Fixed.{short_first, clear_none, clear_more, part_first, whole_clear, wrong_first}
use Rattle.goal_reader.proofs.NewNames.{nth_part, part_of, count_form, set_only, fresh_name_clear, fresh_register_clear, target_told, target_sort_told}
use Rattle.goal_reader.proofs.Apart.{writes_clear}
use Rattle.goal_reader.proofs.targets.pinned.Goals as goal

pub returns-then-parts-lt4-clause-fault : goal.returns-then-parts-lt4-clause-fault
returns-then-parts-lt4-clause-fault c =
    let text = c.args.text.now in
    let form = sexp_form text c.args.form.now in
    let scope = c.args.scope.now in
    let names = names_of_targets c.args.targets.now in
    let taken = c.args.pool.now ++ pins_of_targets c.args.targets.now in
    let s = c.sexps_are_forms.ensures.stands text c.args.form.now c.requires.of in
    let parts = c.args.parts.now in
    let is = c.requires.listed in
    let shape : Shape = roles.set scope names taken in
    let second : Option Sort = target_sort form in
    let each : List Role = set_roles scope names taken form true in
    let listed : (at : ℕ) → shape_part shape form at ≡ listed_role each at = λ at. ap (λ b. listed_role (set_roles scope names taken form b) at) c.requires.pinned in
    let least : least_parts shape form ≡ 4 = ap (λ b. if b then 4 else 3) c.requires.pinned in
    let only = set_only scope names taken form in
    let count = count_form text form (place_of form) parts is in
    told (IsFaultAs (roles.a_list shape) form) c.at.result c.place.result (place_of form) _ c.at.ensures (c.place.ensures text)
    (short_first shape form each s.0 s.1 s.2 only listed (let f = c.if-parts-lt4.true in omega (arith, count, least, f)))

pub returns-in_err-bytes-clause-fault : goal.returns-in_err-bytes-clause-fault
returns-in_err-bytes-clause-fault c =
    let p = err_from_is_err_and c.from_residual.result c.from_residual.ensures.1 in
    let text = c.args.text.now in
    let form = sexp_form text c.args.form.now in
    let scope = c.args.scope.now in
    let names = names_of_targets c.args.targets.now in
    let taken = c.args.pool.now ++ pins_of_targets c.args.targets.now in
    let s = c.sexps_are_forms.ensures.stands text c.args.form.now c.requires.of in
    let parts = c.args.parts.now in
    let is = c.requires.listed in
    let shape : Shape = roles.set scope names taken in
    let second : Option Sort = target_sort form in
    let each : List Role = set_roles scope names taken form true in
    let listed : (at : ℕ) → shape_part shape form at ≡ listed_role each at = λ at. ap (λ b. listed_role (set_roles scope names taken form b) at) c.requires.pinned in
    let least : least_parts shape form ≡ 4 = ap (λ b. if b then 4 else 3) c.requires.pinned in
    let only = set_only scope names taken form in
    let count = count_form text form (place_of form) parts is in
    let enough : length (parts_of form) < least_parts shape form → ⊥ = λ l. (let f = c.if-parts-lt4.false in omega (arith, count, least, l, f)) in
    let none = clear_none shape form each s.0 s.1 s.2 only listed in
    let g1 = nth_part text form (place_of form) parts 1 c.index-parts-1.result is (let f = c.if-parts-lt4.false in omega (arith, f)) c.index-parts-1.is in
    rw (p.1, p.2)
    (told_of_part (IsFaultAs (roles.fresh_name names) (sexp_form text c.index-parts-1.result)) (IsFaultAs (roles.a_list shape) form)
    (λ p k first. part_first shape form each s.0 s.1 s.2 only listed 0 (sexp_form text c.index-parts-1.result) p k enough none g1 first) c.in_err-bytes.field-0.0 c.in_err-bytes.ensures.fault)

pub returns-in_err-register-clause-fault : goal.returns-in_err-register-clause-fault
returns-in_err-register-clause-fault c =
    let p = err_from_is_err_and c.from_residual-in_err-register.result c.from_residual-in_err-register.ensures.1 in
    let text = c.args.text.now in
    let form = sexp_form text c.args.form.now in
    let scope = c.args.scope.now in
    let names = names_of_targets c.args.targets.now in
    let taken = c.args.pool.now ++ pins_of_targets c.args.targets.now in
    let s = c.sexps_are_forms.ensures.stands text c.args.form.now c.requires.of in
    let parts = c.args.parts.now in
    let is = c.requires.listed in
    let shape : Shape = roles.set scope names taken in
    let second : Option Sort = target_sort form in
    let each : List Role = set_roles scope names taken form true in
    let listed : (at : ℕ) → shape_part shape form at ≡ listed_role each at = λ at. ap (λ b. listed_role (set_roles scope names taken form b) at) c.requires.pinned in
    let least : least_parts shape form ≡ 4 = ap (λ b. if b then 4 else 3) c.requires.pinned in
    let only = set_only scope names taken form in
    let count = count_form text form (place_of form) parts is in
    let enough : length (parts_of form) < least_parts shape form → ⊥ = λ l. (let f = c.if-parts-lt4.false in omega (arith, count, least, l, f)) in
    let none = clear_none shape form each s.0 s.1 s.2 only listed in
    let g1 = nth_part text form (place_of form) parts 1 c.index-parts-1.result is (let f = c.if-parts-lt4.false in omega (arith, f)) c.index-parts-1.is in
    let clear1 = clear_more shape form each s.0 s.1 s.2 only listed 0 (sexp_form text c.index-parts-1.result) none g1 (fresh_name_clear _ _ c.in_ok-bytes.bytes.now c.in_ok-bytes.ensures.named c.in_ok-bytes.ensures.fresh) in
    let named = target_told form _ c.in_ok-bytes.bytes.now g1 c.in_ok-bytes.ensures.named in
    let g2 = nth_part text form (place_of form) parts 2 c.index-parts-2.result is (let f = c.if-parts-lt4.false in omega (arith, f)) c.index-parts-2.is in
    let role : pin_role taken (Some c.in_ok-bytes.bytes.now) ≡ pin_role taken (second_name form) = ap (pin_role taken) (sym named) in
    let told = subst (λ (r : Role). IsFaultBy (IsFirst (IsFaultAs r (sexp_form text c.index-parts-2.result))) c.in_err-register.field-0.0) role c.in_err-register.ensures.fault in
    rw (p.1, p.2)
    (told_of_part (IsFaultAs (pin_role taken (second_name form)) (sexp_form text c.index-parts-2.result)) (IsFaultAs (roles.a_list shape) form)
    (λ p k first. part_first shape form each s.0 s.1 s.2 only listed 1 (sexp_form text c.index-parts-2.result) p k enough clear1 g2 first) c.in_err-register.field-0.0 told)

pub returns-in_err-value-clause-fault : goal.returns-in_err-value-clause-fault
returns-in_err-value-clause-fault c =
    let p = err_from_is_err_and c.from_residual-in_err-value.result c.from_residual-in_err-value.ensures.1 in
    let text = c.args.text.now in
    let form = sexp_form text c.args.form.now in
    let scope = c.args.scope.now in
    let names = names_of_targets c.args.targets.now in
    let taken = c.args.pool.now ++ pins_of_targets c.args.targets.now in
    let s = c.sexps_are_forms.ensures.stands text c.args.form.now c.requires.of in
    let parts = c.args.parts.now in
    let is = c.requires.listed in
    let shape : Shape = roles.set scope names taken in
    let second : Option Sort = target_sort form in
    let each : List Role = set_roles scope names taken form true in
    let listed : (at : ℕ) → shape_part shape form at ≡ listed_role each at = λ at. ap (λ b. listed_role (set_roles scope names taken form b) at) c.requires.pinned in
    let least : least_parts shape form ≡ 4 = ap (λ b. if b then 4 else 3) c.requires.pinned in
    let only = set_only scope names taken form in
    let count = count_form text form (place_of form) parts is in
    let enough : length (parts_of form) < least_parts shape form → ⊥ = λ l. (let f = c.if-parts-lt4.false in omega (arith, count, least, l, f)) in
    let none = clear_none shape form each s.0 s.1 s.2 only listed in
    let g1 = nth_part text form (place_of form) parts 1 c.index-parts-1.result is (let f = c.if-parts-lt4.false in omega (arith, f)) c.index-parts-1.is in
    let clear1 = clear_more shape form each s.0 s.1 s.2 only listed 0 (sexp_form text c.index-parts-1.result) none g1 (fresh_name_clear _ _ c.in_ok-bytes.bytes.now c.in_ok-bytes.ensures.named c.in_ok-bytes.ensures.fresh) in
    let named = target_told form _ c.in_ok-bytes.bytes.now g1 c.in_ok-bytes.ensures.named in
    let g2 = nth_part text form (place_of form) parts 2 c.index-parts-2.result is (let f = c.if-parts-lt4.false in omega (arith, f)) c.index-parts-2.is in
    let role : pin_role taken (Some c.in_ok-bytes.bytes.now) ≡ pin_role taken (second_name form) = ap (pin_role taken) (sym named) in
    let word : pin_role taken (second_name form) ≡ fresh_register taken = sym role ∙ ap (λ b. if b then wrong else fresh_register taken) c.in_ok-register.ensures.word in
    let pin_is_clear = subst (λ (r : Role). IsClear r (sexp_form text c.index-parts-2.result)) (sym word) (fresh_register_clear taken _ c.in_ok-register.register c.in_ok-register.ensures.register c.in_ok-register.ensures.fresh) in
    let clear2 = clear_more shape form each s.0 s.1 s.2 only listed 1 (sexp_form text c.index-parts-2.result) clear1 g2 pin_is_clear in
    let g3 = nth_part text form (place_of form) parts 3 c.index-parts-3.result is (let f = c.if-parts-lt4.false in omega (arith, f)) c.index-parts-3.is in
    let sorted : Some c.sort_wanted-sort.result ≡ second = ap Some c.sort_wanted-sort.ensures ∙ target_sort_told form c.in_ok-bytes.bytes.now named in
    let told = subst (λ w. IsFaultBy (IsFirst (IsFaultAs (roles.term scope w) (sexp_form text c.index-parts-3.result))) c.in_err-value.field-0.0) sorted c.in_err-value.ensures.fault in
    rw (p.1, p.2)
    (told_of_part (IsFaultAs (roles.term scope second) (sexp_form text c.index-parts-3.result)) (IsFaultAs (roles.a_list shape) form)
    (λ p k first. part_first shape form each s.0 s.1 s.2 only listed 2 (sexp_form text c.index-parts-3.result) p k enough clear2 g3 first) c.in_err-value.field-0.0 told)

pub returns-then-parts-gt4-clause-fault : goal.returns-then-parts-gt4-clause-fault
returns-then-parts-gt4-clause-fault c =
    let text = c.args.text.now in
    let form = sexp_form text c.args.form.now in
    let scope = c.args.scope.now in
    let names = names_of_targets c.args.targets.now in
    let taken = c.args.pool.now ++ pins_of_targets c.args.targets.now in
    let s = c.sexps_are_forms.ensures.stands text c.args.form.now c.requires.of in
    let parts = c.args.parts.now in
    let is = c.requires.listed in
    let shape : Shape = roles.set scope names taken in
    let second : Option Sort = target_sort form in
    let each : List Role = set_roles scope names taken form true in
    let listed : (at : ℕ) → shape_part shape form at ≡ listed_role each at = λ at. ap (λ b. listed_role (set_roles scope names taken form b) at) c.requires.pinned in
    let least : least_parts shape form ≡ 4 = ap (λ b. if b then 4 else 3) c.requires.pinned in
    let only = set_only scope names taken form in
    let count = count_form text form (place_of form) parts is in
    let enough : length (parts_of form) < least_parts shape form → ⊥ = λ l. (let f = c.if-parts-lt4.false in omega (arith, count, least, l, f)) in
    let none = clear_none shape form each s.0 s.1 s.2 only listed in
    let g1 = nth_part text form (place_of form) parts 1 c.index-parts-1.result is (let f = c.if-parts-lt4.false in omega (arith, f)) c.index-parts-1.is in
    let clear1 = clear_more shape form each s.0 s.1 s.2 only listed 0 (sexp_form text c.index-parts-1.result) none g1 (fresh_name_clear _ _ c.in_ok-bytes.bytes.now c.in_ok-bytes.ensures.named c.in_ok-bytes.ensures.fresh) in
    let named = target_told form _ c.in_ok-bytes.bytes.now g1 c.in_ok-bytes.ensures.named in
    let g2 = nth_part text form (place_of form) parts 2 c.index-parts-2.result is (let f = c.if-parts-lt4.false in omega (arith, f)) c.index-parts-2.is in
    let role : pin_role taken (Some c.in_ok-bytes.bytes.now) ≡ pin_role taken (second_name form) = ap (pin_role taken) (sym named) in
    let word : pin_role taken (second_name form) ≡ fresh_register taken = sym role ∙ ap (λ b. if b then wrong else fresh_register taken) c.in_ok-register.ensures.word in
    let pin_is_clear = subst (λ (r : Role). IsClear r (sexp_form text c.index-parts-2.result)) (sym word) (fresh_register_clear taken _ c.in_ok-register.register c.in_ok-register.ensures.register c.in_ok-register.ensures.fresh) in
    let clear2 = clear_more shape form each s.0 s.1 s.2 only listed 1 (sexp_form text c.index-parts-2.result) clear1 g2 pin_is_clear in
    let g3 = nth_part text form (place_of form) parts 3 c.index-parts-3.result is (let f = c.if-parts-lt4.false in omega (arith, f)) c.index-parts-3.is in
    let sorted : Some c.sort_wanted-sort.result ≡ second = ap Some c.sort_wanted-sort.ensures ∙ target_sort_told form c.in_ok-bytes.bytes.now named in
    let right = subst (λ w. WritesTerm scope w (sexp_form text c.index-parts-3.result) (tree_of c.in_ok-value.value)) sorted c.in_ok-value.ensures.term in
    let clear3 = clear_more shape form each s.0 s.1 s.2 only listed 2 (sexp_form text c.index-parts-3.result) clear2 g3 (writes_clear right.writes second right.wanted_one) in
    let g4 = nth_part text form (place_of form) parts 4 c.index-parts-4.result is c.if-parts-gt4.true c.index-parts-4.is in
    let last = sexp_form text c.index-parts-4.result in
    let of = c.sexps_are_forms.ensures.stands text c.index-parts-4.result (part_of text parts 4 c.index-parts-4.result c.requires.each c.if-parts-gt4.true c.index-parts-4.is) in
    told (IsFaultAs (roles.a_list shape) form) c.at-then-parts-gt4.result c.place-then-parts-gt4.result (place_of last) _ c.at-then-parts-gt4.ensures (c.place-then-parts-gt4.ensures text)
    (part_first shape form each s.0 s.1 s.2 only listed 3 last _ BadForm enough clear3 g4 (wrong_first last of.0 of.1 of.2))

pub returns-clause-named : goal.returns-clause-named
returns-clause-named c =
    let text = c.args.text.now in
    let form = sexp_form text c.args.form.now in
    let scope = c.args.scope.now in
    let names = names_of_targets c.args.targets.now in
    let taken = c.args.pool.now ++ pins_of_targets c.args.targets.now in
    let s = c.sexps_are_forms.ensures.stands text c.args.form.now c.requires.of in
    let parts = c.args.parts.now in
    let is = c.requires.listed in
    let shape : Shape = roles.set scope names taken in
    let second : Option Sort = target_sort form in
    let each : List Role = set_roles scope names taken form true in
    let listed : (at : ℕ) → shape_part shape form at ≡ listed_role each at = λ at. ap (λ b. listed_role (set_roles scope names taken form b) at) c.requires.pinned in
    let least : least_parts shape form ≡ 4 = ap (λ b. if b then 4 else 3) c.requires.pinned in
    let only = set_only scope names taken form in
    let count = count_form text form (place_of form) parts is in
    let enough : length (parts_of form) < least_parts shape form → ⊥ = λ l. (let f = c.if-parts-lt4.false in omega (arith, count, least, l, f)) in
    let none = clear_none shape form each s.0 s.1 s.2 only listed in
    let g1 = nth_part text form (place_of form) parts 1 c.index-parts-1.result is (let f = c.if-parts-lt4.false in omega (arith, f)) c.index-parts-1.is in
    let clear1 = clear_more shape form each s.0 s.1 s.2 only listed 0 (sexp_form text c.index-parts-1.result) none g1 (fresh_name_clear _ _ c.in_ok-bytes.bytes.now c.in_ok-bytes.ensures.named c.in_ok-bytes.ensures.fresh) in
    let named = target_told form _ c.in_ok-bytes.bytes.now g1 c.in_ok-bytes.ensures.named in
    let g2 = nth_part text form (place_of form) parts 2 c.index-parts-2.result is (let f = c.if-parts-lt4.false in omega (arith, f)) c.index-parts-2.is in
    let role : pin_role taken (Some c.in_ok-bytes.bytes.now) ≡ pin_role taken (second_name form) = ap (pin_role taken) (sym named) in
    named ∙ ap Some (sym c.in_ok-name.ensures)

pub returns-clause-value : goal.returns-clause-value
returns-clause-value c =
    let text = c.args.text.now in
    let form = sexp_form text c.args.form.now in
    let scope = c.args.scope.now in
    let names = names_of_targets c.args.targets.now in
    let taken = c.args.pool.now ++ pins_of_targets c.args.targets.now in
    let s = c.sexps_are_forms.ensures.stands text c.args.form.now c.requires.of in
    let parts = c.args.parts.now in
    let is = c.requires.listed in
    let shape : Shape = roles.set scope names taken in
    let second : Option Sort = target_sort form in
    let each : List Role = set_roles scope names taken form true in
    let listed : (at : ℕ) → shape_part shape form at ≡ listed_role each at = λ at. ap (λ b. listed_role (set_roles scope names taken form b) at) c.requires.pinned in
    let least : least_parts shape form ≡ 4 = ap (λ b. if b then 4 else 3) c.requires.pinned in
    let only = set_only scope names taken form in
    let count = count_form text form (place_of form) parts is in
    let enough : length (parts_of form) < least_parts shape form → ⊥ = λ l. (let f = c.if-parts-lt4.false in omega (arith, count, least, l, f)) in
    let none = clear_none shape form each s.0 s.1 s.2 only listed in
    let g1 = nth_part text form (place_of form) parts 1 c.index-parts-1.result is (let f = c.if-parts-lt4.false in omega (arith, f)) c.index-parts-1.is in
    let clear1 = clear_more shape form each s.0 s.1 s.2 only listed 0 (sexp_form text c.index-parts-1.result) none g1 (fresh_name_clear _ _ c.in_ok-bytes.bytes.now c.in_ok-bytes.ensures.named c.in_ok-bytes.ensures.fresh) in
    let named = target_told form _ c.in_ok-bytes.bytes.now g1 c.in_ok-bytes.ensures.named in
    let g2 = nth_part text form (place_of form) parts 2 c.index-parts-2.result is (let f = c.if-parts-lt4.false in omega (arith, f)) c.index-parts-2.is in
    let role : pin_role taken (Some c.in_ok-bytes.bytes.now) ≡ pin_role taken (second_name form) = ap (pin_role taken) (sym named) in
    let word : pin_role taken (second_name form) ≡ fresh_register taken = sym role ∙ ap (λ b. if b then wrong else fresh_register taken) c.in_ok-register.ensures.word in
    let pin_is_clear = subst (λ (r : Role). IsClear r (sexp_form text c.index-parts-2.result)) (sym word) (fresh_register_clear taken _ c.in_ok-register.register c.in_ok-register.ensures.register c.in_ok-register.ensures.fresh) in
    let clear2 = clear_more shape form each s.0 s.1 s.2 only listed 1 (sexp_form text c.index-parts-2.result) clear1 g2 pin_is_clear in
    let g3 = nth_part text form (place_of form) parts 3 c.index-parts-3.result is (let f = c.if-parts-lt4.false in omega (arith, f)) c.index-parts-3.is in
    let sorted : Some c.sort_wanted-sort.result ≡ second = ap Some c.sort_wanted-sort.ensures ∙ target_sort_told form c.in_ok-bytes.bytes.now named in
    let right = subst (λ w. WritesTerm scope w (sexp_form text c.index-parts-3.result) (tree_of c.in_ok-value.value)) sorted c.in_ok-value.ensures.term in
    let clear3 = clear_more shape form each s.0 s.1 s.2 only listed 2 (sexp_form text c.index-parts-3.result) clear2 g3 (writes_clear right.writes second right.wanted_one) in
    let at : value_part form ≡ 3 = ap (λ b. if b then 3 else 2) c.requires.pinned in
    let there : WritesPart scope second form 3 (tree_of c.in_ok-value.value) = record { part = sexp_form text c.index-parts-3.result; found = g3; writes = right } in
    let at_value = subst (λ n. WritesPart scope second form n (tree_of c.in_ok-value.value)) (sym at) there in
    let sort : second ≡ Some (sort_of_target c.in_ok-name.name) = sym (target_sort_told form c.in_ok-bytes.bytes.now named) ∙ ap (λ n. Some (sort_of_target n)) (sym c.in_ok-name.ensures) in
    subst (λ w. WritesPart scope w form (value_part form) (tree_of c.in_ok-value.value)) sort at_value

pub returns-clause-pin : goal.returns-clause-pin
returns-clause-pin c =
    let text = c.args.text.now in
    let form = sexp_form text c.args.form.now in
    let scope = c.args.scope.now in
    let names = names_of_targets c.args.targets.now in
    let taken = c.args.pool.now ++ pins_of_targets c.args.targets.now in
    let s = c.sexps_are_forms.ensures.stands text c.args.form.now c.requires.of in
    let parts = c.args.parts.now in
    let is = c.requires.listed in
    let shape : Shape = roles.set scope names taken in
    let second : Option Sort = target_sort form in
    let each : List Role = set_roles scope names taken form true in
    let listed : (at : ℕ) → shape_part shape form at ≡ listed_role each at = λ at. ap (λ b. listed_role (set_roles scope names taken form b) at) c.requires.pinned in
    let least : least_parts shape form ≡ 4 = ap (λ b. if b then 4 else 3) c.requires.pinned in
    let only = set_only scope names taken form in
    let count = count_form text form (place_of form) parts is in
    let enough : length (parts_of form) < least_parts shape form → ⊥ = λ l. (let f = c.if-parts-lt4.false in omega (arith, count, least, l, f)) in
    let none = clear_none shape form each s.0 s.1 s.2 only listed in
    let g1 = nth_part text form (place_of form) parts 1 c.index-parts-1.result is (let f = c.if-parts-lt4.false in omega (arith, f)) c.index-parts-1.is in
    let clear1 = clear_more shape form each s.0 s.1 s.2 only listed 0 (sexp_form text c.index-parts-1.result) none g1 (fresh_name_clear _ _ c.in_ok-bytes.bytes.now c.in_ok-bytes.ensures.named c.in_ok-bytes.ensures.fresh) in
    let named = target_told form _ c.in_ok-bytes.bytes.now g1 c.in_ok-bytes.ensures.named in
    let g2 = nth_part text form (place_of form) parts 2 c.index-parts-2.result is (let f = c.if-parts-lt4.false in omega (arith, f)) c.index-parts-2.is in
    let role : pin_role taken (Some c.in_ok-bytes.bytes.now) ≡ pin_role taken (second_name form) = ap (pin_role taken) (sym named) in
    ap (λ f. f >>= register_of) g2 ∙ c.in_ok-register.ensures.register

pub returns-clause-clear : goal.returns-clause-clear
returns-clause-clear c =
    let text = c.args.text.now in
    let form = sexp_form text c.args.form.now in
    let scope = c.args.scope.now in
    let names = names_of_targets c.args.targets.now in
    let taken = c.args.pool.now ++ pins_of_targets c.args.targets.now in
    let s = c.sexps_are_forms.ensures.stands text c.args.form.now c.requires.of in
    let parts = c.args.parts.now in
    let is = c.requires.listed in
    let shape : Shape = roles.set scope names taken in
    let second : Option Sort = target_sort form in
    let each : List Role = set_roles scope names taken form true in
    let listed : (at : ℕ) → shape_part shape form at ≡ listed_role each at = λ at. ap (λ b. listed_role (set_roles scope names taken form b) at) c.requires.pinned in
    let least : least_parts shape form ≡ 4 = ap (λ b. if b then 4 else 3) c.requires.pinned in
    let only = set_only scope names taken form in
    let count = count_form text form (place_of form) parts is in
    let enough : length (parts_of form) < least_parts shape form → ⊥ = λ l. (let f = c.if-parts-lt4.false in omega (arith, count, least, l, f)) in
    let none = clear_none shape form each s.0 s.1 s.2 only listed in
    let g1 = nth_part text form (place_of form) parts 1 c.index-parts-1.result is (let f = c.if-parts-lt4.false in omega (arith, f)) c.index-parts-1.is in
    let clear1 = clear_more shape form each s.0 s.1 s.2 only listed 0 (sexp_form text c.index-parts-1.result) none g1 (fresh_name_clear _ _ c.in_ok-bytes.bytes.now c.in_ok-bytes.ensures.named c.in_ok-bytes.ensures.fresh) in
    let named = target_told form _ c.in_ok-bytes.bytes.now g1 c.in_ok-bytes.ensures.named in
    let g2 = nth_part text form (place_of form) parts 2 c.index-parts-2.result is (let f = c.if-parts-lt4.false in omega (arith, f)) c.index-parts-2.is in
    let role : pin_role taken (Some c.in_ok-bytes.bytes.now) ≡ pin_role taken (second_name form) = ap (pin_role taken) (sym named) in
    let word : pin_role taken (second_name form) ≡ fresh_register taken = sym role ∙ ap (λ b. if b then wrong else fresh_register taken) c.in_ok-register.ensures.word in
    let pin_is_clear = subst (λ (r : Role). IsClear r (sexp_form text c.index-parts-2.result)) (sym word) (fresh_register_clear taken _ c.in_ok-register.register c.in_ok-register.ensures.register c.in_ok-register.ensures.fresh) in
    let clear2 = clear_more shape form each s.0 s.1 s.2 only listed 1 (sexp_form text c.index-parts-2.result) clear1 g2 pin_is_clear in
    let g3 = nth_part text form (place_of form) parts 3 c.index-parts-3.result is (let f = c.if-parts-lt4.false in omega (arith, f)) c.index-parts-3.is in
    let sorted : Some c.sort_wanted-sort.result ≡ second = ap Some c.sort_wanted-sort.ensures ∙ target_sort_told form c.in_ok-bytes.bytes.now named in
    let right = subst (λ w. WritesTerm scope w (sexp_form text c.index-parts-3.result) (tree_of c.in_ok-value.value)) sorted c.in_ok-value.ensures.term in
    let clear3 = clear_more shape form each s.0 s.1 s.2 only listed 2 (sexp_form text c.index-parts-3.result) clear2 g3 (writes_clear right.writes second right.wanted_one) in
    whole_clear shape form each s.0 s.1 s.2 only listed 3 enough (let f = c.if-parts-gt4.false in omega (arith, count, f)) clear3
