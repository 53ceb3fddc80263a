use Rattle.std.proofs.Common.{◌≡◌, ℕ, ◌<◌, ◌++◌, if◌then◌else◌, false, List, Option, Some, length, sym, ◌∙◌, ap, subst, arith}
use Rattle.std.proofs.lemmas.Result.{err_from_is_err_and}
use Rattle.word_ops.specs.declared.sorts.Sort.{Sort}
use Rattle.word_terms.specs.View.{tree_of}
use Rattle.text_core.specs.declared.faults.Kind.TheVariants.{BadForm}
use Rattle.text_core.specs.Faults.{IsFirst, IsFaultBy}
use Rattle.forms.specs.Forms.{place_of, sexp_form, parts_of}
use Rattle.forms.proofs.Told.{told, told_of_part}
use Rattle.goal_reader.specs.Roles as roles
use Rattle.goal_reader.specs.Roles.{Role, Shape, IsFaultAs, WritesTerm, least_parts, listed_role, set_roles, shape_part, target_sort, value_part}
use Rattle.goal_reader.specs.Reading.{WritesPart, names_of_targets, pins_of_targets}
use Rattle.goal_meaning.specs.WellFormed.{sort_of_target}
use Rattle.goal_reader.proofs.Fixed.{clear_none, clear_more, part_first, whole_clear, wrong_first}
use Rattle.goal_reader.proofs.NewNames.{nth_part, part_of, count_form, set_only, fresh_name_clear, target_told, target_sort_told, no_pin_in}
use Rattle.goal_reader.proofs.Apart.{writes_clear}
use Rattle.goal_reader.proofs.targets.unpinned.Goals as goal

pub returns-in_err-bytes-clause-fault : goal.returns-in_err-bytes-clause-fault
returns-in_err-bytes-clause-fault c =
    let p = err_from_is_err_and c.from_residual.result c.from_residual.ensures.1 in
    let text = c.args.text.now in
    let form = sexp_form text c.args.form.now in
    let scope = c.args.scope.now in
    let names = names_of_targets c.args.targets.now in
    let taken = c.args.pool.now ++ pins_of_targets c.args.targets.now in
    let s = c.sexps_are_forms.ensures.stands text c.args.form.now c.requires.of in
    let parts = c.args.parts.now in
    let is = c.requires.listed in
    let shape : Shape = roles.set scope names taken in
    let second : Option Sort = target_sort form in
    let each : List Role = set_roles scope names taken form false in
    let listed : (at : ℕ) → shape_part shape form at ≡ listed_role each at = λ at. ap (λ b. listed_role (set_roles scope names taken form b) at) c.requires.unpinned in
    let least : least_parts shape form ≡ 3 = ap (λ b. if b then 4 else 3) c.requires.unpinned in
    let only = set_only scope names taken form in
    let count = count_form text form (place_of form) parts is in
    let enough : length (parts_of form) < least_parts shape form → ⊥ = λ l. (let f = c.requires.enough in omega (arith, count, least, l, f)) in
    let none = clear_none shape form each s.0 s.1 s.2 only listed in
    let g1 = nth_part text form (place_of form) parts 1 c.index-parts-1.result is (let f = c.requires.enough in omega (arith, f)) c.index-parts-1.is in
    rw (p.1, p.2)
    (told_of_part (IsFaultAs (roles.fresh_name names) (sexp_form text c.index-parts-1.result)) (IsFaultAs (roles.a_list shape) form)
    (λ p k first. part_first shape form each s.0 s.1 s.2 only listed 0 (sexp_form text c.index-parts-1.result) p k enough none g1 first) c.in_err-bytes.field-0.0 c.in_err-bytes.ensures.fault)

pub returns-in_err-value-clause-fault : goal.returns-in_err-value-clause-fault
returns-in_err-value-clause-fault c =
    let p = err_from_is_err_and c.from_residual-in_err-value.result c.from_residual-in_err-value.ensures.1 in
    let text = c.args.text.now in
    let form = sexp_form text c.args.form.now in
    let scope = c.args.scope.now in
    let names = names_of_targets c.args.targets.now in
    let taken = c.args.pool.now ++ pins_of_targets c.args.targets.now in
    let s = c.sexps_are_forms.ensures.stands text c.args.form.now c.requires.of in
    let parts = c.args.parts.now in
    let is = c.requires.listed in
    let shape : Shape = roles.set scope names taken in
    let second : Option Sort = target_sort form in
    let each : List Role = set_roles scope names taken form false in
    let listed : (at : ℕ) → shape_part shape form at ≡ listed_role each at = λ at. ap (λ b. listed_role (set_roles scope names taken form b) at) c.requires.unpinned in
    let least : least_parts shape form ≡ 3 = ap (λ b. if b then 4 else 3) c.requires.unpinned in
    let only = set_only scope names taken form in
    let count = count_form text form (place_of form) parts is in
    let enough : length (parts_of form) < least_parts shape form → ⊥ = λ l. (let f = c.requires.enough in omega (arith, count, least, l, f)) in
    let none = clear_none shape form each s.0 s.1 s.2 only listed in
    let g1 = nth_part text form (place_of form) parts 1 c.index-parts-1.result is (let f = c.requires.enough in omega (arith, f)) c.index-parts-1.is in
    let clear1 = clear_more shape form each s.0 s.1 s.2 only listed 0 (sexp_form text c.index-parts-1.result) none g1 (fresh_name_clear _ _ c.in_ok-bytes.bytes.now c.in_ok-bytes.ensures.named c.in_ok-bytes.ensures.fresh) in
    let named = target_told form _ c.in_ok-bytes.bytes.now g1 c.in_ok-bytes.ensures.named in
    let g2 = nth_part text form (place_of form) parts 2 c.index-parts-2.result is (let f = c.requires.enough in omega (arith, f)) c.index-parts-2.is in
    let sorted : Some c.sort_wanted-sort.result ≡ second = ap Some c.sort_wanted-sort.ensures ∙ target_sort_told form c.in_ok-bytes.bytes.now named in
    let told = subst (λ w. IsFaultBy (IsFirst (IsFaultAs (roles.term scope w) (sexp_form text c.index-parts-2.result))) c.in_err-value.field-0.0) sorted c.in_err-value.ensures.fault in
    rw (p.1, p.2)
    (told_of_part (IsFaultAs (roles.term scope second) (sexp_form text c.index-parts-2.result)) (IsFaultAs (roles.a_list shape) form)
    (λ p k first. part_first shape form each s.0 s.1 s.2 only listed 1 (sexp_form text c.index-parts-2.result) p k enough clear1 g2 first) c.in_err-value.field-0.0 told)

pub returns-then-parts-gt3-clause-fault : goal.returns-then-parts-gt3-clause-fault
returns-then-parts-gt3-clause-fault c =
    let text = c.args.text.now in
    let form = sexp_form text c.args.form.now in
    let scope = c.args.scope.now in
    let names = names_of_targets c.args.targets.now in
    let taken = c.args.pool.now ++ pins_of_targets c.args.targets.now in
    let s = c.sexps_are_forms.ensures.stands text c.args.form.now c.requires.of in
    let parts = c.args.parts.now in
    let is = c.requires.listed in
    let shape : Shape = roles.set scope names taken in
    let second : Option Sort = target_sort form in
    let each : List Role = set_roles scope names taken form false in
    let listed : (at : ℕ) → shape_part shape form at ≡ listed_role each at = λ at. ap (λ b. listed_role (set_roles scope names taken form b) at) c.requires.unpinned in
    let least : least_parts shape form ≡ 3 = ap (λ b. if b then 4 else 3) c.requires.unpinned in
    let only = set_only scope names taken form in
    let count = count_form text form (place_of form) parts is in
    let enough : length (parts_of form) < least_parts shape form → ⊥ = λ l. (let f = c.requires.enough in omega (arith, count, least, l, f)) in
    let none = clear_none shape form each s.0 s.1 s.2 only listed in
    let g1 = nth_part text form (place_of form) parts 1 c.index-parts-1.result is (let f = c.requires.enough in omega (arith, f)) c.index-parts-1.is in
    let clear1 = clear_more shape form each s.0 s.1 s.2 only listed 0 (sexp_form text c.index-parts-1.result) none g1 (fresh_name_clear _ _ c.in_ok-bytes.bytes.now c.in_ok-bytes.ensures.named c.in_ok-bytes.ensures.fresh) in
    let named = target_told form _ c.in_ok-bytes.bytes.now g1 c.in_ok-bytes.ensures.named in
    let g2 = nth_part text form (place_of form) parts 2 c.index-parts-2.result is (let f = c.requires.enough in omega (arith, f)) c.index-parts-2.is in
    let sorted : Some c.sort_wanted-sort.result ≡ second = ap Some c.sort_wanted-sort.ensures ∙ target_sort_told form c.in_ok-bytes.bytes.now named in
    let right = subst (λ w. WritesTerm scope w (sexp_form text c.index-parts-2.result) (tree_of c.in_ok-value.value)) sorted c.in_ok-value.ensures.term in
    let clear2 = clear_more shape form each s.0 s.1 s.2 only listed 1 (sexp_form text c.index-parts-2.result) clear1 g2 (writes_clear right.writes second right.wanted_one) in
    let g3 = nth_part text form (place_of form) parts 3 c.index-parts-3.result is c.if-parts-gt3.true c.index-parts-3.is in
    let last = sexp_form text c.index-parts-3.result in
    let of = c.sexps_are_forms.ensures.stands text c.index-parts-3.result (part_of text parts 3 c.index-parts-3.result c.requires.each c.if-parts-gt3.true c.index-parts-3.is) in
    told (IsFaultAs (roles.a_list shape) form) c.at.result c.place.result (place_of last) _ c.at.ensures (c.place.ensures text)
    (part_first shape form each s.0 s.1 s.2 only listed 2 last _ BadForm enough clear2 g3 (wrong_first last of.0 of.1 of.2))

pub returns-clause-named : goal.returns-clause-named
returns-clause-named c =
    let text = c.args.text.now in
    let form = sexp_form text c.args.form.now in
    let scope = c.args.scope.now in
    let names = names_of_targets c.args.targets.now in
    let taken = c.args.pool.now ++ pins_of_targets c.args.targets.now in
    let s = c.sexps_are_forms.ensures.stands text c.args.form.now c.requires.of in
    let parts = c.args.parts.now in
    let is = c.requires.listed in
    let shape : Shape = roles.set scope names taken in
    let second : Option Sort = target_sort form in
    let each : List Role = set_roles scope names taken form false in
    let listed : (at : ℕ) → shape_part shape form at ≡ listed_role each at = λ at. ap (λ b. listed_role (set_roles scope names taken form b) at) c.requires.unpinned in
    let least : least_parts shape form ≡ 3 = ap (λ b. if b then 4 else 3) c.requires.unpinned in
    let only = set_only scope names taken form in
    let count = count_form text form (place_of form) parts is in
    let enough : length (parts_of form) < least_parts shape form → ⊥ = λ l. (let f = c.requires.enough in omega (arith, count, least, l, f)) in
    let none = clear_none shape form each s.0 s.1 s.2 only listed in
    let g1 = nth_part text form (place_of form) parts 1 c.index-parts-1.result is (let f = c.requires.enough in omega (arith, f)) c.index-parts-1.is in
    let clear1 = clear_more shape form each s.0 s.1 s.2 only listed 0 (sexp_form text c.index-parts-1.result) none g1 (fresh_name_clear _ _ c.in_ok-bytes.bytes.now c.in_ok-bytes.ensures.named c.in_ok-bytes.ensures.fresh) in
    let named = target_told form _ c.in_ok-bytes.bytes.now g1 c.in_ok-bytes.ensures.named in
    let g2 = nth_part text form (place_of form) parts 2 c.index-parts-2.result is (let f = c.requires.enough in omega (arith, f)) c.index-parts-2.is in
    let sorted : Some c.sort_wanted-sort.result ≡ second = ap Some c.sort_wanted-sort.ensures ∙ target_sort_told form c.in_ok-bytes.bytes.now named in
    let right = subst (λ w. WritesTerm scope w (sexp_form text c.index-parts-2.result) (tree_of c.in_ok-value.value)) sorted c.in_ok-value.ensures.term in
    let clear2 = clear_more shape form each s.0 s.1 s.2 only listed 1 (sexp_form text c.index-parts-2.result) clear1 g2 (writes_clear right.writes second right.wanted_one) in
    named ∙ ap Some (sym c.in_ok-name.ensures)

pub returns-clause-value : goal.returns-clause-value
returns-clause-value c =
    let text = c.args.text.now in
    let form = sexp_form text c.args.form.now in
    let scope = c.args.scope.now in
    let names = names_of_targets c.args.targets.now in
    let taken = c.args.pool.now ++ pins_of_targets c.args.targets.now in
    let s = c.sexps_are_forms.ensures.stands text c.args.form.now c.requires.of in
    let parts = c.args.parts.now in
    let is = c.requires.listed in
    let shape : Shape = roles.set scope names taken in
    let second : Option Sort = target_sort form in
    let each : List Role = set_roles scope names taken form false in
    let listed : (at : ℕ) → shape_part shape form at ≡ listed_role each at = λ at. ap (λ b. listed_role (set_roles scope names taken form b) at) c.requires.unpinned in
    let least : least_parts shape form ≡ 3 = ap (λ b. if b then 4 else 3) c.requires.unpinned in
    let only = set_only scope names taken form in
    let count = count_form text form (place_of form) parts is in
    let enough : length (parts_of form) < least_parts shape form → ⊥ = λ l. (let f = c.requires.enough in omega (arith, count, least, l, f)) in
    let none = clear_none shape form each s.0 s.1 s.2 only listed in
    let g1 = nth_part text form (place_of form) parts 1 c.index-parts-1.result is (let f = c.requires.enough in omega (arith, f)) c.index-parts-1.is in
    let clear1 = clear_more shape form each s.0 s.1 s.2 only listed 0 (sexp_form text c.index-parts-1.result) none g1 (fresh_name_clear _ _ c.in_ok-bytes.bytes.now c.in_ok-bytes.ensures.named c.in_ok-bytes.ensures.fresh) in
    let named = target_told form _ c.in_ok-bytes.bytes.now g1 c.in_ok-bytes.ensures.named in
    let g2 = nth_part text form (place_of form) parts 2 c.index-parts-2.result is (let f = c.requires.enough in omega (arith, f)) c.index-parts-2.is in
    let sorted : Some c.sort_wanted-sort.result ≡ second = ap Some c.sort_wanted-sort.ensures ∙ target_sort_told form c.in_ok-bytes.bytes.now named in
    let right = subst (λ w. WritesTerm scope w (sexp_form text c.index-parts-2.result) (tree_of c.in_ok-value.value)) sorted c.in_ok-value.ensures.term in
    let clear2 = clear_more shape form each s.0 s.1 s.2 only listed 1 (sexp_form text c.index-parts-2.result) clear1 g2 (writes_clear right.writes second right.wanted_one) in
    let at : value_part form ≡ 2 = ap (λ b. if b then 3 else 2) c.requires.unpinned in
    let there : WritesPart scope second form 2 (tree_of c.in_ok-value.value) = record { part = sexp_form text c.index-parts-2.result; found = g2; writes = right } in
    let at_value = subst (λ n. WritesPart scope second form n (tree_of c.in_ok-value.value)) (sym at) there in
    let sort : second ≡ Some (sort_of_target c.in_ok-name.name) = sym (target_sort_told form c.in_ok-bytes.bytes.now named) ∙ ap (λ n. Some (sort_of_target n)) (sym c.in_ok-name.ensures) in
    subst (λ w. WritesPart scope w form (value_part form) (tree_of c.in_ok-value.value)) sort at_value

pub returns-clause-pin : goal.returns-clause-pin
returns-clause-pin c =
    let text = c.args.text.now in
    let form = sexp_form text c.args.form.now in
    let scope = c.args.scope.now in
    let names = names_of_targets c.args.targets.now in
    let taken = c.args.pool.now ++ pins_of_targets c.args.targets.now in
    let s = c.sexps_are_forms.ensures.stands text c.args.form.now c.requires.of in
    let parts = c.args.parts.now in
    let is = c.requires.listed in
    let shape : Shape = roles.set scope names taken in
    let second : Option Sort = target_sort form in
    let each : List Role = set_roles scope names taken form false in
    let listed : (at : ℕ) → shape_part shape form at ≡ listed_role each at = λ at. ap (λ b. listed_role (set_roles scope names taken form b) at) c.requires.unpinned in
    let least : least_parts shape form ≡ 3 = ap (λ b. if b then 4 else 3) c.requires.unpinned in
    let only = set_only scope names taken form in
    let count = count_form text form (place_of form) parts is in
    let enough : length (parts_of form) < least_parts shape form → ⊥ = λ l. (let f = c.requires.enough in omega (arith, count, least, l, f)) in
    let none = clear_none shape form each s.0 s.1 s.2 only listed in
    let g1 = nth_part text form (place_of form) parts 1 c.index-parts-1.result is (let f = c.requires.enough in omega (arith, f)) c.index-parts-1.is in
    let clear1 = clear_more shape form each s.0 s.1 s.2 only listed 0 (sexp_form text c.index-parts-1.result) none g1 (fresh_name_clear _ _ c.in_ok-bytes.bytes.now c.in_ok-bytes.ensures.named c.in_ok-bytes.ensures.fresh) in
    let named = target_told form _ c.in_ok-bytes.bytes.now g1 c.in_ok-bytes.ensures.named in
    let g2 = nth_part text form (place_of form) parts 2 c.index-parts-2.result is (let f = c.requires.enough in omega (arith, f)) c.index-parts-2.is in
    let sorted : Some c.sort_wanted-sort.result ≡ second = ap Some c.sort_wanted-sort.ensures ∙ target_sort_told form c.in_ok-bytes.bytes.now named in
    let right = subst (λ w. WritesTerm scope w (sexp_form text c.index-parts-2.result) (tree_of c.in_ok-value.value)) sorted c.in_ok-value.ensures.term in
    let clear2 = clear_more shape form each s.0 s.1 s.2 only listed 1 (sexp_form text c.index-parts-2.result) clear1 g2 (writes_clear right.writes second right.wanted_one) in
    no_pin_in form c.requires.unpinned

pub returns-clause-clear : goal.returns-clause-clear
returns-clause-clear c =
    let text = c.args.text.now in
    let form = sexp_form text c.args.form.now in
    let scope = c.args.scope.now in
    let names = names_of_targets c.args.targets.now in
    let taken = c.args.pool.now ++ pins_of_targets c.args.targets.now in
    let s = c.sexps_are_forms.ensures.stands text c.args.form.now c.requires.of in
    let parts = c.args.parts.now in
    let is = c.requires.listed in
    let shape : Shape = roles.set scope names taken in
    let second : Option Sort = target_sort form in
    let each : List Role = set_roles scope names taken form false in
    let listed : (at : ℕ) → shape_part shape form at ≡ listed_role each at = λ at. ap (λ b. listed_role (set_roles scope names taken form b) at) c.requires.unpinned in
    let least : least_parts shape form ≡ 3 = ap (λ b. if b then 4 else 3) c.requires.unpinned in
    let only = set_only scope names taken form in
    let count = count_form text form (place_of form) parts is in
    let enough : length (parts_of form) < least_parts shape form → ⊥ = λ l. (let f = c.requires.enough in omega (arith, count, least, l, f)) in
    let none = clear_none shape form each s.0 s.1 s.2 only listed in
    let g1 = nth_part text form (place_of form) parts 1 c.index-parts-1.result is (let f = c.requires.enough in omega (arith, f)) c.index-parts-1.is in
    let clear1 = clear_more shape form each s.0 s.1 s.2 only listed 0 (sexp_form text c.index-parts-1.result) none g1 (fresh_name_clear _ _ c.in_ok-bytes.bytes.now c.in_ok-bytes.ensures.named c.in_ok-bytes.ensures.fresh) in
    let named = target_told form _ c.in_ok-bytes.bytes.now g1 c.in_ok-bytes.ensures.named in
    let g2 = nth_part text form (place_of form) parts 2 c.index-parts-2.result is (let f = c.requires.enough in omega (arith, f)) c.index-parts-2.is in
    let sorted : Some c.sort_wanted-sort.result ≡ second = ap Some c.sort_wanted-sort.ensures ∙ target_sort_told form c.in_ok-bytes.bytes.now named in
    let right = subst (λ w. WritesTerm scope w (sexp_form text c.index-parts-2.result) (tree_of c.in_ok-value.value)) sorted c.in_ok-value.ensures.term in
    let clear2 = clear_more shape form each s.0 s.1 s.2 only listed 1 (sexp_form text c.index-parts-2.result) clear1 g2 (writes_clear right.writes second right.wanted_one) in
    whole_clear shape form each s.0 s.1 s.2 only listed 2 enough (let f = c.if-parts-gt3.false in omega (arith, count, f)) clear2
