use Rattle.std.proofs.Common.{◌≡◌, ◌≤◌, ◌<◌, ◌++◌, ℕ, List, [], ◌∷◌, Some, true, codes, length, map, take, drop, option_map, sym, ◌∙◌, ap, ap₂, refl, subst, arith}
use Rattle.std.proofs.Math.ListN.{drop_of_length-le}
use Rattle.std.proofs.lemmas.List.{length-map}
use Rattle.std.proofs.lemmas.Result.{err_from_is_err_and}
use Rattle.text_core.specs.Faults.{IsFaultBy, IsFirst}
use Rattle.forms.specs.Forms.{Form, parts_of, place_of, sexp_form, sexp_forms}
use Rattle.forms.proofs.Told.{told, told_as, told_of_part}
use Rattle.goal_meaning.specs.Views.{target_view}
use Rattle.goal_reader.specs.Roles as goal_roles
use Rattle.goal_reader.specs.Roles.{IsFaultAs, items_of_goal}
use Rattle.goal_reader.proofs.NewNames.{nth_part, count_form}
use Rattle.proc_goal.specs.ProcReading.{AreSets, IsEndFront, IsFirstAmong, IsGuardFault, IsGuardRead, IsLastItem}
use Rattle.proc_goal.specs.ProcRoles as roles
use Rattle.proc_goal.specs.ProcRoles.{IsProcFaultAs, has_list, step_role}
use Rattle.proc_goal.specs.Views.{block_view, names_of_blocks, when_view}
use Rattle.proc_goal.proofs.BlockForms.{block_clear, block_item_first, block_name_first, block_writes, count_of, end_first, end_front, front_is, guard_fault_first, items_clear, no_go_first, sets_fault_first, some_left}
use Rattle.proc_goal.proofs.Items.{head_is_list}
use Rattle.proc_goal.proofs.Sequences.{after}
use Rattle.proc_goal.proofs.Slices.{count_forms, forms_dropped, guards_counted, items_behind, sexps_dropped}
use Rattle.proc_goal.proofs.blocks.block.Goals as goal

pub unreachable-requires : goal.unreachable-requires
unreachable-requires c =
    head_is_list (codes "block") (sexp_form c.args.text.now c.args.form.now) c.requires.head (c.in_default.ensures.parts c.args.text.now)

pub returns-then-parts-lt3-clause-fault : goal.returns-then-parts-lt3-clause-fault
returns-then-parts-lt3-clause-fault c =
    let text = c.args.text.now in
    let form = sexp_form text c.args.form.now in
    let s = c.sexps_are_forms.ensures.stands text c.args.form.now c.requires.of in
    let parts = c.in-Some.parts.now in
    let is = c.in-Some.ensures.parts text in
    let vars = c.args.vars.now in
    let names = c.args.names.now in
    let before = names_of_blocks (map block_view c.args.before.now) in
    let count = count_form text form (place_of form) parts is in
    told (IsProcFaultAs (roles.a_block vars names before) form) c.at.result c.place.result (place_of form) _ c.at.ensures (c.place.ensures text)
    (no_go_first vars names before form s.0 s.1 s.2 (ap (has_list (codes "go")) (drop_of_length-le (parts_of form) {i = 2} (let l = c.if-parts-lt3.true in omega (arith, count, l)))))

pub has_list-requires : goal.has_list-requires
has_list-requires c =
    let text = c.args.text.now in
    record { of = sexps_dropped text 2 c.in-Some.parts.now c.behind-items.result.now c.behind-items.ensures (c.in-Some.ensures.of text c.requires.of) }

pub returns-then-not-has_list-clause-fault : goal.returns-then-not-has_list-clause-fault
returns-then-not-has_list-clause-fault c =
    let text = c.args.text.now in
    let form = sexp_form text c.args.form.now in
    let s = c.sexps_are_forms.ensures.stands text c.args.form.now c.requires.of in
    let parts = c.in-Some.parts.now in
    let is = c.in-Some.ensures.parts text in
    let vars = c.args.vars.now in
    let names = c.args.names.now in
    let before = names_of_blocks (map block_view c.args.before.now) in
    let ys = c.behind-items.result.now in
    let items_is = items_behind text form (place_of form) parts ys is c.behind-items.ensures in
    let all = sexps_dropped text 2 parts ys c.behind-items.ensures (c.in-Some.ensures.of text c.requires.of) in
    told (IsProcFaultAs (roles.a_block vars names before) form) c.at-then-not-has_list.result c.place-then-not-has_list.result (place_of form) _ c.at-then-not-has_list.ensures (c.place-then-not-has_list.ensures text)
    (no_go_first vars names before form s.0 s.1 s.2 (ap (has_list (codes "go")) items_is ∙ (sym c.has_list.ensures ∙ c.if-not-has_list.true)))

pub returns-in_err-bytes-clause-fault : goal.returns-in_err-bytes-clause-fault
returns-in_err-bytes-clause-fault c =
    let p = err_from_is_err_and c.from_residual.result c.from_residual.ensures.1 in
    let text = c.args.text.now in
    let form = sexp_form text c.args.form.now in
    let s = c.sexps_are_forms.ensures.stands text c.args.form.now c.requires.of in
    let parts = c.in-Some.parts.now in
    let is = c.in-Some.ensures.parts text in
    let vars = c.args.vars.now in
    let names = c.args.names.now in
    let before = names_of_blocks (map block_view c.args.before.now) in
    let ys = c.behind-items.result.now in
    let items_is = items_behind text form (place_of form) parts ys is c.behind-items.ensures in
    let all = sexps_dropped text 2 parts ys c.behind-items.ensures (c.in-Some.ensures.of text c.requires.of) in
    let go_there : has_list (codes "go") (items_of_goal form) ≡ true = ap (has_list (codes "go")) items_is ∙ (sym c.has_list.ensures ∙ c.if-not-has_list.false) in
    let first = sexp_form text c.index-parts-1.result in
    let g1 = nth_part text form (place_of form) parts 1 c.index-parts-1.result is (let f = c.if-parts-lt3.false in omega (arith, f)) c.index-parts-1.is in
    rw (p.1, p.2)
    (told_of_part (IsFaultAs (goal_roles.fresh_name (codes "done" ∷ before)) first) (IsProcFaultAs (roles.a_block vars names before) form)
    (λ k kind one. block_name_first vars names before form go_there first g1 s.0 s.1 k kind s.2 one) c.in_err-bytes.field-0.0 c.in_err-bytes.ensures.fault)

pub first_guard-requires-clause-of : goal.first_guard-requires-clause-of
first_guard-requires-clause-of c =
    let text = c.args.text.now in
    sexps_dropped text 2 c.in-Some.parts.now c.behind-items.result.now c.behind-items.ensures (c.in-Some.ensures.of text c.requires.of)

pub returns-in_err-when-clause-fault : goal.returns-in_err-when-clause-fault
returns-in_err-when-clause-fault c =
    let p = err_from_is_err_and c.from_residual-in_err-when.result c.from_residual-in_err-when.ensures.1 in
    let text = c.args.text.now in
    let form = sexp_form text c.args.form.now in
    let s = c.sexps_are_forms.ensures.stands text c.args.form.now c.requires.of in
    let parts = c.in-Some.parts.now in
    let is = c.in-Some.ensures.parts text in
    let vars = c.args.vars.now in
    let names = c.args.names.now in
    let before = names_of_blocks (map block_view c.args.before.now) in
    let ys = c.behind-items.result.now in
    let items_is = items_behind text form (place_of form) parts ys is c.behind-items.ensures in
    let all = sexps_dropped text 2 parts ys c.behind-items.ensures (c.in-Some.ensures.of text c.requires.of) in
    let go_there : has_list (codes "go") (items_of_goal form) ≡ true = ap (has_list (codes "go")) items_is ∙ (sym c.has_list.ensures ∙ c.if-not-has_list.false) in
    let first = sexp_form text c.index-parts-1.result in
    let g1 = nth_part text form (place_of form) parts 1 c.index-parts-1.result is (let f = c.if-parts-lt3.false in omega (arith, f)) c.index-parts-1.is in
    let bytes = c.in_ok-bytes.bytes.now in
    let named = c.in_ok-bytes.ensures.named in
    let fresh = c.in_ok-bytes.ensures.fresh in
    let items = items_of_goal form in
    rw (p.1, p.2)
    (told_as (IsGuardFault vars names (sexp_forms text ys)) (IsFirst (IsProcFaultAs (roles.a_block vars names before) form))
    (λ k kind one. block_item_first vars names before form go_there first g1 bytes named fresh s.0 s.1 k kind s.2
    (subst (λ fs. IsFirstAmong (step_role vars names) fs k kind) (sym items_is) (guard_fault_first vars names (sexp_forms text ys) k kind one))) c.in_err-when.field-0.0 c.in_err-when.ensures.fault)

pub sets-requires : goal.sets-requires
sets-requires c =
    let text = c.args.text.now in
    let form = sexp_form text c.args.form.now in
    let s = c.sexps_are_forms.ensures.stands text c.args.form.now c.requires.of in
    let parts = c.in-Some.parts.now in
    let is = c.in-Some.ensures.parts text in
    let vars = c.args.vars.now in
    let names = c.args.names.now in
    let before = names_of_blocks (map block_view c.args.before.now) in
    let ys = c.behind-items.result.now in
    let items_is = items_behind text form (place_of form) parts ys is c.behind-items.ensures in
    let all = sexps_dropped text 2 parts ys c.behind-items.ensures (c.in-Some.ensures.of text c.requires.of) in
    record { of = sexps_dropped text c.from.result ys c.behind-steps.result.now c.behind-steps.ensures all }

pub returns-in_err-sets-clause-fault : goal.returns-in_err-sets-clause-fault
returns-in_err-sets-clause-fault c =
    let p = err_from_is_err_and c.from_residual-in_err-sets.result c.from_residual-in_err-sets.ensures.1 in
    let text = c.args.text.now in
    let form = sexp_form text c.args.form.now in
    let s = c.sexps_are_forms.ensures.stands text c.args.form.now c.requires.of in
    let parts = c.in-Some.parts.now in
    let is = c.in-Some.ensures.parts text in
    let vars = c.args.vars.now in
    let names = c.args.names.now in
    let before = names_of_blocks (map block_view c.args.before.now) in
    let ys = c.behind-items.result.now in
    let items_is = items_behind text form (place_of form) parts ys is c.behind-items.ensures in
    let all = sexps_dropped text 2 parts ys c.behind-items.ensures (c.in-Some.ensures.of text c.requires.of) in
    let go_there : has_list (codes "go") (items_of_goal form) ≡ true = ap (has_list (codes "go")) items_is ∙ (sym c.has_list.ensures ∙ c.if-not-has_list.false) in
    let first = sexp_form text c.index-parts-1.result in
    let g1 = nth_part text form (place_of form) parts 1 c.index-parts-1.result is (let f = c.if-parts-lt3.false in omega (arith, f)) c.index-parts-1.is in
    let bytes = c.in_ok-bytes.bytes.now in
    let named = c.in_ok-bytes.ensures.named in
    let fresh = c.in_ok-bytes.ensures.fresh in
    let items = items_of_goal form in
    let when = option_map when_view c.in_ok-when.when in
    let read = subst (λ fs. IsGuardRead vars names fs when) (sym items_is) c.in_ok-when.ensures.guard in
    let n = count_of vars names items when in
    let f = front_is vars names items when read in
    let zs = c.behind-steps.result.now in
    let guards : c.from.result ≡ n = guards_counted vars names items c.in_ok-when.when c.from.result c.is_some.result c.from.ensures c.is_some.ensures in
    let steps_are : sexp_forms text zs ≡ drop n items = forms_dropped text c.from.result ys zs c.behind-steps.ensures ∙ ap₂ drop guards (sym items_is) in
    let each = sexps_dropped text c.from.result ys zs c.behind-steps.ensures all in
    let fault = c.in_err-sets.ensures.fault names (take n items) f.front in
    rw (p.1, p.2)
    (told_as (IsFirstAmong (after (take n items) (step_role vars names)) (sexp_forms text zs)) (IsFirst (IsProcFaultAs (roles.a_block vars names before) form))
    (λ k kind one. block_item_first vars names before form go_there first g1 bytes named fresh s.0 s.1 k kind s.2
    (sets_fault_first vars names items n when f k kind (subst (λ fs. IsFirstAmong (after (take n items) (step_role vars names)) fs k kind) steps_are one))) c.in_err-sets.field-0.0 fault)

pub end-requires-clause-of : goal.end-requires-clause-of
end-requires-clause-of c =
    let text = c.args.text.now in
    let form = sexp_form text c.args.form.now in
    let s = c.sexps_are_forms.ensures.stands text c.args.form.now c.requires.of in
    let parts = c.in-Some.parts.now in
    let is = c.in-Some.ensures.parts text in
    let vars = c.args.vars.now in
    let names = c.args.names.now in
    let before = names_of_blocks (map block_view c.args.before.now) in
    let ys = c.behind-items.result.now in
    let items_is = items_behind text form (place_of form) parts ys is c.behind-items.ensures in
    let all = sexps_dropped text 2 parts ys c.behind-items.ensures (c.in-Some.ensures.of text c.requires.of) in
    let zs = c.behind-steps.result.now in
    let each = sexps_dropped text c.from.result ys zs c.behind-steps.ensures all in
    sexps_dropped text c.len.result zs c.behind.result.now c.behind.ensures each

pub end-requires-clause-there : goal.end-requires-clause-there
end-requires-clause-there c =
    let text = c.args.text.now in
    let form = sexp_form text c.args.form.now in
    let s = c.sexps_are_forms.ensures.stands text c.args.form.now c.requires.of in
    let parts = c.in-Some.parts.now in
    let is = c.in-Some.ensures.parts text in
    let vars = c.args.vars.now in
    let names = c.args.names.now in
    let before = names_of_blocks (map block_view c.args.before.now) in
    let ys = c.behind-items.result.now in
    let items_is = items_behind text form (place_of form) parts ys is c.behind-items.ensures in
    let all = sexps_dropped text 2 parts ys c.behind-items.ensures (c.in-Some.ensures.of text c.requires.of) in
    let go_there : has_list (codes "go") (items_of_goal form) ≡ true = ap (has_list (codes "go")) items_is ∙ (sym c.has_list.ensures ∙ c.if-not-has_list.false) in
    let first = sexp_form text c.index-parts-1.result in
    let g1 = nth_part text form (place_of form) parts 1 c.index-parts-1.result is (let f = c.if-parts-lt3.false in omega (arith, f)) c.index-parts-1.is in
    let bytes = c.in_ok-bytes.bytes.now in
    let named = c.in_ok-bytes.ensures.named in
    let fresh = c.in_ok-bytes.ensures.fresh in
    let items = items_of_goal form in
    let when = option_map when_view c.in_ok-when.when in
    let read = subst (λ fs. IsGuardRead vars names fs when) (sym items_is) c.in_ok-when.ensures.guard in
    let n = count_of vars names items when in
    let f = front_is vars names items when read in
    let zs = c.behind-steps.result.now in
    let guards : c.from.result ≡ n = guards_counted vars names items c.in_ok-when.when c.from.result c.is_some.result c.from.ensures c.is_some.ensures in
    let steps_are : sexp_forms text zs ≡ drop n items = forms_dropped text c.from.result ys zs c.behind-steps.ensures ∙ ap₂ drop guards (sym items_is) in
    let each = sexps_dropped text c.from.result ys zs c.behind-steps.ensures all in
    let ts = map target_view c.in_ok-sets.sets in
    let sets_read = subst (λ fs. AreSets vars fs ts) steps_are c.in_ok-sets.ensures.sets in
    let counted : c.len.result ≡ length ts = c.len.ensures ∙ sym (length-map c.in_ok-sets.sets target_view) in
    let rest = c.behind.result.now in
    let rest_is : sexp_forms text rest ≡ drop (length ts) (drop n items) = forms_dropped text c.len.result zs rest c.behind.ensures ∙ ap₂ drop counted steps_are in
    let some = some_left vars names items n when f ts sets_read go_there in
    let same = sym (count_forms text rest) ∙ ap length rest_is in
    omega (arith, some, same)

pub returns-in_err-go-clause-fault : goal.returns-in_err-go-clause-fault
returns-in_err-go-clause-fault c =
    let p = err_from_is_err_and c.from_residual-in_err-go.result c.from_residual-in_err-go.ensures.1 in
    let text = c.args.text.now in
    let form = sexp_form text c.args.form.now in
    let s = c.sexps_are_forms.ensures.stands text c.args.form.now c.requires.of in
    let parts = c.in-Some.parts.now in
    let is = c.in-Some.ensures.parts text in
    let vars = c.args.vars.now in
    let names = c.args.names.now in
    let before = names_of_blocks (map block_view c.args.before.now) in
    let ys = c.behind-items.result.now in
    let items_is = items_behind text form (place_of form) parts ys is c.behind-items.ensures in
    let all = sexps_dropped text 2 parts ys c.behind-items.ensures (c.in-Some.ensures.of text c.requires.of) in
    let go_there : has_list (codes "go") (items_of_goal form) ≡ true = ap (has_list (codes "go")) items_is ∙ (sym c.has_list.ensures ∙ c.if-not-has_list.false) in
    let first = sexp_form text c.index-parts-1.result in
    let g1 = nth_part text form (place_of form) parts 1 c.index-parts-1.result is (let f = c.if-parts-lt3.false in omega (arith, f)) c.index-parts-1.is in
    let bytes = c.in_ok-bytes.bytes.now in
    let named = c.in_ok-bytes.ensures.named in
    let fresh = c.in_ok-bytes.ensures.fresh in
    let items = items_of_goal form in
    let when = option_map when_view c.in_ok-when.when in
    let read = subst (λ fs. IsGuardRead vars names fs when) (sym items_is) c.in_ok-when.ensures.guard in
    let n = count_of vars names items when in
    let f = front_is vars names items when read in
    let zs = c.behind-steps.result.now in
    let guards : c.from.result ≡ n = guards_counted vars names items c.in_ok-when.when c.from.result c.is_some.result c.from.ensures c.is_some.ensures in
    let steps_are : sexp_forms text zs ≡ drop n items = forms_dropped text c.from.result ys zs c.behind-steps.ensures ∙ ap₂ drop guards (sym items_is) in
    let each = sexps_dropped text c.from.result ys zs c.behind-steps.ensures all in
    let ts = map target_view c.in_ok-sets.sets in
    let sets_read = subst (λ fs. AreSets vars fs ts) steps_are c.in_ok-sets.ensures.sets in
    let counted : c.len.result ≡ length ts = c.len.ensures ∙ sym (length-map c.in_ok-sets.sets target_view) in
    let rest = c.behind.result.now in
    let rest_is : sexp_forms text rest ≡ drop (length ts) (drop n items) = forms_dropped text c.len.result zs rest c.behind.ensures ∙ ap₂ drop counted steps_are in
    let front = take n items ++ take (length ts) (drop n items) in
    let ends = subst (IsEndFront front) (sym rest_is) (end_front vars names items n when f ts sets_read) in
    let fault = c.in_err-go.ensures.fault vars front ends in
    rw (p.1, p.2)
    (told_as (IsFirstAmong (after front (step_role vars names)) (sexp_forms text rest)) (IsFirst (IsProcFaultAs (roles.a_block vars names before) form))
    (λ k kind one. block_item_first vars names before form go_there first g1 bytes named fresh s.0 s.1 k kind s.2
    (end_first vars names items n when f ts sets_read k kind (subst (λ fs. IsFirstAmong (after front (step_role vars names)) fs k kind) rest_is one))) c.in_err-go.field-0.0 fault)

pub returns-clause-block : goal.returns-clause-block
returns-clause-block c =
    let text = c.args.text.now in
    let form = sexp_form text c.args.form.now in
    let s = c.sexps_are_forms.ensures.stands text c.args.form.now c.requires.of in
    let parts = c.in-Some.parts.now in
    let is = c.in-Some.ensures.parts text in
    let vars = c.args.vars.now in
    let names = c.args.names.now in
    let before = names_of_blocks (map block_view c.args.before.now) in
    let ys = c.behind-items.result.now in
    let items_is = items_behind text form (place_of form) parts ys is c.behind-items.ensures in
    let all = sexps_dropped text 2 parts ys c.behind-items.ensures (c.in-Some.ensures.of text c.requires.of) in
    let go_there : has_list (codes "go") (items_of_goal form) ≡ true = ap (has_list (codes "go")) items_is ∙ (sym c.has_list.ensures ∙ c.if-not-has_list.false) in
    let first = sexp_form text c.index-parts-1.result in
    let g1 = nth_part text form (place_of form) parts 1 c.index-parts-1.result is (let f = c.if-parts-lt3.false in omega (arith, f)) c.index-parts-1.is in
    let bytes = c.in_ok-bytes.bytes.now in
    let named = c.in_ok-bytes.ensures.named in
    let fresh = c.in_ok-bytes.ensures.fresh in
    let items = items_of_goal form in
    let when = option_map when_view c.in_ok-when.when in
    let read = subst (λ fs. IsGuardRead vars names fs when) (sym items_is) c.in_ok-when.ensures.guard in
    let n = count_of vars names items when in
    let f = front_is vars names items when read in
    let zs = c.behind-steps.result.now in
    let guards : c.from.result ≡ n = guards_counted vars names items c.in_ok-when.when c.from.result c.is_some.result c.from.ensures c.is_some.ensures in
    let steps_are : sexp_forms text zs ≡ drop n items = forms_dropped text c.from.result ys zs c.behind-steps.ensures ∙ ap₂ drop guards (sym items_is) in
    let each = sexps_dropped text c.from.result ys zs c.behind-steps.ensures all in
    let ts = map target_view c.in_ok-sets.sets in
    let sets_read = subst (λ fs. AreSets vars fs ts) steps_are c.in_ok-sets.ensures.sets in
    let counted : c.len.result ≡ length ts = c.len.ensures ∙ sym (length-map c.in_ok-sets.sets target_view) in
    let rest = c.behind.result.now in
    let rest_is : sexp_forms text rest ≡ drop (length ts) (drop n items) = forms_dropped text c.len.result zs rest c.behind.ensures ∙ ap₂ drop counted steps_are in
    let go = c.in_ok-go.go in
    let end_read = subst (λ fs. IsLastItem names fs go) rest_is c.in_ok-go.ensures.end in
    let b = block_view (record { name = c.in_ok-name.name; when = c.in_ok-when.when; sets = c.in_ok-sets.sets; go = go }) in
    block_writes vars names form first b c.requires.head g1 (named ∙ ap Some (sym c.in_ok-name.ensures)) n f sets_read end_read

pub returns-clause-clear : goal.returns-clause-clear
returns-clause-clear c =
    let text = c.args.text.now in
    let form = sexp_form text c.args.form.now in
    let s = c.sexps_are_forms.ensures.stands text c.args.form.now c.requires.of in
    let parts = c.in-Some.parts.now in
    let is = c.in-Some.ensures.parts text in
    let vars = c.args.vars.now in
    let names = c.args.names.now in
    let before = names_of_blocks (map block_view c.args.before.now) in
    let ys = c.behind-items.result.now in
    let items_is = items_behind text form (place_of form) parts ys is c.behind-items.ensures in
    let all = sexps_dropped text 2 parts ys c.behind-items.ensures (c.in-Some.ensures.of text c.requires.of) in
    let go_there : has_list (codes "go") (items_of_goal form) ≡ true = ap (has_list (codes "go")) items_is ∙ (sym c.has_list.ensures ∙ c.if-not-has_list.false) in
    let first = sexp_form text c.index-parts-1.result in
    let g1 = nth_part text form (place_of form) parts 1 c.index-parts-1.result is (let f = c.if-parts-lt3.false in omega (arith, f)) c.index-parts-1.is in
    let bytes = c.in_ok-bytes.bytes.now in
    let named = c.in_ok-bytes.ensures.named in
    let fresh = c.in_ok-bytes.ensures.fresh in
    let items = items_of_goal form in
    let when = option_map when_view c.in_ok-when.when in
    let read = subst (λ fs. IsGuardRead vars names fs when) (sym items_is) c.in_ok-when.ensures.guard in
    let n = count_of vars names items when in
    let f = front_is vars names items when read in
    let zs = c.behind-steps.result.now in
    let guards : c.from.result ≡ n = guards_counted vars names items c.in_ok-when.when c.from.result c.is_some.result c.from.ensures c.is_some.ensures in
    let steps_are : sexp_forms text zs ≡ drop n items = forms_dropped text c.from.result ys zs c.behind-steps.ensures ∙ ap₂ drop guards (sym items_is) in
    let each = sexps_dropped text c.from.result ys zs c.behind-steps.ensures all in
    let ts = map target_view c.in_ok-sets.sets in
    let sets_read = subst (λ fs. AreSets vars fs ts) steps_are c.in_ok-sets.ensures.sets in
    let counted : c.len.result ≡ length ts = c.len.ensures ∙ sym (length-map c.in_ok-sets.sets target_view) in
    let rest = c.behind.result.now in
    let rest_is : sexp_forms text rest ≡ drop (length ts) (drop n items) = forms_dropped text c.len.result zs rest c.behind.ensures ∙ ap₂ drop counted steps_are in
    let go = c.in_ok-go.go in
    let end_read = subst (λ fs. IsLastItem names fs go) rest_is c.in_ok-go.ensures.end in
    block_clear vars names before form go_there first g1 bytes named fresh (items_clear vars names items n when f ts sets_read go end_read)
