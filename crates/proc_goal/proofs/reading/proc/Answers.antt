use Rattle.std.proofs.Common.{◌≡◌, ◌≤◌, ◌<◌, ◌++◌, ◌&&◌, ℕ, List, [], ◌∷◌, Some, true, codes, length, map, take, drop, sym, ◌∙◌, ap, ap₂, refl, subst, arith, append-nil}
use Rattle.std.proofs.Math.ListN.{drop_of_length-le}
use Rattle.std.proofs.lemmas.Bool.{and_parts}
use Rattle.std.proofs.lemmas.List.{length-map}
use Rattle.std.proofs.lemmas.Result.{err_from_is_err_and}
use Rattle.text_core.specs.Faults.{IsFaultBy, IsFirst}
use Rattle.forms.specs.Forms.{Form, parts_of, place_of, sexp_form, sexp_forms}
use Rattle.forms.proofs.Told.{told, told_as, told_of_part}
use Rattle.goal_meaning.specs.WellFormed.{input_registers}
use Rattle.goal_meaning.specs.declared.goals.InputReg.{InputReg}
use Rattle.goal_reader.specs.Drafts.{pool_kept}
use Rattle.goal_reader.specs.Roles as goal_roles
use Rattle.goal_reader.specs.Roles.{IsFaultAs, items_of_goal}
use Rattle.goal_reader.proofs.NewNames.{nth_part, count_form}
use Rattle.proc_goal.specs.ProcReading.{AreBlocks, AreLeading, IsFirstAmong, IsPoolFault, IsPoolRead, IsProcFront}
use Rattle.proc_goal.specs.ProcRoles as roles
use Rattle.proc_goal.specs.ProcRoles.{IsProcFaultAs, block_names_in, has_leading_variable, has_list, proc_item_role}
use Rattle.proc_goal.specs.Views.{block_view, proc_view}
use Rattle.proc_goal.proofs.ProcParts.{behind_vars, blocks_fault_first, items_clear, number_of, pool_fault_first, pool_front_is}
use Rattle.proc_goal.proofs.ProcTexts.{lacking_first, proc_clear, proc_item_first, proc_name_first}
use Rattle.proc_goal.proofs.ProcWrites.{proc_writes}
use Rattle.proc_goal.proofs.Sequences.{after}
use Rattle.proc_goal.proofs.Slices.{count_forms, forms_dropped, items_behind, pools_counted, sexps_dropped}
use Rattle.proc_goal.proofs.reading.proc.Goals as goal

pub returns-then-parts-lt3-clause-fault : goal.returns-then-parts-lt3-clause-fault
returns-then-parts-lt3-clause-fault c =
    let text = c.args.text.now in
    let form = sexp_form text c.args.form.now in
    let s = c.sexps_are_forms.ensures.stands text c.args.form.now c.requires.of in
    let parts = c.in-Some.parts.now in
    let is = c.in-Some.ensures.parts text in
    let count = count_form text form (place_of form) parts is in
    told (IsProcFaultAs roles.a_proc form) c.at.result c.place.result (place_of form) _ c.at.ensures (c.place.ensures text)
    (lacking_first form s.0 s.1 s.2 (ap (λ fs. has_leading_variable fs && has_list (codes "block") fs) (drop_of_length-le (parts_of form) {i = 2} (let l = c.if-parts-lt3.true in omega (arith, count, l)))))

pub is_whole-requires : goal.is_whole-requires
is_whole-requires c =
    let text = c.args.text.now in
    let form = sexp_form text c.args.form.now in
    let s = c.sexps_are_forms.ensures.stands text c.args.form.now c.requires.of in
    let parts = c.in-Some.parts.now in
    let is = c.in-Some.ensures.parts text in
    let ys = c.behind-items.result.now in
    let items = items_of_goal form in
    let items_is = items_behind text form (place_of form) parts ys is c.behind-items.ensures in
    let all = sexps_dropped text 2 parts ys c.behind-items.ensures (c.in-Some.ensures.of text c.requires.of) in
    record { of = all }

pub returns-then-not-is_whole-clause-fault : goal.returns-then-not-is_whole-clause-fault
returns-then-not-is_whole-clause-fault c =
    let text = c.args.text.now in
    let form = sexp_form text c.args.form.now in
    let s = c.sexps_are_forms.ensures.stands text c.args.form.now c.requires.of in
    let parts = c.in-Some.parts.now in
    let is = c.in-Some.ensures.parts text in
    let ys = c.behind-items.result.now in
    let items = items_of_goal form in
    let items_is = items_behind text form (place_of form) parts ys is c.behind-items.ensures in
    let all = sexps_dropped text 2 parts ys c.behind-items.ensures (c.in-Some.ensures.of text c.requires.of) in
    told (IsProcFaultAs roles.a_proc form) c.at-then-not-is_whole.result c.place-then-not-is_whole.result (place_of form) _ c.at-then-not-is_whole.ensures (c.place-then-not-is_whole.ensures text)
    (lacking_first form s.0 s.1 s.2 (ap (λ fs. has_leading_variable fs && has_list (codes "block") fs) items_is ∙ (sym c.is_whole.ensures ∙ c.if-not-is_whole.true)))

pub returns-in_err-bytes-clause-fault : goal.returns-in_err-bytes-clause-fault
returns-in_err-bytes-clause-fault c =
    let p = err_from_is_err_and c.from_residual.result c.from_residual.ensures.1 in
    let text = c.args.text.now in
    let form = sexp_form text c.args.form.now in
    let s = c.sexps_are_forms.ensures.stands text c.args.form.now c.requires.of in
    let parts = c.in-Some.parts.now in
    let is = c.in-Some.ensures.parts text in
    let ys = c.behind-items.result.now in
    let items = items_of_goal form in
    let items_is = items_behind text form (place_of form) parts ys is c.behind-items.ensures in
    let all = sexps_dropped text 2 parts ys c.behind-items.ensures (c.in-Some.ensures.of text c.requires.of) in
    let both : (has_leading_variable items && has_list (codes "block") items) ≡ true = ap (λ fs. has_leading_variable fs && has_list (codes "block") fs) items_is ∙ (sym c.is_whole.ensures ∙ c.if-not-is_whole.false) in
    let there = and_parts (has_leading_variable items) (has_list (codes "block") items) both in
    let first = sexp_form text c.index-parts-1.result in
    let g1 = nth_part text form (place_of form) parts 1 c.index-parts-1.result is (let f = c.if-parts-lt3.false in omega (arith, f)) c.index-parts-1.is in
    rw (p.1, p.2)
    (told_of_part (IsFaultAs (goal_roles.fresh_name []) first) (IsProcFaultAs roles.a_proc form)
    (λ k kind one. proc_name_first form there.0 there.1 first g1 s.0 s.1 k kind s.2 one) c.in_err-bytes.field-0.0 c.in_err-bytes.ensures.fault)

pub block_names-requires : goal.block_names-requires
block_names-requires c =
    let text = c.args.text.now in
    let form = sexp_form text c.args.form.now in
    let s = c.sexps_are_forms.ensures.stands text c.args.form.now c.requires.of in
    let parts = c.in-Some.parts.now in
    let is = c.in-Some.ensures.parts text in
    let ys = c.behind-items.result.now in
    let items = items_of_goal form in
    let items_is = items_behind text form (place_of form) parts ys is c.behind-items.ensures in
    let all = sexps_dropped text 2 parts ys c.behind-items.ensures (c.in-Some.ensures.of text c.requires.of) in
    record { of = all }

pub variables-requires : goal.variables-requires
variables-requires c =
    let text = c.args.text.now in
    let form = sexp_form text c.args.form.now in
    let s = c.sexps_are_forms.ensures.stands text c.args.form.now c.requires.of in
    let parts = c.in-Some.parts.now in
    let is = c.in-Some.ensures.parts text in
    let ys = c.behind-items.result.now in
    let items = items_of_goal form in
    let items_is = items_behind text form (place_of form) parts ys is c.behind-items.ensures in
    let all = sexps_dropped text 2 parts ys c.behind-items.ensures (c.in-Some.ensures.of text c.requires.of) in
    record { of = all }

pub returns-in_err-vars-clause-fault : goal.returns-in_err-vars-clause-fault
returns-in_err-vars-clause-fault c =
    let p = err_from_is_err_and c.from_residual-in_err-vars.result c.from_residual-in_err-vars.ensures.1 in
    let text = c.args.text.now in
    let form = sexp_form text c.args.form.now in
    let s = c.sexps_are_forms.ensures.stands text c.args.form.now c.requires.of in
    let parts = c.in-Some.parts.now in
    let is = c.in-Some.ensures.parts text in
    let ys = c.behind-items.result.now in
    let items = items_of_goal form in
    let items_is = items_behind text form (place_of form) parts ys is c.behind-items.ensures in
    let all = sexps_dropped text 2 parts ys c.behind-items.ensures (c.in-Some.ensures.of text c.requires.of) in
    let both : (has_leading_variable items && has_list (codes "block") items) ≡ true = ap (λ fs. has_leading_variable fs && has_list (codes "block") fs) items_is ∙ (sym c.is_whole.ensures ∙ c.if-not-is_whole.false) in
    let there = and_parts (has_leading_variable items) (has_list (codes "block") items) both in
    let first = sexp_form text c.index-parts-1.result in
    let g1 = nth_part text form (place_of form) parts 1 c.index-parts-1.result is (let f = c.if-parts-lt3.false in omega (arith, f)) c.index-parts-1.is in
    let bytes = c.in_ok-bytes.bytes.now in
    let named = c.in_ok-bytes.ensures.named in
    let names = block_names_in items in
    let fault = c.in_err-vars.ensures.fault names in
    rw (p.1, p.2)
    (told_as (IsFirstAmong (proc_item_role names) (sexp_forms text ys)) (IsFirst (IsProcFaultAs roles.a_proc form))
    (λ k kind one. proc_item_first form there.0 there.1 first g1 bytes named s.0 s.1 k kind s.2 (subst (λ fs. IsFirstAmong (proc_item_role names) fs k kind) (sym items_is) one)) c.in_err-vars.field-0.0 fault)

pub first_pool-requires : goal.first_pool-requires
first_pool-requires c =
    let text = c.args.text.now in
    let form = sexp_form text c.args.form.now in
    let s = c.sexps_are_forms.ensures.stands text c.args.form.now c.requires.of in
    let parts = c.in-Some.parts.now in
    let is = c.in-Some.ensures.parts text in
    let ys = c.behind-items.result.now in
    let items = items_of_goal form in
    let items_is = items_behind text form (place_of form) parts ys is c.behind-items.ensures in
    let all = sexps_dropped text 2 parts ys c.behind-items.ensures (c.in-Some.ensures.of text c.requires.of) in
    record { of = sexps_dropped text c.len.result ys c.behind-others.result.now c.behind-others.ensures all }

pub returns-in_err-given-clause-fault : goal.returns-in_err-given-clause-fault
returns-in_err-given-clause-fault c =
    let p = err_from_is_err_and c.from_residual-in_err-given.result c.from_residual-in_err-given.ensures.1 in
    let text = c.args.text.now in
    let form = sexp_form text c.args.form.now in
    let s = c.sexps_are_forms.ensures.stands text c.args.form.now c.requires.of in
    let parts = c.in-Some.parts.now in
    let is = c.in-Some.ensures.parts text in
    let ys = c.behind-items.result.now in
    let items = items_of_goal form in
    let items_is = items_behind text form (place_of form) parts ys is c.behind-items.ensures in
    let all = sexps_dropped text 2 parts ys c.behind-items.ensures (c.in-Some.ensures.of text c.requires.of) in
    let both : (has_leading_variable items && has_list (codes "block") items) ≡ true = ap (λ fs. has_leading_variable fs && has_list (codes "block") fs) items_is ∙ (sym c.is_whole.ensures ∙ c.if-not-is_whole.false) in
    let there = and_parts (has_leading_variable items) (has_list (codes "block") items) both in
    let first = sexp_form text c.index-parts-1.result in
    let g1 = nth_part text form (place_of form) parts 1 c.index-parts-1.result is (let f = c.if-parts-lt3.false in omega (arith, f)) c.index-parts-1.is in
    let bytes = c.in_ok-bytes.bytes.now in
    let named = c.in_ok-bytes.ensures.named in
    let names = block_names_in items in
    let vars = c.in_ok-vars.vars in
    let v = subst (λ fs. AreLeading fs vars) (sym items_is) c.in_ok-vars.ensures.variables in
    let zs = c.behind-others.result.now in
    let others_are : sexp_forms text zs ≡ behind_vars items vars v = forms_dropped text c.len.result ys zs c.behind-others.ensures ∙ ap₂ drop c.len.ensures (sym items_is) in
    let each = sexps_dropped text c.len.result ys zs c.behind-others.ensures all in
    let fault = subst (λ (vs : List InputReg). IsFaultBy (IsPoolFault vs (sexp_forms text zs)) c.in_err-given.field-0.0) c.as_slice.ensures c.in_err-given.ensures.fault in
    rw (p.1, p.2)
    (told_as (IsPoolFault vars (sexp_forms text zs)) (IsFirst (IsProcFaultAs roles.a_proc form))
    (λ k kind one. proc_item_first form there.0 there.1 first g1 bytes named s.0 s.1 k kind s.2 (pool_fault_first items vars v names k kind (subst (λ fs. IsPoolFault vars fs k kind) others_are one))) c.in_err-given.field-0.0 fault)

pub behind-rest-requires : goal.behind-rest-requires
behind-rest-requires c =
    let text = c.args.text.now in
    let form = sexp_form text c.args.form.now in
    let s = c.sexps_are_forms.ensures.stands text c.args.form.now c.requires.of in
    let parts = c.in-Some.parts.now in
    let is = c.in-Some.ensures.parts text in
    let ys = c.behind-items.result.now in
    let items = items_of_goal form in
    let items_is = items_behind text form (place_of form) parts ys is c.behind-items.ensures in
    let all = sexps_dropped text 2 parts ys c.behind-items.ensures (c.in-Some.ensures.of text c.requires.of) in
    let vars = c.in_ok-vars.vars in
    let v = subst (λ fs. AreLeading fs vars) (sym items_is) c.in_ok-vars.ensures.variables in
    let zs = c.behind-others.result.now in
    let others_are : sexp_forms text zs ≡ behind_vars items vars v = forms_dropped text c.len.result ys zs c.behind-others.ensures ∙ ap₂ drop c.len.ensures (sym items_is) in
    let each = sexps_dropped text c.len.result ys zs c.behind-others.ensures all in
    let given = c.in_ok-given.given in
    let pool = subst (λ (vs : List InputReg). IsPoolRead vs (sexp_forms text zs) given) c.as_slice.ensures c.in_ok-given.ensures.pool in
    let read = subst (λ fs. IsPoolRead vars fs given) others_are pool in
    let m = number_of given in
    let f = pool_front_is items vars v given read in
    let counted = pools_counted given c.from.result c.is_some.result c.from.ensures c.is_some.ensures in
    let low = f.within in
    let same = sym (count_forms text zs) ∙ ap length others_are in
    record { within = omega (arith, low, same, counted) }

pub blocks-requires-clause-of : goal.blocks-requires-clause-of
blocks-requires-clause-of c =
    let text = c.args.text.now in
    let form = sexp_form text c.args.form.now in
    let s = c.sexps_are_forms.ensures.stands text c.args.form.now c.requires.of in
    let parts = c.in-Some.parts.now in
    let is = c.in-Some.ensures.parts text in
    let ys = c.behind-items.result.now in
    let items = items_of_goal form in
    let items_is = items_behind text form (place_of form) parts ys is c.behind-items.ensures in
    let all = sexps_dropped text 2 parts ys c.behind-items.ensures (c.in-Some.ensures.of text c.requires.of) in
    let vars = c.in_ok-vars.vars in
    let v = subst (λ fs. AreLeading fs vars) (sym items_is) c.in_ok-vars.ensures.variables in
    let zs = c.behind-others.result.now in
    let others_are : sexp_forms text zs ≡ behind_vars items vars v = forms_dropped text c.len.result ys zs c.behind-others.ensures ∙ ap₂ drop c.len.ensures (sym items_is) in
    let each = sexps_dropped text c.len.result ys zs c.behind-others.ensures all in
    sexps_dropped text c.from.result zs c.behind-rest.result.now c.behind-rest.ensures each

pub returns-in_err-blocks-clause-fault : goal.returns-in_err-blocks-clause-fault
returns-in_err-blocks-clause-fault c =
    let p = err_from_is_err_and c.from_residual-in_err-blocks.result c.from_residual-in_err-blocks.ensures.1 in
    let text = c.args.text.now in
    let form = sexp_form text c.args.form.now in
    let s = c.sexps_are_forms.ensures.stands text c.args.form.now c.requires.of in
    let parts = c.in-Some.parts.now in
    let is = c.in-Some.ensures.parts text in
    let ys = c.behind-items.result.now in
    let items = items_of_goal form in
    let items_is = items_behind text form (place_of form) parts ys is c.behind-items.ensures in
    let all = sexps_dropped text 2 parts ys c.behind-items.ensures (c.in-Some.ensures.of text c.requires.of) in
    let both : (has_leading_variable items && has_list (codes "block") items) ≡ true = ap (λ fs. has_leading_variable fs && has_list (codes "block") fs) items_is ∙ (sym c.is_whole.ensures ∙ c.if-not-is_whole.false) in
    let there = and_parts (has_leading_variable items) (has_list (codes "block") items) both in
    let first = sexp_form text c.index-parts-1.result in
    let g1 = nth_part text form (place_of form) parts 1 c.index-parts-1.result is (let f = c.if-parts-lt3.false in omega (arith, f)) c.index-parts-1.is in
    let bytes = c.in_ok-bytes.bytes.now in
    let named = c.in_ok-bytes.ensures.named in
    let names = block_names_in items in
    let vars = c.in_ok-vars.vars in
    let v = subst (λ fs. AreLeading fs vars) (sym items_is) c.in_ok-vars.ensures.variables in
    let zs = c.behind-others.result.now in
    let others_are : sexp_forms text zs ≡ behind_vars items vars v = forms_dropped text c.len.result ys zs c.behind-others.ensures ∙ ap₂ drop c.len.ensures (sym items_is) in
    let each = sexps_dropped text c.len.result ys zs c.behind-others.ensures all in
    let given = c.in_ok-given.given in
    let pool = subst (λ (vs : List InputReg). IsPoolRead vs (sexp_forms text zs) given) c.as_slice.ensures c.in_ok-given.ensures.pool in
    let read = subst (λ fs. IsPoolRead vars fs given) others_are pool in
    let m = number_of given in
    let f = pool_front_is items vars v given read in
    let counted = pools_counted given c.from.result c.is_some.result c.from.ensures c.is_some.ensures in
    let us = c.behind-rest.result.now in
    let rest_is : sexp_forms text us ≡ drop m (behind_vars items vars v) = forms_dropped text c.from.result zs us c.behind-rest.ensures ∙ ap₂ drop counted others_are in
    let found : c.as_slice-3.result.now ≡ names = c.as_slice-3.ensures ∙ c.in_ok-names.ensures.names ∙ ap block_names_in (sym items_is) in
    let front = take (length vars) items ++ take m (behind_vars items vars v) in
    let is_front = subst (λ (vs : List InputReg). IsProcFront vs front (sexp_forms text us)) (sym c.as_slice-2.ensures) (subst (IsProcFront vars front) (sym rest_is) f.front) in
    let fault = subst (λ ns. IsFaultBy (IsFirstAmong (after front (proc_item_role ns)) (sexp_forms text us)) c.in_err-blocks.field-0.0) found (c.in_err-blocks.ensures.fault front is_front) in
    rw (p.1, p.2)
    (told_as (IsFirstAmong (after front (proc_item_role names)) (sexp_forms text us)) (IsFirst (IsProcFaultAs roles.a_proc form))
    (λ k kind one. proc_item_first form there.0 there.1 first g1 bytes named s.0 s.1 k kind s.2 (blocks_fault_first items vars v m given f names k kind (subst (λ fs. IsFirstAmong (after front (proc_item_role names)) fs k kind) rest_is one))) c.in_err-blocks.field-0.0 fault)

pub returns-clause-proc : goal.returns-clause-proc
returns-clause-proc c =
    let text = c.args.text.now in
    let form = sexp_form text c.args.form.now in
    let s = c.sexps_are_forms.ensures.stands text c.args.form.now c.requires.of in
    let parts = c.in-Some.parts.now in
    let is = c.in-Some.ensures.parts text in
    let ys = c.behind-items.result.now in
    let items = items_of_goal form in
    let items_is = items_behind text form (place_of form) parts ys is c.behind-items.ensures in
    let all = sexps_dropped text 2 parts ys c.behind-items.ensures (c.in-Some.ensures.of text c.requires.of) in
    let both : (has_leading_variable items && has_list (codes "block") items) ≡ true = ap (λ fs. has_leading_variable fs && has_list (codes "block") fs) items_is ∙ (sym c.is_whole.ensures ∙ c.if-not-is_whole.false) in
    let there = and_parts (has_leading_variable items) (has_list (codes "block") items) both in
    let first = sexp_form text c.index-parts-1.result in
    let g1 = nth_part text form (place_of form) parts 1 c.index-parts-1.result is (let f = c.if-parts-lt3.false in omega (arith, f)) c.index-parts-1.is in
    let bytes = c.in_ok-bytes.bytes.now in
    let named = c.in_ok-bytes.ensures.named in
    let names = block_names_in items in
    let vars = c.in_ok-vars.vars in
    let v = subst (λ fs. AreLeading fs vars) (sym items_is) c.in_ok-vars.ensures.variables in
    let zs = c.behind-others.result.now in
    let others_are : sexp_forms text zs ≡ behind_vars items vars v = forms_dropped text c.len.result ys zs c.behind-others.ensures ∙ ap₂ drop c.len.ensures (sym items_is) in
    let each = sexps_dropped text c.len.result ys zs c.behind-others.ensures all in
    let given = c.in_ok-given.given in
    let pool = subst (λ (vs : List InputReg). IsPoolRead vs (sexp_forms text zs) given) c.as_slice.ensures c.in_ok-given.ensures.pool in
    let read = subst (λ fs. IsPoolRead vars fs given) others_are pool in
    let m = number_of given in
    let f = pool_front_is items vars v given read in
    let counted = pools_counted given c.from.result c.is_some.result c.from.ensures c.is_some.ensures in
    let us = c.behind-rest.result.now in
    let rest_is : sexp_forms text us ≡ drop m (behind_vars items vars v) = forms_dropped text c.from.result zs us c.behind-rest.ensures ∙ ap₂ drop counted others_are in
    let bs = map block_view c.in_ok-blocks.blocks in
    let found : c.as_slice-3.result.now ≡ names = c.as_slice-3.ensures ∙ c.in_ok-names.ensures.names ∙ ap block_names_in (sym items_is) in
    let b = subst (λ fs. AreBlocks vars names fs bs) rest_is (subst (λ ns. AreBlocks vars ns (sexp_forms text us) bs) found (subst (λ (vs : List InputReg). AreBlocks vs c.as_slice-3.result.now (sexp_forms text us) bs) c.as_slice-2.ensures c.in_ok-blocks.ensures.blocks)) in
    let p = proc_view (record { table = c.args.table; builtin = c.args.builtin; name = c.in_ok-name.name; vars = vars; pool = c.in_ok-pool.pool; blocks = c.in_ok-blocks.blocks }) in
    let kept : c.in_ok-pool.pool ≡ pool_kept (input_registers vars) given =
    c.in_ok-pool.ensures ∙ ap (λ (vs : List InputReg). pool_kept (input_registers vs ++ []) given) c.as_slice-4.ensures ∙ ap (λ rs. pool_kept rs given) (append-nil (input_registers vars)) in
    proc_writes form first p c.requires.head g1 (named ∙ ap Some (sym c.in_ok-name.ensures)) there.0 there.1 v given read kept b

pub returns-clause-clear : goal.returns-clause-clear
returns-clause-clear c =
    let text = c.args.text.now in
    let form = sexp_form text c.args.form.now in
    let s = c.sexps_are_forms.ensures.stands text c.args.form.now c.requires.of in
    let parts = c.in-Some.parts.now in
    let is = c.in-Some.ensures.parts text in
    let ys = c.behind-items.result.now in
    let items = items_of_goal form in
    let items_is = items_behind text form (place_of form) parts ys is c.behind-items.ensures in
    let all = sexps_dropped text 2 parts ys c.behind-items.ensures (c.in-Some.ensures.of text c.requires.of) in
    let both : (has_leading_variable items && has_list (codes "block") items) ≡ true = ap (λ fs. has_leading_variable fs && has_list (codes "block") fs) items_is ∙ (sym c.is_whole.ensures ∙ c.if-not-is_whole.false) in
    let there = and_parts (has_leading_variable items) (has_list (codes "block") items) both in
    let first = sexp_form text c.index-parts-1.result in
    let g1 = nth_part text form (place_of form) parts 1 c.index-parts-1.result is (let f = c.if-parts-lt3.false in omega (arith, f)) c.index-parts-1.is in
    let bytes = c.in_ok-bytes.bytes.now in
    let named = c.in_ok-bytes.ensures.named in
    let names = block_names_in items in
    let vars = c.in_ok-vars.vars in
    let v = subst (λ fs. AreLeading fs vars) (sym items_is) c.in_ok-vars.ensures.variables in
    let zs = c.behind-others.result.now in
    let others_are : sexp_forms text zs ≡ behind_vars items vars v = forms_dropped text c.len.result ys zs c.behind-others.ensures ∙ ap₂ drop c.len.ensures (sym items_is) in
    let each = sexps_dropped text c.len.result ys zs c.behind-others.ensures all in
    let given = c.in_ok-given.given in
    let pool = subst (λ (vs : List InputReg). IsPoolRead vs (sexp_forms text zs) given) c.as_slice.ensures c.in_ok-given.ensures.pool in
    let read = subst (λ fs. IsPoolRead vars fs given) others_are pool in
    let m = number_of given in
    let f = pool_front_is items vars v given read in
    let counted = pools_counted given c.from.result c.is_some.result c.from.ensures c.is_some.ensures in
    let us = c.behind-rest.result.now in
    let rest_is : sexp_forms text us ≡ drop m (behind_vars items vars v) = forms_dropped text c.from.result zs us c.behind-rest.ensures ∙ ap₂ drop counted others_are in
    let bs = map block_view c.in_ok-blocks.blocks in
    let found : c.as_slice-3.result.now ≡ names = c.as_slice-3.ensures ∙ c.in_ok-names.ensures.names ∙ ap block_names_in (sym items_is) in
    let b = subst (λ fs. AreBlocks vars names fs bs) rest_is (subst (λ ns. AreBlocks vars ns (sexp_forms text us) bs) found (subst (λ (vs : List InputReg). AreBlocks vs c.as_slice-3.result.now (sexp_forms text us) bs) c.as_slice-2.ensures c.in_ok-blocks.ensures.blocks)) in
    proc_clear form there.0 there.1 first g1 bytes named (items_clear items vars v m given f names bs b)
