use Rattle.std.proofs.Common.{◌≡◌, ◌<◌, ◌≤◌, List, [], Some, true, false, length, sym, ◌∙◌, ap, refl, subst, arith}
use Rattle.std.proofs.lemmas.Result.{err_from_is_err_and}
use Rattle.std.specs.List.{list_any}
use Rattle.forms.specs.Forms.{Form, place_of, sexp_form, parts_of}
use Rattle.forms.specs.Reading.{IsSexpOf}
use Rattle.forms.proofs.Told.{told, told_of_part}
use Rattle.goal_reader.specs.declared.scopes.Scope.{Scope}
use Rattle.goal_meaning.specs.declared.goals.DeclaredOp.{DeclaredOp}
use Rattle.goal_reader.specs.Roles as roles
use Rattle.goal_reader.specs.Roles.{IsFaultAs, is_later_than, is_of_rank, goal_keywords, goal_bounds, bound_at, of_rank, items_of_goal, item_role, role_in, fresh_name, Role}
use Rattle.goal_reader.specs.Keywords.{item_rank}
use Rattle.goal_reader.specs.Order.{IsOrderOf}
use Rattle.goal_reader.specs.Drafts.{names_of_goals, IsDraft, IsWritten, items_before, draft_role}
use Rattle.goal_reader.proofs.NewNames.{nth_part, count_form, fresh_name_clear, target_told}
use Rattle.goal_reader.proofs.GoalSteps.{rest_two, items_are, all_two, no_parts, next_draft, admitted_role, item_at, before_next, all_items, clear_one, clear_next, whole_clear, short_goal, no_set_first, part_first}
use Rattle.goal_reader.proofs.WrittenItems.{next_written, fewer_than_one}
use Rattle.goal_reader.proofs.Keeping.{next_keeps}
use Rattle.goal_reader.proofs.LetForms.{lets_length}
use Rattle.goal_reader.proofs.Ranks.{none_of}
use Rattle.goal_meaning.specs.Views.{let_view}
use Rattle.std.proofs.lemmas.List.{length-map}
use Rattle.goal_reader.proofs.whole.items.Goals as goal

pub returns-in_default-clause-fault : goal.returns-in_default-clause-fault
returns-in_default-clause-fault c =
    let text = c.args.text.now in
    let form = sexp_form text c.args.form.now in
    let declared = c.args.declared in
    let names = names_of_goals c.args.goals.now in
    let s = c.sexps_are_forms.ensures.stands text c.args.form.now c.requires.of in
    told (IsFaultAs (roles.a_list (roles.goal declared names)) form) c.at.result c.place.result (place_of form) _ c.at.ensures (c.place.ensures text)
    (short_goal declared names form s.0 s.1 s.2 (no_parts form (c.in_default.ensures.parts text)))

pub returns-then-parts-lt2-clause-fault : goal.returns-then-parts-lt2-clause-fault
returns-then-parts-lt2-clause-fault c =
    let text = c.args.text.now in
    let form = sexp_form text c.args.form.now in
    let declared = c.args.declared in
    let names = names_of_goals c.args.goals.now in
    let s = c.sexps_are_forms.ensures.stands text c.args.form.now c.requires.of in
    let parts = c.in-Some.parts.now in
    let is = c.in-Some.ensures.parts text in
    let count = count_form text form (place_of form) parts is in
    told (IsFaultAs (roles.a_list (roles.goal declared names)) form) c.at-then-parts-lt2.result c.place-then-parts-lt2.result (place_of form) _ c.at-then-parts-lt2.ensures (c.place-then-parts-lt2.ensures text)
    (short_goal declared names form s.0 s.1 s.2 (let f = c.if-parts-lt2.true in omega (arith, count, f)))

pub has_target-requires : goal.has_target-requires
has_target-requires c =
    record { of = all_two (IsSexpOf c.args.text.now) c.in-Some.parts.now _ (rest_two c.in-Some.parts.now) (c.in-Some.ensures.of c.args.text.now c.requires.of) }

pub returns-then-not-has_target-clause-fault : goal.returns-then-not-has_target-clause-fault
returns-then-not-has_target-clause-fault c =
    let text = c.args.text.now in
    let form = sexp_form text c.args.form.now in
    let declared = c.args.declared in
    let names = names_of_goals c.args.goals.now in
    let s = c.sexps_are_forms.ensures.stands text c.args.form.now c.requires.of in
    let parts = c.in-Some.parts.now in
    let is = c.in-Some.ensures.parts text in
    let count = count_form text form (place_of form) parts is in
    let enough : 2 ≤ length (parts_of form) = (let f = c.if-parts-lt2.false in omega (arith, count, f)) in
    let set = c.has_target.ensures ∙ ap (list_any (is_of_rank goal_keywords 5)) (items_are text form (place_of form) parts is) in
    told (IsFaultAs (roles.a_list (roles.goal declared names)) form) c.at-then-not-has_target.result c.place-then-not-has_target.result (place_of form) _ c.at-then-not-has_target.ensures (c.place-then-not-has_target.ensures text)
    (no_set_first declared names form s.0 s.1 s.2 (sym set ∙ c.if-not-has_target.true))

pub returns-in_err-bytes-clause-fault : goal.returns-in_err-bytes-clause-fault
returns-in_err-bytes-clause-fault c =
    let p = err_from_is_err_and c.from_residual.result c.from_residual.ensures.1 in
    let text = c.args.text.now in
    let form = sexp_form text c.args.form.now in
    let declared = c.args.declared in
    let names = names_of_goals c.args.goals.now in
    let s = c.sexps_are_forms.ensures.stands text c.args.form.now c.requires.of in
    let parts = c.in-Some.parts.now in
    let is = c.in-Some.ensures.parts text in
    let count = count_form text form (place_of form) parts is in
    let enough : 2 ≤ length (parts_of form) = (let f = c.if-parts-lt2.false in omega (arith, count, f)) in
    let set = c.has_target.ensures ∙ ap (list_any (is_of_rank goal_keywords 5)) (items_are text form (place_of form) parts is) in
    let some : list_any (is_of_rank goal_keywords 5) (items_of_goal form) ≡ true = sym set ∙ c.if-not-has_target.false in
    let g1 = nth_part text form (place_of form) parts 1 c.index-parts-1.result is (let f = c.if-parts-lt2.false in omega (arith, f)) c.index-parts-1.is in
    let first = sexp_form text c.index-parts-1.result in
    rw (p.1, p.2)
    (told_of_part (IsFaultAs (fresh_name names) first) (IsFaultAs (roles.a_list (roles.goal declared names)) form)
    (λ p k one. part_first declared names form s.0 s.1 s.2 1 first (fresh_name names) p k enough some g1 refl (clear_one declared names form) one) c.in_err-bytes.field-0.0 c.in_err-bytes.ensures.fault)

pub loop-index-init : goal.loop-index-init
loop-index-init c =
    let text = c.args.text.now in
    let form = sexp_form text c.args.form.now in
    let declared = c.args.declared in
    let names = names_of_goals c.args.goals.now in
    let s = c.sexps_are_forms.ensures.stands text c.args.form.now c.requires.of in
    let parts = c.in-Some.parts.now in
    let is = c.in-Some.ensures.parts text in
    let count = count_form text form (place_of form) parts is in
    let enough : 2 ≤ length (parts_of form) = (let f = c.if-parts-lt2.false in omega (arith, count, f)) in
    let set = c.has_target.ensures ∙ ap (list_any (is_of_rank goal_keywords 5)) (items_are text form (place_of form) parts is) in
    let some : list_any (is_of_rank goal_keywords 5) (items_of_goal form) ≡ true = sym set ∙ c.if-not-has_target.false in
    let g1 = nth_part text form (place_of form) parts 1 c.index-parts-1.result is (let f = c.if-parts-lt2.false in omega (arith, f)) c.index-parts-1.is in
    let first = sexp_form text c.index-parts-1.result in
    record {
      draft = c.in_ok-draft.ensures.draft;
      written = c.in_ok-draft.ensures.written;
      keeps = c.in_ok-draft.ensures.keeps;
      order = c.new-order.ensures goal_keywords;
      clear = clear_next declared names form 1 first (fresh_name names) g1 refl (fresh_name_clear names first c.in_ok-bytes.bytes.now c.in_ok-bytes.ensures.named c.in_ok-bytes.ensures.fresh) (clear_one declared names form);
    }

pub returns-in_err-keyword-clause-fault : goal.returns-in_err-keyword-clause-fault
returns-in_err-keyword-clause-fault c =
    let p = err_from_is_err_and c.from_residual-in_err-keyword.result c.from_residual-in_err-keyword.ensures.1 in
    let text = c.args.text.now in
    let form = sexp_form text c.args.form.now in
    let declared = c.args.declared in
    let names = names_of_goals c.args.goals.now in
    let s = c.sexps_are_forms.ensures.stands text c.args.form.now c.requires.of in
    let parts = c.in-Some.parts.now in
    let is = c.in-Some.ensures.parts text in
    let count = count_form text form (place_of form) parts is in
    let enough : 2 ≤ length (parts_of form) = (let f = c.if-parts-lt2.false in omega (arith, count, f)) in
    let set = c.has_target.ensures ∙ ap (list_any (is_of_rank goal_keywords 5)) (items_are text form (place_of form) parts is) in
    let some : list_any (is_of_rank goal_keywords 5) (items_of_goal form) ≡ true = sym set ∙ c.if-not-has_target.false in
    let g1 = nth_part text form (place_of form) parts 1 c.index-parts-1.result is (let f = c.if-parts-lt2.false in omega (arith, f)) c.index-parts-1.is in
    let first = sexp_form text c.index-parts-1.result in
    let i = c.loop-index.index in
    let l = c.loop-index.auto.index in
    let inv = c.loop-index.invariant in
    let g = nth_part text form (place_of form) parts i c.index-parts-index.result is c.loop-index-test.true c.index-parts-index.is in
    let part = sexp_form text c.index-parts-index.result in
    let before = items_before form i in
    let at_i = item_at declared names form i part l g in
    let role = role_in goal_keywords goal_bounds before (item_role declared before) part in
    rw (p.1, p.2)
    (told_of_part (IsFaultAs role part) (IsFaultAs (roles.a_list (roles.goal declared names)) form)
    (λ p k one. part_first declared names form s.0 s.1 s.2 i part role p k enough some g at_i inv.clear one) c.in_err-keyword.field-0.0
    (c.in_err-keyword.ensures.fault before (item_role declared before) inv.order))

pub after-order-requires-clause-few : goal.after-order-requires-clause-few
after-order-requires-clause-few c = λ is.
    let few = c.in_ok-keyword.ensures.few (sym c.rank.ensures ∙ is) in
    omega (arith, few)

pub item-requires-clause-few_lets : goal.item-requires-clause-few_lets
item-requires-clause-few_lets c = λ is.
    let i = c.loop-index.index in
    let before = items_before (sexp_form c.args.text.now c.args.form.now) i in
    let inv = c.loop-index.invariant in
    let admitted = c.in_ok-keyword.ensures.admitted before inv.order in
    let few : length (of_rank goal_keywords 2 before) < 256 = subst (λ n. length (of_rank goal_keywords n before) < (bound_at goal_bounds n).most) is admitted.1 in
    let n = lets_length c.loop-index.draft.scope.declared c.loop-index.draft.inputs inv.written.lets in
    let m = length-map c.loop-index.draft.lets let_view in
    omega (arith, few, n, m)

pub item-requires-clause-few : goal.item-requires-clause-few
item-requires-clause-few c =
    subst (λ (ds : List DeclaredOp). length ds ≤ 16) (sym (ap (λ (s : Scope). s.declared) c.loop-index.invariant.draft.scope)) c.requires.few

pub returns-in_err-draft-2-clause-fault : goal.returns-in_err-draft-2-clause-fault
returns-in_err-draft-2-clause-fault c =
    let p = err_from_is_err_and c.from_residual-in_err-draft-2.result c.from_residual-in_err-draft-2.ensures.1 in
    let text = c.args.text.now in
    let form = sexp_form text c.args.form.now in
    let declared = c.args.declared in
    let names = names_of_goals c.args.goals.now in
    let s = c.sexps_are_forms.ensures.stands text c.args.form.now c.requires.of in
    let parts = c.in-Some.parts.now in
    let is = c.in-Some.ensures.parts text in
    let count = count_form text form (place_of form) parts is in
    let enough : 2 ≤ length (parts_of form) = (let f = c.if-parts-lt2.false in omega (arith, count, f)) in
    let set = c.has_target.ensures ∙ ap (list_any (is_of_rank goal_keywords 5)) (items_are text form (place_of form) parts is) in
    let some : list_any (is_of_rank goal_keywords 5) (items_of_goal form) ≡ true = sym set ∙ c.if-not-has_target.false in
    let g1 = nth_part text form (place_of form) parts 1 c.index-parts-1.result is (let f = c.if-parts-lt2.false in omega (arith, f)) c.index-parts-1.is in
    let first = sexp_form text c.index-parts-1.result in
    let i = c.loop-index.index in
    let l = c.loop-index.auto.index in
    let inv = c.loop-index.invariant in
    let g = nth_part text form (place_of form) parts i c.index-parts-index.result is c.loop-index-test.true c.index-parts-index.is in
    let part = sexp_form text c.index-parts-index.result in
    let before = items_before form i in
    let at_i = item_at declared names form i part l g in
    let d = c.loop-index.draft in
    let at = item_rank c.in_ok-keyword.keyword in
    let role = admitted_role declared before part d inv.draft at c.in_ok-keyword.ensures.rank (c.in_ok-keyword.ensures.admitted before inv.order) in
    rw (p.1, p.2)
    (told_of_part (IsFaultAs (draft_role d at) part) (IsFaultAs (roles.a_list (roles.goal declared names)) form)
    (λ p k one. part_first declared names form s.0 s.1 s.2 i part (draft_role d at) p k enough some g (at_i ∙ ap Some role) inv.clear one) c.in_err-draft-2.field-0.0 c.in_err-draft-2.ensures.fault)

pub loop-index-preserved : goal.loop-index-preserved
loop-index-preserved c =
    let text = c.args.text.now in
    let form = sexp_form text c.args.form.now in
    let declared = c.args.declared in
    let names = names_of_goals c.args.goals.now in
    let s = c.sexps_are_forms.ensures.stands text c.args.form.now c.requires.of in
    let parts = c.in-Some.parts.now in
    let is = c.in-Some.ensures.parts text in
    let count = count_form text form (place_of form) parts is in
    let enough : 2 ≤ length (parts_of form) = (let f = c.if-parts-lt2.false in omega (arith, count, f)) in
    let set = c.has_target.ensures ∙ ap (list_any (is_of_rank goal_keywords 5)) (items_are text form (place_of form) parts is) in
    let some : list_any (is_of_rank goal_keywords 5) (items_of_goal form) ≡ true = sym set ∙ c.if-not-has_target.false in
    let g1 = nth_part text form (place_of form) parts 1 c.index-parts-1.result is (let f = c.if-parts-lt2.false in omega (arith, f)) c.index-parts-1.is in
    let first = sexp_form text c.index-parts-1.result in
    let i = c.loop-index.index in
    let l = c.loop-index.auto.index in
    let inv = c.loop-index.invariant in
    let g = nth_part text form (place_of form) parts i c.index-parts-index.result is c.loop-index-test.true c.index-parts-index.is in
    let part = sexp_form text c.index-parts-index.result in
    let before = items_before form i in
    let at_i = item_at declared names form i part l g in
    let d = c.loop-index.draft in
    let at = item_rank c.in_ok-keyword.keyword in
    let role = admitted_role declared before part d inv.draft at c.in_ok-keyword.ensures.rank (c.in_ok-keyword.ensures.admitted before inv.order) in
    let admitted = c.in_ok-keyword.ensures.admitted before inv.order in
    let no_pool : at ≡ 1 → of_rank goal_keywords 1 before ≡ [] =
    λ is. fewer_than_one (of_rank goal_keywords 1 before) (subst (λ n. length (of_rank goal_keywords n before) < (bound_at goal_bounds n).most) is admitted.1) in
    let no_let : at ≡ 0 → of_rank goal_keywords 2 before ≡ [] = λ is. none_of goal_keywords 0 2 before (omega arith) (subst (λ n. list_any (is_later_than goal_keywords n) before ≡ false) is admitted.0) in
    let more = before_next declared names form i part l g in
    record {
      draft = subst (λ (b : List Form). IsDraft declared b c.in_ok-draft-2.draft) (sym more) (next_draft declared before part d inv.draft at c.in_ok-draft-2.draft c.in_ok-keyword.ensures.rank no_let no_pool c.in_ok-draft-2.ensures.next);
      written = subst (λ (b : List Form). IsWritten b c.in_ok-draft-2.draft) (sym more) (next_written before part d inv.written at c.in_ok-draft-2.draft c.in_ok-keyword.ensures.rank admitted.0 c.in_ok-draft-2.ensures.next c.in_ok-draft-2.ensures.clear
          no_pool
          (λ is. fewer_than_one (of_rank goal_keywords 4 before) (subst (λ n. length (of_rank goal_keywords n before) < (bound_at goal_bounds n).most) is admitted.1)));
      keeps = next_keeps declared before part d inv.written (ap (λ (x : Scope). x.declared) inv.draft.scope) inv.keeps at c.in_ok-draft-2.draft c.in_ok-keyword.ensures.rank admitted.0 admitted.1 c.in_ok-draft-2.ensures.next c.in_ok-draft-2.ensures.clear;
      order = subst (λ (b : List Form). IsOrderOf goal_keywords b c.after-order.result) (sym more) (c.after-order.ensures goal_keywords before part inv.order (c.in_ok-keyword.ensures.rank ∙ ap Some (sym c.rank.ensures)));
      clear = clear_next declared names form i part (draft_role d at) g (at_i ∙ ap Some role) c.in_ok-draft-2.ensures.clear inv.clear;
    }

pub returns-clause-draft : goal.returns-clause-draft
returns-clause-draft c =
    let text = c.args.text.now in
    let form = sexp_form text c.args.form.now in
    let declared = c.args.declared in
    let names = names_of_goals c.args.goals.now in
    let s = c.sexps_are_forms.ensures.stands text c.args.form.now c.requires.of in
    let parts = c.in-Some.parts.now in
    let is = c.in-Some.ensures.parts text in
    let count = count_form text form (place_of form) parts is in
    let enough : 2 ≤ length (parts_of form) = (let f = c.if-parts-lt2.false in omega (arith, count, f)) in
    let set = c.has_target.ensures ∙ ap (list_any (is_of_rank goal_keywords 5)) (items_are text form (place_of form) parts is) in
    let some : list_any (is_of_rank goal_keywords 5) (items_of_goal form) ≡ true = sym set ∙ c.if-not-has_target.false in
    let g1 = nth_part text form (place_of form) parts 1 c.index-parts-1.result is (let f = c.if-parts-lt2.false in omega (arith, f)) c.index-parts-1.is in
    let first = sexp_form text c.index-parts-1.result in
    let i = c.loop-index.index in
    let l = c.loop-index.auto.index in
    let inv = c.loop-index.invariant in
    let most : length (parts_of form) ≤ i = (let f = c.loop-index-test.false in omega (arith, f, count)) in
    subst (λ (b : List Form). IsDraft declared b c.loop-index.draft) (all_items declared names form i most) inv.draft

pub returns-clause-written : goal.returns-clause-written
returns-clause-written c =
    let text = c.args.text.now in
    let form = sexp_form text c.args.form.now in
    let declared = c.args.declared in
    let names = names_of_goals c.args.goals.now in
    let s = c.sexps_are_forms.ensures.stands text c.args.form.now c.requires.of in
    let parts = c.in-Some.parts.now in
    let is = c.in-Some.ensures.parts text in
    let count = count_form text form (place_of form) parts is in
    let enough : 2 ≤ length (parts_of form) = (let f = c.if-parts-lt2.false in omega (arith, count, f)) in
    let set = c.has_target.ensures ∙ ap (list_any (is_of_rank goal_keywords 5)) (items_are text form (place_of form) parts is) in
    let some : list_any (is_of_rank goal_keywords 5) (items_of_goal form) ≡ true = sym set ∙ c.if-not-has_target.false in
    let g1 = nth_part text form (place_of form) parts 1 c.index-parts-1.result is (let f = c.if-parts-lt2.false in omega (arith, f)) c.index-parts-1.is in
    let first = sexp_form text c.index-parts-1.result in
    let i = c.loop-index.index in
    let l = c.loop-index.auto.index in
    let inv = c.loop-index.invariant in
    let most : length (parts_of form) ≤ i = (let f = c.loop-index-test.false in omega (arith, f, count)) in
    subst (λ (b : List Form). IsWritten b c.loop-index.draft) (all_items declared names form i most) inv.written

pub returns-clause-clear : goal.returns-clause-clear
returns-clause-clear c =
    let text = c.args.text.now in
    let form = sexp_form text c.args.form.now in
    let declared = c.args.declared in
    let names = names_of_goals c.args.goals.now in
    let s = c.sexps_are_forms.ensures.stands text c.args.form.now c.requires.of in
    let parts = c.in-Some.parts.now in
    let is = c.in-Some.ensures.parts text in
    let count = count_form text form (place_of form) parts is in
    let enough : 2 ≤ length (parts_of form) = (let f = c.if-parts-lt2.false in omega (arith, count, f)) in
    let set = c.has_target.ensures ∙ ap (list_any (is_of_rank goal_keywords 5)) (items_are text form (place_of form) parts is) in
    let some : list_any (is_of_rank goal_keywords 5) (items_of_goal form) ≡ true = sym set ∙ c.if-not-has_target.false in
    let g1 = nth_part text form (place_of form) parts 1 c.index-parts-1.result is (let f = c.if-parts-lt2.false in omega (arith, f)) c.index-parts-1.is in
    let first = sexp_form text c.index-parts-1.result in
    let i = c.loop-index.index in
    let l = c.loop-index.auto.index in
    let inv = c.loop-index.invariant in
    let most : length (parts_of form) ≤ i = (let f = c.loop-index-test.false in omega (arith, f, count)) in
    whole_clear declared names form i enough some most inv.clear

pub returns-clause-named : goal.returns-clause-named
returns-clause-named c =
    let text = c.args.text.now in
    let form = sexp_form text c.args.form.now in
    let parts = c.in-Some.parts.now in
    let is = c.in-Some.ensures.parts text in
    let g1 = nth_part text form (place_of form) parts 1 c.index-parts-1.result is (let f = c.if-parts-lt2.false in omega (arith, f)) c.index-parts-1.is in
    target_told form _ c.in_ok-bytes.bytes.now g1 c.in_ok-bytes.ensures.named ∙ ap Some (sym c.in_ok-name.ensures)
