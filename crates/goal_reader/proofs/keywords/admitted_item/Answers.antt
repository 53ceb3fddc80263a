use Rattle.std.proofs.Common.{◌≡◌, ◌<◌, ◌≤◌, true, false, length, refl, sym, ap, ◌∙◌, subst, arith}
use Rattle.std.specs.List.{list_any}
use Rattle.text_core.specs.declared.faults.Kind.TheVariants.{BadForm}
use Rattle.text_core.specs.Faults.{IsFirst}
use Rattle.forms.specs.Forms.{place_of, sexp_form}
use Rattle.forms.proofs.Told.{told}
use Rattle.goal_reader.specs.Roles.{Role, IsFaultAs, wrong, goal_keywords, goal_bounds, bound_at, is_later_than, of_rank, role_in, role_of_rank}
use Rattle.goal_reader.specs.Keywords.{item_rank}
use Rattle.goal_reader.specs.declared.order.Admission.TheVariants.{OutOfOrder, Beyond}
use Rattle.goal_reader.proofs.Fixed.{wrong_first}
use Rattle.goal_reader.proofs.Admitting.{role_told, beyond_first}
use Rattle.goal_reader.proofs.keywords.admitted_item.Goals as goal

pub returns-in_default-clause-fault : goal.returns-in_default-clause-fault
returns-in_default-clause-fault c = λ before inner h.
    let text = c.args.text.now in
    let form = sexp_form text c.args.form.now in
    let s = c.sexps_are_forms.ensures.stands text c.args.form.now c.requires.of in
    let role : role_in goal_keywords goal_bounds before inner form ≡ wrong = ap (role_of_rank goal_keywords goal_bounds before inner) (sym c.in_default.ensures) in
    told (IsFaultAs (role_in goal_keywords goal_bounds before inner form) form) c.at.result c.place.result (place_of form) _ c.at.ensures (c.place.ensures text)
    (subst (λ (r : Role). IsFirst (IsFaultAs r form) (place_of form) BadForm) (sym role) (wrong_first form s.0 s.1 s.2))

pub returns-in-OutOfOrder-clause-fault : goal.returns-in-OutOfOrder-clause-fault
returns-in-OutOfOrder-clause-fault c = λ before inner h.
    let text = c.args.text.now in
    let form = sexp_form text c.args.form.now in
    let s = c.sexps_are_forms.ensures.stands text c.args.form.now c.requires.of in
    let late : list_any (is_later_than goal_keywords (item_rank c.in-Some.keyword)) before ≡ true =
    subst (λ n. list_any (is_later_than goal_keywords n) before ≡ true) c.rank.ensures (c.in-OutOfOrder.ensures.admission goal_keywords before h) in
    let role = role_told goal_keywords goal_bounds before inner form (item_rank c.in-Some.keyword) OutOfOrder (sym c.in-Some.ensures) late in
    told (IsFaultAs (role_in goal_keywords goal_bounds before inner form) form) c.at-in-OutOfOrder.result c.place-in-OutOfOrder.result (place_of form) _ c.at-in-OutOfOrder.ensures (c.place-in-OutOfOrder.ensures text)
    (subst (λ (r : Role). IsFirst (IsFaultAs r form) (place_of form) BadForm) (sym role) (wrong_first form s.0 s.1 s.2))

pub returns-in-Beyond-clause-fault : goal.returns-in-Beyond-clause-fault
returns-in-Beyond-clause-fault c = λ before inner h.
    let text = c.args.text.now in
    let form = sexp_form text c.args.form.now in
    let s = c.sexps_are_forms.ensures.stands text c.args.form.now c.requires.of in
    let at = item_rank c.in-Some.keyword in
    let beyond = (bound_at goal_bounds at).beyond in
    let is =
    subst (λ n. (list_any (is_later_than goal_keywords n) before ≡ false) × (c.most.result ≤ length (of_rank goal_keywords n before)))
    c.rank.ensures (c.in-Beyond.ensures.admission goal_keywords before h) in
    let most : (bound_at goal_bounds at).most ≤ length (of_rank goal_keywords at before) = subst (λ n. n ≤ length (of_rank goal_keywords at before)) c.most.ensures.most is.1 in
    let role = role_told goal_keywords goal_bounds before inner form at Beyond (sym c.in-Some.ensures) (is.0, most) in
    let first = subst (λ k. IsFirst (IsFaultAs beyond form) (place_of form) k) (sym c.beyond.ensures) (beyond_first form s.0 s.1 s.2 at) in
    told (IsFaultAs (role_in goal_keywords goal_bounds before inner form) form) c.at-in-Beyond.result c.place-in-Beyond.result (place_of form) _ c.at-in-Beyond.ensures (c.place-in-Beyond.ensures text)
    (subst (λ (r : Role). IsFirst (IsFaultAs r form) (place_of form) c.beyond.result) (sym role) first)

pub returns-in-Admitted-clause-admitted : goal.returns-in-Admitted-clause-admitted
returns-in-Admitted-clause-admitted c = λ before h.
    let at = item_rank c.in-Some.keyword in
    let is =
    subst (λ n. (list_any (is_later_than goal_keywords n) before ≡ false) × (length (of_rank goal_keywords n before) < c.most.result))
    c.rank.ensures (c.in-Admitted.ensures.admission goal_keywords before h) in
    (is.0, subst (λ most. length (of_rank goal_keywords at before) < most) c.most.ensures.most is.1)

pub returns-in-Admitted-clause-later : goal.returns-in-Admitted-clause-later
returns-in-Admitted-clause-later c =
    subst (λ n. c.args.order.now.last ≤ n) c.rank.ensures (c.in-Admitted.ensures.next refl).0

pub returns-in-Admitted-clause-few : goal.returns-in-Admitted-clause-few
returns-in-Admitted-clause-few c = λ is.
    let fewer = (c.in-Admitted.ensures.next refl).1 (c.rank.ensures ∙ is) in
    let most = c.most.ensures.few in
    omega (arith, fewer, most)
