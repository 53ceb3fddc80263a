use Rattle.std.proofs.Common.{◌≡◌, ◌<◌, ◌≤◌, List, Some, codes, length, sym, ◌∙◌, ap, refl, subst, arith}
use Rattle.std.proofs.lemmas.Result.{err_from_is_err_and}
use Rattle.text_core.specs.declared.faults.Kind.TheVariants.{BadForm}
use Rattle.forms.specs.Forms.{Form, place_of, sexp_form, parts_of}
use Rattle.forms.proofs.Told.{told, told_of_part}
use Rattle.goal_reader.proofs.NewNames.{nth_part, part_of, count_form}
use Rattle.proc_goal.specs.ProcRoles as roles
use Rattle.proc_goal.specs.ProcRoles.{IsProcFaultAs}
use Rattle.proc_goal.proofs.Items.{head_is_list}
use Rattle.proc_goal.proofs.ListForms.{go_clear, go_second_first, go_target_first, go_writes, short_go_first}
use Rattle.proc_goal.proofs.targets.go.Goals as goal

pub unreachable-requires : goal.unreachable-requires
unreachable-requires c =
    head_is_list (codes "go") (sexp_form c.args.text.now c.args.form.now) c.requires.head (c.in_default.ensures.parts c.args.text.now)

pub returns-then-parts-lt2-clause-fault : goal.returns-then-parts-lt2-clause-fault
returns-then-parts-lt2-clause-fault c =
    let text = c.args.text.now in
    let form = sexp_form text c.args.form.now in
    let s = c.sexps_are_forms.ensures.stands text c.args.form.now c.requires.of in
    let parts = c.in-Some.parts.now in
    let is = c.in-Some.ensures.parts text in
    let names = c.args.names.now in
    let count = count_form text form (place_of form) parts is in
    told (IsProcFaultAs (roles.a_go names) form) c.at.result c.place.result (place_of form) _ c.at.ensures (c.place.ensures text)
    (short_go_first names form s.0 s.1 s.2 (let f = c.if-parts-lt2.true in omega (arith, count, f)))

pub returns-in_err-target-clause-fault : goal.returns-in_err-target-clause-fault
returns-in_err-target-clause-fault c =
    let p = err_from_is_err_and c.from_residual.result c.from_residual.ensures.1 in
    let text = c.args.text.now in
    let form = sexp_form text c.args.form.now in
    let s = c.sexps_are_forms.ensures.stands text c.args.form.now c.requires.of in
    let parts = c.in-Some.parts.now in
    let is = c.in-Some.ensures.parts text in
    let names = c.args.names.now in
    let count = count_form text form (place_of form) parts is in
    let enough : 2 ≤ length (parts_of form) = (let f = c.if-parts-lt2.false in omega (arith, count, f)) in
    let first = sexp_form text c.index-parts-1.result in
    let g1 = nth_part text form (place_of form) parts 1 c.index-parts-1.result is (let f = c.if-parts-lt2.false in omega (arith, f)) c.index-parts-1.is in
    rw (p.1, p.2)
    (told_of_part (IsProcFaultAs (roles.a_target names) first) (IsProcFaultAs (roles.a_go names) form)
    (λ k kind one. go_target_first names form first g1 enough s.0 s.1 k kind s.2 one) c.in_err-target.field-0.0 c.in_err-target.ensures.fault)

pub returns-then-parts-gt2-clause-fault : goal.returns-then-parts-gt2-clause-fault
returns-then-parts-gt2-clause-fault c =
    let text = c.args.text.now in
    let form = sexp_form text c.args.form.now in
    let s = c.sexps_are_forms.ensures.stands text c.args.form.now c.requires.of in
    let parts = c.in-Some.parts.now in
    let is = c.in-Some.ensures.parts text in
    let names = c.args.names.now in
    let count = count_form text form (place_of form) parts is in
    let enough : 2 ≤ length (parts_of form) = (let f = c.if-parts-lt2.false in omega (arith, count, f)) in
    let first = sexp_form text c.index-parts-1.result in
    let g1 = nth_part text form (place_of form) parts 1 c.index-parts-1.result is (let f = c.if-parts-lt2.false in omega (arith, f)) c.index-parts-1.is in
    let second = sexp_form text c.index-parts-2.result in
    let g2 = nth_part text form (place_of form) parts 2 c.index-parts-2.result is c.if-parts-gt2.true c.index-parts-2.is in
    let of = c.sexps_are_forms.ensures.stands text c.index-parts-2.result (part_of text parts 2 c.index-parts-2.result (c.in-Some.ensures.of text c.requires.of) c.if-parts-gt2.true c.index-parts-2.is) in
    told (IsProcFaultAs (roles.a_go names) form) c.at-then-parts-gt2.result c.place-then-parts-gt2.result (place_of second) _ c.at-then-parts-gt2.ensures (c.place-then-parts-gt2.ensures text)
    (go_second_first names form first g1 enough c.in_ok-target.ensures.clear s.0 s.1 second of.0 of.1 s.2 of.2 g2)

pub returns-clause-go : goal.returns-clause-go
returns-clause-go c =
    let text = c.args.text.now in
    let form = sexp_form text c.args.form.now in
    let s = c.sexps_are_forms.ensures.stands text c.args.form.now c.requires.of in
    let parts = c.in-Some.parts.now in
    let is = c.in-Some.ensures.parts text in
    let names = c.args.names.now in
    let count = count_form text form (place_of form) parts is in
    let enough : 2 ≤ length (parts_of form) = (let f = c.if-parts-lt2.false in omega (arith, count, f)) in
    let first = sexp_form text c.index-parts-1.result in
    let g1 = nth_part text form (place_of form) parts 1 c.index-parts-1.result is (let f = c.if-parts-lt2.false in omega (arith, f)) c.index-parts-1.is in
    go_writes names form first c.in_ok-target.target c.requires.head g1 (let f = c.if-parts-gt2.false in omega (arith, count, f)) c.in_ok-target.ensures.target

pub returns-clause-clear : goal.returns-clause-clear
returns-clause-clear c =
    let text = c.args.text.now in
    let form = sexp_form text c.args.form.now in
    let s = c.sexps_are_forms.ensures.stands text c.args.form.now c.requires.of in
    let parts = c.in-Some.parts.now in
    let is = c.in-Some.ensures.parts text in
    let names = c.args.names.now in
    let count = count_form text form (place_of form) parts is in
    let enough : 2 ≤ length (parts_of form) = (let f = c.if-parts-lt2.false in omega (arith, count, f)) in
    let first = sexp_form text c.index-parts-1.result in
    let g1 = nth_part text form (place_of form) parts 1 c.index-parts-1.result is (let f = c.if-parts-lt2.false in omega (arith, f)) c.index-parts-1.is in
    go_clear names form first g1 enough c.in_ok-target.ensures.clear (let f = c.if-parts-gt2.false in omega (arith, count, f))
