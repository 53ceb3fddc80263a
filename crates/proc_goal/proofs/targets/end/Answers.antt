use Rattle.std.proofs.Common.{◌≡◌, ◌≢◌, ◌≤◌, ◌<◌, ◌+◌, ◌++◌, ℕ, List, [], ◌∷◌, Some, codes, length, map, true, false, sym, ◌∙◌, ap, refl, subst, arith, slice_get}
use Rattle.std.proofs.lemmas.List.{length-map}
use Rattle.std.proofs.lemmas.Result.{err_from_is_err_and}
use Rattle.text_core.specs.Faults.{IsFaultBy, IsFirst}
use Rattle.text_core.specs.declared.faults.Kind.TheVariants.{BadForm}
use Rattle.forms.specs.Forms.{Form, place_of, sexp_form, sexp_forms}
use Rattle.forms.proofs.Told.{told_as}
use Rattle.goal_reader.proofs.NewNames.{part_of}
use Rattle.goal_reader.proofs.TextEnd.{nth_form}
use Rattle.proc_goal.specs.ProcReading.{IsFirstAmong}
use Rattle.proc_goal.specs.ProcRoles as roles
use Rattle.proc_goal.specs.ProcRoles.{IsProcFaultAs, step_role}
use Rattle.proc_goal.proofs.Sequences.{after}
use Rattle.proc_goal.proofs.SetSteps.{end_go_first, end_second_first, end_wrong_first}
use Rattle.proc_goal.proofs.ListForms.{alone}
use Rattle.proc_goal.proofs.targets.end.Goals as goal

pub go-requires-clause-head : goal.go-requires-clause-head
go-requires-clause-head c = sym c.has_head.ensures ∙ c.if-not-has_head.false

pub returns-then-not-has_head-clause-fault : goal.returns-then-not-has_head-clause-fault
returns-then-not-has_head-clause-fault c = λ vars front is.
    let text = c.args.text.now in
    let items = sexp_forms text c.args.items.now in
    let form = sexp_form text c.index-items-0.result in
    let g = nth_form text c.args.items.now 0 c.index-items-0.result c.requires.there c.index-items-0.is in
    let of = c.sexps_are_forms.ensures.stands text c.index-items-0.result (part_of text c.args.items.now 0 c.index-items-0.result c.requires.of c.requires.there c.index-items-0.is) in
    let one = end_wrong_first vars c.args.names.now front items is form g of.0 of.1 of.2 (sym c.has_head.ensures ∙ c.if-not-has_head.true) in
    subst (λ f. IsFaultBy (IsFirstAmong (after front (step_role vars c.args.names.now)) items) f) (sym c.at.ensures) (subst (λ p. IsFirstAmong (after front (step_role vars c.args.names.now)) items p BadForm) (sym (c.place.ensures text)) one)

pub returns-in_err-target-clause-fault : goal.returns-in_err-target-clause-fault
returns-in_err-target-clause-fault c =
    let p = err_from_is_err_and c.from_residual.result c.from_residual.ensures.1 in
    let text = c.args.text.now in
    let items = sexp_forms text c.args.items.now in
    let form = sexp_form text c.index-items-0.result in
    let g = nth_form text c.args.items.now 0 c.index-items-0.result c.requires.there c.index-items-0.is in
    rw (p.1, p.2)
    (λ vars front is. (told_as (IsFirst (IsProcFaultAs (roles.a_go c.args.names.now) form)) (IsFirstAmong (after front (step_role vars c.args.names.now)) items)
    (λ place kind one. end_go_first vars c.args.names.now front items is form g (sym c.has_head.ensures ∙ c.if-not-has_head.false) place kind one) c.in_err-target.field-0.0 c.in_err-target.ensures.fault))

pub returns-then-items-gt1-clause-fault : goal.returns-then-items-gt1-clause-fault
returns-then-items-gt1-clause-fault c = λ vars front is.
    let text = c.args.text.now in
    let items = sexp_forms text c.args.items.now in
    let form = sexp_form text c.index-items-0.result in
    let g = nth_form text c.args.items.now 0 c.index-items-0.result c.requires.there c.index-items-0.is in
    let second = sexp_form text c.index-items-1.result in
    let g2 = nth_form text c.args.items.now 1 c.index-items-1.result c.if-items-gt1.true c.index-items-1.is in
    let of = c.sexps_are_forms.ensures.stands text c.index-items-1.result (part_of text c.args.items.now 1 c.index-items-1.result c.requires.of c.if-items-gt1.true c.index-items-1.is) in
    let one = end_second_first vars c.args.names.now front items is form g (sym c.has_head.ensures ∙ c.if-not-has_head.false) c.in_ok-target.ensures.clear second of.0 of.1 of.2 g2 in
    subst (λ f. IsFaultBy (IsFirstAmong (after front (step_role vars c.args.names.now)) items) f) (sym c.at-then-items-gt1.ensures) (subst (λ p. IsFirstAmong (after front (step_role vars c.args.names.now)) items p BadForm) (sym (c.place-then-items-gt1.ensures text)) one)

pub returns-clause-end : goal.returns-clause-end
returns-clause-end c =
    let text = c.args.text.now in
    let items = sexp_forms text c.args.items.now in
    let form = sexp_form text c.index-items-0.result in
    let g = nth_form text c.args.items.now 0 c.index-items-0.result c.requires.there c.index-items-0.is in
    record {
      form = form;
      alone = alone items form g (let l = length-map c.args.items.now (sexp_form text) in let m = c.if-items-gt1.false in omega (arith, l, m));
      head = sym c.has_head.ensures ∙ c.if-not-has_head.false;
      writes = c.in_ok-target.ensures.go;
      clear = c.in_ok-target.ensures.clear;
    }
