use Rattle.std.proofs.Common.{◌≡◌, ◌++◌, List, [], ◌∷◌, map, take, sym, subst}
use Rattle.std.proofs.lemmas.List.{take-map}
use Rattle.std.proofs.lemmas.Result.{err_from_is_err_and}
use Rattle.text_core.specs.Faults.{IsFaultBy}
use Rattle.forms.specs.Forms.{Form, sexp_form, sexp_forms}
use Rattle.forms.proofs.Told.{told_as}
use Rattle.machine_table.specs.Grammar as grammar
use Rattle.machine_table.specs.Grammar.{Each}
use Rattle.goal_meaning.specs.Views.{target_view}
use Rattle.code_check.specs.CodeGrammar.{WritesPlace}
use Rattle.code_check.specs.CodeReading.{IsClearCode, IsFirstCodeFault, IsFirstPlaceFault}
use Rattle.code_check.specs.CodeRoles.{place_role}
use Rattle.code_check.proofs.CodePlaces.{none_clear, one_more_clear}
use Rattle.code_check.proofs.FormLists.{each_more, got_more, nth_form}
use Rattle.code_check.proofs.places.places.Goals as goal

pub loop-index-init : goal.loop-index-init
loop-index-init c =
    let sets = map target_view c.args.sets.now in
    record {
      each = subst (λ ps. Each (WritesPlace sets) [] ps) (sym c.new-places.ensures.items) grammar.none;
      clear = none_clear sets (sexp_forms c.args.text.now c.args.forms.now);
    }

pub returns-in_err-read-clause-fault : goal.returns-in_err-read-clause-fault
returns-in_err-read-clause-fault c =
    let p = err_from_is_err_and c.from_residual.result c.from_residual.ensures.1 in
    let text = c.args.text.now in
    let sets = map target_view c.args.sets.now in
    let forms = sexp_forms text c.args.forms.now in
    let i = c.loop-index.index in
    let form = sexp_form text c.index-forms-index.result in
    let g = nth_form text c.args.forms.now i c.index-forms-index.result c.loop-index-test.true c.index-forms-index.is in
    let before : sexp_forms text (take i c.args.forms.now) ≡ take i forms = sym (take-map (sexp_form text) i c.args.forms.now) in
    let fault = subst (λ (fs : List Form). IsFaultBy (IsFirstCodeFault (place_role sets fs form) form) c.in_err-read.field-0.0) before c.in_err-read.ensures.fault in
    rw (p.1, p.2)
    (told_as (IsFirstCodeFault (place_role sets (take i forms) form) form) (IsFirstPlaceFault sets forms)
    (λ place kind one. record { at = i; form = form; there = g; clear = c.loop-index.invariant.clear; first = one }) c.in_err-read.field-0.0 fault)

pub loop-index-preserved : goal.loop-index-preserved
loop-index-preserved c =
    let text = c.args.text.now in
    let sets = map target_view c.args.sets.now in
    let forms = sexp_forms text c.args.forms.now in
    let i = c.loop-index.index in
    let inv = c.loop-index.invariant in
    let form = sexp_form text c.index-forms-index.result in
    let g = nth_form text c.args.forms.now i c.index-forms-index.result c.loop-index-test.true c.index-forms-index.is in
    let before : sexp_forms text (take i c.args.forms.now) ≡ take i forms = sym (take-map (sexp_form text) i c.args.forms.now) in
    let each = each_more (WritesPlace sets) (take i forms) c.loop-index.places.items form c.in_ok-read.read inv.each c.in_ok-read.ensures.place in
    record {
      each = subst (λ (fs : List Form). Each (WritesPlace sets) fs c.push.new.self.items) (sym (got_more forms i form g))
          (subst (λ ps. Each (WritesPlace sets) (take i forms ++ form ∷ []) ps) (sym c.in_ok-push.ensures.items) each);
      clear = one_more_clear sets forms i form g (subst (λ (fs : List Form). IsClearCode (place_role sets fs form) form) before c.in_ok-read.ensures.clear) inv.clear;
    }
