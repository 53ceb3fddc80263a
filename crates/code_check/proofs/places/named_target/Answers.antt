use Rattle.std.proofs.Common.{◌≡◌, Some, None, sym, subst, ◌∙◌, arith}
use Rattle.std.specs.Prelude.{MatchOption}
use Rattle.forms.specs.Forms.{place_of, sexp_form}
use Rattle.code_check.proofs.CodePlaces.{target_is}
use Rattle.code_check.proofs.FormLists.{count_form, nth_part}
use Rattle.code_check.proofs.places.named_target.Goals as goal

pub returns : goal.returns
returns c =
    let text = c.args.text.now in
    let form = sexp_form text c.args.form.now in
    let parts = c.in-Some.parts.now in
    let is = c.in-Some.ensures.parts text in
    let count = count_form text form (place_of form) parts is in
    let g1 = nth_part text form (place_of form) parts 1 c.index-parts-1.result is (let f = c.if-parts-lt3.false in omega (arith, f)) c.index-parts-1.is in
    let told = target_is form (sexp_form text c.index-parts-1.result) (sym c.has_head.ensures ∙ c.if-not-has_head.false) (let f = c.if-parts-lt3.false in omega (arith, count, f)) g1 in
    subst (λ o. MatchOption c.name.result (o ≡ None) (λ bytes. o ≡ Some bytes.now)) (sym told) c.name.ensures.name
