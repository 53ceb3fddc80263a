use Rattle.std.proofs.Common.{◌≡◌, ◌++◌, ◌<◌, ◌≤◌, [], ◌∷◌, length, take, ◌∙◌, ap, arith, length-append}
use Rattle.std.proofs.lemmas.Result.{err_from_is_err_and}
use Rattle.std.proofs.lemmas.List.{take_all}
use Rattle.forms.specs.Forms.{place_of, sexp_form, parts_of, names_in}
use Rattle.forms.proofs.Told.{told, told_of_part}
use Rattle.goal_reader.specs.Roles as roles
use Rattle.goal_reader.specs.Roles.{IsFaultAs}
use Rattle.goal_meaning.specs.Names.{names_of_declared}
use Rattle.goal_reader.proofs.Growing.{all_clear}
use Rattle.goal_reader.proofs.NewNames.{nth_part, part_of, count_form}
use Rattle.goal_reader.proofs.VariableSteps.{no_part, none_left, some_left, variables_own, short_first, name_first, ninth_first, names_next, variable_clear}
use Rattle.goal_reader.proofs.variables.variables.Goals as goal

pub returns-in_default-clause-fault : goal.returns-in_default-clause-fault
returns-in_default-clause-fault c =
    let text = c.args.text.now in
    let form = sexp_form text c.args.form.now in
    let declared = c.args.declared.now in
    let s = c.sexps_are_forms.ensures.stands text c.args.form.now c.requires.of in
    told (IsFaultAs (roles.a_list (roles.variables declared)) form) c.at.result c.place.result (place_of form) _ c.at.ensures (c.place.ensures text)
    (short_first declared form s.0 s.1 s.2 (no_part form (c.in_default.ensures.parts text)))

pub returns-then-is_empty-clause-fault : goal.returns-then-is_empty-clause-fault
returns-then-is_empty-clause-fault c =
    let text = c.args.text.now in
    let form = sexp_form text c.args.form.now in
    let declared = c.args.declared.now in
    let s = c.sexps_are_forms.ensures.stands text c.args.form.now c.requires.of in
    let parts = c.in-Some.parts.now in
    let is = c.in-Some.ensures.parts text in
    let count = count_form text form (place_of form) parts is in
    let empty = none_left (length parts) c.is_empty.result c.is_empty.ensures c.if-is_empty.true in
    told (IsFaultAs (roles.a_list (roles.variables declared)) form) c.at-then-is_empty.result c.place-then-is_empty.result (place_of form) _ c.at-then-is_empty.ensures (c.place-then-is_empty.ensures text)
    (short_first declared form s.0 s.1 s.2 (omega (arith, count, empty)))

pub returns-then-index-ge-MOST_VARIABLES-clause-fault : goal.returns-then-index-ge-MOST_VARIABLES-clause-fault
returns-then-index-ge-MOST_VARIABLES-clause-fault c =
    let text = c.args.text.now in
    let form = sexp_form text c.args.form.now in
    let declared = c.args.declared.now in
    let s = c.sexps_are_forms.ensures.stands text c.args.form.now c.requires.of in
    let parts = c.in-Some.parts.now in
    let is = c.in-Some.ensures.parts text in
    let count = count_form text form (place_of form) parts is in
    let i = c.loop-index.index in
    let inv = c.loop-index.invariant in
    let g = nth_part text form (place_of form) parts i c.index-parts-index.result is c.loop-index-test.true c.index-parts-index.is in
    let part = sexp_form text c.index-parts-index.result in
    let some : 1 ≤ length (parts_of form) = (let l = c.loop-index-test.true in omega (arith, count, l)) in
    let of = c.sexps_are_forms.ensures.stands text c.index-parts-index.result (part_of text parts i c.index-parts-index.result (c.in-Some.ensures.of text c.requires.of) c.loop-index-test.true c.index-parts-index.is) in
    told (IsFaultAs (roles.a_list (roles.variables declared)) form) c.at-then-index-ge-MOST_VARIABLES.result c.place-then-index-ge-MOST_VARIABLES.result (place_of part) _ c.at-then-index-ge-MOST_VARIABLES.ensures (c.place-then-index-ge-MOST_VARIABLES.ensures text)
    (ninth_first declared form s.0 s.1 s.2 i part of.0 of.1 of.2 some c.if-index-ge-MOST_VARIABLES.true g inv.clear)

pub returns-in_err-bytes-clause-fault : goal.returns-in_err-bytes-clause-fault
returns-in_err-bytes-clause-fault c =
    let p = err_from_is_err_and c.from_residual.result c.from_residual.ensures.1 in
    let text = c.args.text.now in
    let form = sexp_form text c.args.form.now in
    let declared = c.args.declared.now in
    let s = c.sexps_are_forms.ensures.stands text c.args.form.now c.requires.of in
    let parts = c.in-Some.parts.now in
    let is = c.in-Some.ensures.parts text in
    let count = count_form text form (place_of form) parts is in
    let i = c.loop-index.index in
    let inv = c.loop-index.invariant in
    let g = nth_part text form (place_of form) parts i c.index-parts-index.result is c.loop-index-test.true c.index-parts-index.is in
    let part = sexp_form text c.index-parts-index.result in
    let some : 1 ≤ length (parts_of form) = (let l = c.loop-index-test.true in omega (arith, count, l)) in
    let below : i < 8 = (let l = c.if-index-ge-MOST_VARIABLES.false in omega (arith, l)) in
    let names = c.as_slice.result.now in
    let read : names ≡ names_in (take i (parts_of form)) = c.as_slice.ensures ∙ inv.read in
    rw (p.1, p.2)
    (told_of_part (IsFaultAs (roles.own_name (names_of_declared declared ++ names)) part) (IsFaultAs (roles.a_list (roles.variables declared)) form)
    (λ p k one. name_first declared form s.0 s.1 s.2 i part names p k some below g read inv.clear one) c.in_err-bytes.field-0.0 c.in_err-bytes.ensures.fault)

pub loop-index-preserved : goal.loop-index-preserved
loop-index-preserved c =
    let text = c.args.text.now in
    let form = sexp_form text c.args.form.now in
    let declared = c.args.declared.now in
    let s = c.sexps_are_forms.ensures.stands text c.args.form.now c.requires.of in
    let parts = c.in-Some.parts.now in
    let is = c.in-Some.ensures.parts text in
    let count = count_form text form (place_of form) parts is in
    let i = c.loop-index.index in
    let inv = c.loop-index.invariant in
    let g = nth_part text form (place_of form) parts i c.index-parts-index.result is c.loop-index-test.true c.index-parts-index.is in
    let part = sexp_form text c.index-parts-index.result in
    let some : 1 ≤ length (parts_of form) = (let l = c.loop-index-test.true in omega (arith, count, l)) in
    let below : i < 8 = (let l = c.if-index-ge-MOST_VARIABLES.false in omega (arith, l)) in
    let names = c.as_slice.result.now in
    let read : names ≡ names_in (take i (parts_of form)) = c.as_slice.ensures ∙ inv.read in
    let own = c.in_ok-bytes.ensures.ok in
    let pushed : c.push.new.self ≡ c.loop-index.names ++ c.in_ok-bytes.bytes.now ∷ [] = c.in_ok-push.ensures.ok ∙ ap (λ n. c.loop-index.names ++ n ∷ []) c.in_ok-new.ensures in
    let longer = ap length pushed ∙ length-append c.loop-index.names (c.in_ok-bytes.bytes.now ∷ []) in
    let before = inv.count in
    record {
      read = pushed ∙ names_next declared form i part c.loop-index.names c.in_ok-bytes.bytes.now g inv.read own.named;
      few = omega (arith, below);
      count = omega (arith, longer, before);
      clear = variable_clear declared form i part names c.in_ok-bytes.bytes.now below g read own inv.clear;
    }

pub returns-clause-names : goal.returns-clause-names
returns-clause-names c =
    let text = c.args.text.now in
    let form = sexp_form text c.args.form.now in
    let declared = c.args.declared.now in
    let s = c.sexps_are_forms.ensures.stands text c.args.form.now c.requires.of in
    let parts = c.in-Some.parts.now in
    let is = c.in-Some.ensures.parts text in
    let count = count_form text form (place_of form) parts is in
    let i = c.loop-index.index in
    let inv = c.loop-index.invariant in
    let most : length (parts_of form) ≤ i = (let f = c.loop-index-test.false in omega (arith, f, count)) in
    inv.read ∙ ap names_in (take_all i (parts_of form) most)

pub returns-clause-few : goal.returns-clause-few
returns-clause-few c =
    let text = c.args.text.now in
    let form = sexp_form text c.args.form.now in
    let declared = c.args.declared.now in
    let s = c.sexps_are_forms.ensures.stands text c.args.form.now c.requires.of in
    let parts = c.in-Some.parts.now in
    let is = c.in-Some.ensures.parts text in
    let count = count_form text form (place_of form) parts is in
    let i = c.loop-index.index in
    let inv = c.loop-index.invariant in
    let few = inv.few in
    let counted = inv.count in
    omega (arith, few, counted)

pub returns-clause-clear : goal.returns-clause-clear
returns-clause-clear c =
    let text = c.args.text.now in
    let form = sexp_form text c.args.form.now in
    let declared = c.args.declared.now in
    let s = c.sexps_are_forms.ensures.stands text c.args.form.now c.requires.of in
    let parts = c.in-Some.parts.now in
    let is = c.in-Some.ensures.parts text in
    let count = count_form text form (place_of form) parts is in
    let i = c.loop-index.index in
    let inv = c.loop-index.invariant in
    let most : length (parts_of form) ≤ i = (let f = c.loop-index-test.false in omega (arith, f, count)) in
    let some : 1 ≤ length (parts_of form) = (let e = some_left (length parts) c.is_empty.result c.is_empty.ensures c.if-is_empty.false in omega (arith, count, e)) in
    all_clear (roles.a_list (roles.variables declared)) form i (variables_own declared form some) most inv.clear
