use Rattle.std.proofs.Common.{◌≡◌, ℕ, ◌-◌, All, List, drop, length, map, take, sym, ap, subst, ◌∙◌, arith}
use Rattle.std.proofs.lemmas.List.{drop-map, length-take-le, take_rest}
use Rattle.std.proofs.lemmas.List.Elements.{All-drop}
use Rattle.std.proofs.lemmas.Result.{err_from_is_err_and}
use Rattle.text_core.specs.Faults.{IsFirst}
use Rattle.text_core.specs.declared.sexps.Sexp.{Sexp}
use Rattle.forms.specs.Forms.{Form, Stand, forms_from, sexp_form, sexp_forms}
use Rattle.forms.specs.Reading.{IsSexpOf}
use Rattle.forms.proofs.Told.{told_as}
use Rattle.machine_table.specs.Grammar.{Each}
use Rattle.goal_meaning.specs.Views.{GoalTree, goal_view, input_view}
use Rattle.goal_meaning.specs.declared.goals.Goal.{Goal}
use Rattle.goal_reader.specs.Grammar.{IsFirstTextFault, Reads}
use Rattle.code_check.specs.CodeGrammar.{WritesCode}
use Rattle.code_check.specs.CodeReading.{AreGoals, IsFormsFault, bytes_before, of_codes, of_goals}
use Rattle.code_check.specs.CodeRoles.{IsCodesFault, first_place, from_codes}
use Rattle.code_check.proofs.CodeTexts.{begins_within, stand_behind}
use Rattle.code_check.proofs.ReadTexts.{are_goals, well_formed_is}
use Rattle.code_check.proofs.reading.read_forms.Goals as goal

-- the forms from the first code on
rest_stands : (text : List ℕ) (forms : List Sexp) (n : ℕ) → Stand 0 (length text) (forms_from (sexp_forms text forms)) → (low : ℕ) × Stand low (length text) (forms_from (sexp_forms text (take (length forms - n) (drop n forms))))
rest_stands text forms n h =
    let behind = stand_behind n 0 (length text) (sexp_forms text forms) h in
    (behind.0, subst (λ (fs : List Form). Stand behind.0 (length text) (forms_from fs)) (drop-map (sexp_form text) n forms ∙ ap (sexp_forms text) (sym (take_rest forms n))) behind.1)

pub slice_bounds-read-end : goal.slice_bounds-read-end
slice_bounds-read-end c =
    let text = c.args.text.now in
    let h = rest_stands text c.args.forms.now c.first_code-first.result c.requires.stand in
    let l = begins_within h.0 (length text) _ h.1 in
    let e = c.begin-end.ensures in
    sym (length-take-le c.begin-end.result text (omega (arith, l, e)))

pub read_codes-requires : goal.read_codes-requires
read_codes-requires c =
    let text = c.args.text.now in
    let forms = c.args.forms.now in
    let n = c.first_code-first.result in
    record {
      of = subst (All (IsSexpOf text)) (sym (take_rest forms n)) (All-drop (IsSexpOf text) n forms c.requires.of);
      stand = rest_stands text forms n c.requires.stand;
      small = c.requires.small;
      goals = subst (λ (gs : List Goal). AreGoals (map goal_view gs)) (sym c.as_slice.ensures)
          (are_goals (input_view c.in_ok-input.input) (well_formed_is c.read_inputs_are_well_formed.ensures text c.begin-end.result c.requires.small (input_view c.in_ok-input.input) c.in_ok-input.ensures.input));
    }

pub returns-in_err-input-clause-fault : goal.returns-in_err-input-clause-fault
returns-in_err-input-clause-fault c =
    let p = err_from_is_err_and c.from_residual.result c.from_residual.ensures.1 in
    let text = c.args.text.now in
    let forms = c.args.forms.now in
    let n = c.first_code-first.result in
    let rest = take (length forms - n) (drop n forms) in
    let from : sexp_forms text rest ≡ from_codes (sexp_forms text forms) = ap (sexp_forms text) (take_rest forms n) ∙ sym c.first_code-first.ensures.from in
    let begins : take c.begin-end.result text ≡ bytes_before text (sexp_forms text forms) = ap (λ k. take k text) (c.begin-end.ensures ∙ ap (first_place (length text)) from) in
    rw (p.1, p.2)
    (told_as (IsFirstTextFault (take c.begin-end.result text)) (IsFormsFault text (sexp_forms text forms))
    (λ place kind f. of_goals (subst (λ t. IsFirstTextFault t place kind) begins f)) c.in_err-input.field-0.0 c.in_err-input.ensures.fault)

pub returns-in_err-codes-clause-fault : goal.returns-in_err-codes-clause-fault
returns-in_err-codes-clause-fault c =
    let p = err_from_is_err_and c.from_residual-in_err-codes.result c.from_residual-in_err-codes.ensures.1 in
    let text = c.args.text.now in
    let forms = c.args.forms.now in
    let n = c.first_code-first.result in
    let rest = take (length forms - n) (drop n forms) in
    let from : sexp_forms text rest ≡ from_codes (sexp_forms text forms) = ap (sexp_forms text) (take_rest forms n) ∙ sym c.first_code-first.ensures.from in
    let begins : take c.begin-end.result text ≡ bytes_before text (sexp_forms text forms) = ap (λ k. take k text) (c.begin-end.ensures ∙ ap (first_place (length text)) from) in
    let input = input_view c.in_ok-input.input in
    let goals : map goal_view c.as_slice.result.now ≡ input.goals = ap (map goal_view) c.as_slice.ensures in
    rw (p.1, p.2)
    (told_as (IsFirst (IsCodesFault (map goal_view c.as_slice.result.now) (length text) (sexp_forms text rest))) (IsFormsFault text (sexp_forms text forms))
    (λ place kind f. of_codes input (subst (λ t. Reads t input) begins c.in_ok-input.ensures.input)
    (subst (λ (fs : List Form). IsFirst (IsCodesFault input.goals (length text) fs) place kind) from
    (subst (λ (gs : List GoalTree). IsFirst (IsCodesFault gs (length text) (sexp_forms text rest)) place kind) goals f))) c.in_err-codes.field-0.0 c.in_err-codes.ensures.fault)

pub returns-clause-written : goal.returns-clause-written
returns-clause-written c =
    let text = c.args.text.now in
    let forms = c.args.forms.now in
    let n = c.first_code-first.result in
    let rest = take (length forms - n) (drop n forms) in
    let from : sexp_forms text rest ≡ from_codes (sexp_forms text forms) = ap (sexp_forms text) (take_rest forms n) ∙ sym c.first_code-first.ensures.from in
    let begins : take c.begin-end.result text ≡ bytes_before text (sexp_forms text forms) = ap (λ k. take k text) (c.begin-end.ensures ∙ ap (first_place (length text)) from) in
    let input = input_view c.in_ok-input.input in
    let goals : map goal_view c.as_slice.result.now ≡ input.goals = ap (map goal_view) c.as_slice.ensures in
    record {
      goals = subst (λ t. Reads t input) begins c.in_ok-input.ensures.input;
      each = subst (λ (fs : List Form). Each (WritesCode input.goals) fs c.in_ok-codes.codes) from
          (subst (λ (gs : List GoalTree). Each (WritesCode gs) (sexp_forms text rest) c.in_ok-codes.codes) goals c.in_ok-codes.ensures.codes);
      some = c.in_ok-codes.ensures.few.0;
      few = c.in_ok-codes.ensures.few.1;
    }

pub returns-clause-well_formed : goal.returns-clause-well_formed
returns-clause-well_formed c = well_formed_is c.read_inputs_are_well_formed.ensures c.args.text.now c.begin-end.result c.requires.small (input_view c.in_ok-input.input) c.in_ok-input.ensures.input
