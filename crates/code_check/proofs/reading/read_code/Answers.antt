use Rattle.std.proofs.Common.{◌≡◌, ◌≤◌, ◌-◌, List, codes, drop, take, false, true, refl, length, map, sym, ap, subst, ◌∙◌, arith}
use Rattle.std.proofs.lemmas.List.{length-map}
use Rattle.std.proofs.lemmas.Result.{err_from_is_err_and}
use Rattle.forms.specs.Forms.{Form, place_of, parts_of, sexp_form, sexp_forms}
use Rattle.text_core.specs.Faults.{IsFaultBy}
use Rattle.forms.proofs.Told.{told, told_as, told_of_part}
use Rattle.machine_table.specs.Grammar.{Each}
use Rattle.goal_meaning.specs.declared.goals.Goal.{Goal}
use Rattle.goal_meaning.specs.Views.{GoalTree, TargetTree, goal_view, target_view}
use Rattle.code_check.specs.CodeGrammar.{WritesPlace}
use Rattle.code_check.specs.CodeReading.{IsFirstCodeFault, IsFirstPlaceFault}
use Rattle.code_check.specs.CodeRoles as roles
use Rattle.code_check.specs.CodeRoles.{IsCodeFaultAs, lacks_place, places_in, sets_in}
use Rattle.code_check.proofs.FormLists.{count_form, nth_part, part_of}
use Rattle.code_check.proofs.CodeParts.{clear_behind, code_clear, code_written, few_targets, goal_at, goal_first, lacking_first, low_goal, places_are, places_first, rest_of, sets_told, short_first, words_first}
use Rattle.code_check.proofs.Leaves.{goal_name_clear}
use Rattle.code_check.proofs.ReadTexts.{targets_differ}
use Rattle.code_check.proofs.Searches.{listed_head}
use Rattle.code_check.proofs.reading.read_code.Goals as goal

pub unreachable-requires : goal.unreachable-requires
unreachable-requires c = listed_head (codes "code") (sexp_form c.args.text.now c.args.form.now) c.requires.head (c.in_default.ensures.parts c.args.text.now)

pub returns-then-parts-lt3-clause-fault : goal.returns-then-parts-lt3-clause-fault
returns-then-parts-lt3-clause-fault c =
    let text = c.args.text.now in
    let form = sexp_form text c.args.form.now in
    let goals = map goal_view c.args.goals.now in
    let s = c.sexps_are_forms.ensures.stands text c.args.form.now c.requires.of in
    let count = count_form text form (place_of form) c.in-Some.parts.now (c.in-Some.ensures.parts text) in
    told (IsCodeFaultAs (roles.a_code goals) form) c.at.result c.place.result (place_of form) _ c.at.ensures (c.place.ensures text)
    (short_first goals form s.0 s.1 s.2 (let f = c.if-parts-lt3.true in omega (arith, count, f)))

pub named_goal-requires : goal.named_goal-requires
named_goal-requires c = record {
  of = part_of c.args.text.now c.in-Some.parts.now 1 c.index-parts-1.result (c.in-Some.ensures.of c.args.text.now c.requires.of) (let f = c.if-parts-lt3.false in omega (arith, f)) c.index-parts-1.is;
  few = (let l = c.requires.goals.few in let n = length-map c.args.goals.now goal_view in omega (arith, l, n));
}

pub returns-in_err-goal-clause-fault : goal.returns-in_err-goal-clause-fault
returns-in_err-goal-clause-fault c =
    let p = err_from_is_err_and c.from_residual.result c.from_residual.ensures.1 in
    let text = c.args.text.now in
    let form = sexp_form text c.args.form.now in
    let goals = map goal_view c.args.goals.now in
    let s = c.sexps_are_forms.ensures.stands text c.args.form.now c.requires.of in
    let parts = c.in-Some.parts.now in
    let is = c.in-Some.ensures.parts text in
    let count = count_form text form (place_of form) parts is in
    let enough : 3 ≤ length (parts_of form) = (let f = c.if-parts-lt3.false in omega (arith, count, f)) in
    let first = sexp_form text c.index-parts-1.result in
    let g1 = nth_part text form (place_of form) parts 1 c.index-parts-1.result is (let f = c.if-parts-lt3.false in omega (arith, f)) c.index-parts-1.is in
    rw (p.1, p.2)
    (told_of_part (IsCodeFaultAs (roles.goal_name goals) first) (IsCodeFaultAs (roles.a_code goals) form)
    (λ k kind one. goal_first goals form enough first g1 s.0 s.1 k kind s.2 one) c.in_err-goal.field-0.0 c.in_err-goal.ensures.fault)

pub bounds-goals-goal : goal.bounds-goals-goal
bounds-goals-goal c = (let named = c.in_ok-goal.ensures.goal in low_goal c.args.goals.now c.in_ok-goal.goal named.found.item named.found.there)

pub lacks_place-requires : goal.lacks_place-requires
lacks_place-requires c = record { of = rest_of c.args.text.now c.in-Some.parts.now _ refl (c.in-Some.ensures.of c.args.text.now c.requires.of) }

pub returns-then-lacks_place-clause-fault : goal.returns-then-lacks_place-clause-fault
returns-then-lacks_place-clause-fault c =
    let text = c.args.text.now in
    let form = sexp_form text c.args.form.now in
    let goals = map goal_view c.args.goals.now in
    let s = c.sexps_are_forms.ensures.stands text c.args.form.now c.requires.of in
    let parts = c.in-Some.parts.now in
    let is = c.in-Some.ensures.parts text in
    let count = count_form text form (place_of form) parts is in
    let enough : 3 ≤ length (parts_of form) = (let f = c.if-parts-lt3.false in omega (arith, count, f)) in
    let first = sexp_form text c.index-parts-1.result in
    let g1 = nth_part text form (place_of form) parts 1 c.index-parts-1.result is (let f = c.if-parts-lt3.false in omega (arith, f)) c.index-parts-1.is in
    let rest = take (length parts - 3) (drop 3 parts) in
    let named = c.in_ok-goal.ensures.goal in
    let goal_is = named.found.item in
    let view = goal_at c.args.goals.now c.in_ok-goal.goal c.index-goals-goal.result goal_is named.found.there c.index-goals-goal.is in
    let sets : map target_view c.as_slice-sets.result.now ≡ goal_is.sets = ap (map target_view) c.as_slice-sets.ensures ∙ ap (λ (g : Goal). map target_view g.sets) (sym c.index-goals-goal.is) ∙ ap (λ (g : GoalTree). g.sets) view in
    let behind : sexp_forms text rest ≡ places_in form = places_are text form (place_of form) parts rest is refl in
    let told_sets : sets_in goals form ≡ goal_is.sets = sets_told goals form first g1 named.bytes goal_is named.named named.found.is in
    let lacks : lacks_place (sets_in goals form) (places_in form) ≡ true =
    subst (λ fs. lacks_place (sets_in goals form) fs ≡ true) behind
    (subst (λ (ts : List TargetTree). lacks_place ts (sexp_forms text rest) ≡ true) (sets ∙ sym told_sets) (sym c.lacks_place.ensures ∙ c.if-lacks_place.true)) in
    told (IsCodeFaultAs (roles.a_code goals) form) c.at-then-lacks_place.result c.place-then-lacks_place.result (place_of form) _ c.at-then-lacks_place.ensures (c.place-then-lacks_place.ensures text)
    (lacking_first goals form s.0 s.1 s.2 lacks)

pub words-requires : goal.words-requires
words-requires c = record {
  of = part_of c.args.text.now c.in-Some.parts.now 2 c.index-parts-2.result (c.in-Some.ensures.of c.args.text.now c.requires.of) (let f = c.if-parts-lt3.false in omega (arith, f)) c.index-parts-2.is;
  small = c.requires.small;
}

pub returns-in_err-words-clause-fault : goal.returns-in_err-words-clause-fault
returns-in_err-words-clause-fault c =
    let p = err_from_is_err_and c.from_residual-in_err-words.result c.from_residual-in_err-words.ensures.1 in
    let text = c.args.text.now in
    let form = sexp_form text c.args.form.now in
    let goals = map goal_view c.args.goals.now in
    let s = c.sexps_are_forms.ensures.stands text c.args.form.now c.requires.of in
    let parts = c.in-Some.parts.now in
    let is = c.in-Some.ensures.parts text in
    let count = count_form text form (place_of form) parts is in
    let enough : 3 ≤ length (parts_of form) = (let f = c.if-parts-lt3.false in omega (arith, count, f)) in
    let first = sexp_form text c.index-parts-1.result in
    let g1 = nth_part text form (place_of form) parts 1 c.index-parts-1.result is (let f = c.if-parts-lt3.false in omega (arith, f)) c.index-parts-1.is in
    let rest = take (length parts - 3) (drop 3 parts) in
    let named = c.in_ok-goal.ensures.goal in
    let goal_is = named.found.item in
    let view = goal_at c.args.goals.now c.in_ok-goal.goal c.index-goals-goal.result goal_is named.found.there c.index-goals-goal.is in
    let sets : map target_view c.as_slice-sets.result.now ≡ goal_is.sets = ap (map target_view) c.as_slice-sets.ensures ∙ ap (λ (g : Goal). map target_view g.sets) (sym c.index-goals-goal.is) ∙ ap (λ (g : GoalTree). g.sets) view in
    let behind : sexp_forms text rest ≡ places_in form = places_are text form (place_of form) parts rest is refl in
    let told_sets : sets_in goals form ≡ goal_is.sets = sets_told goals form first g1 named.bytes goal_is named.named named.found.is in
    let none_lacks : lacks_place goal_is.sets (places_in form) ≡ false =
    subst (λ fs. lacks_place goal_is.sets fs ≡ false) behind (subst (λ (ts : List TargetTree). lacks_place ts (sexp_forms text rest) ≡ false) sets (sym c.lacks_place.ensures ∙ c.if-lacks_place.false)) in
    let lacks : lacks_place (sets_in goals form) (places_in form) ≡ false = ap (λ (ts : List TargetTree). lacks_place ts (places_in form)) told_sets ∙ none_lacks in
    let name_clear = goal_name_clear goals first named.bytes goal_is named.named named.found.is in
    let second = sexp_form text c.index-parts-2.result in
    let g2 = nth_part text form (place_of form) parts 2 c.index-parts-2.result is (let f = c.if-parts-lt3.false in omega (arith, f)) c.index-parts-2.is in
    rw (p.1, p.2)
    (told_of_part (IsCodeFaultAs roles.word_list second) (IsCodeFaultAs (roles.a_code goals) form)
    (λ k kind one. words_first goals form enough first g1 lacks name_clear second g2 s.0 s.1 k kind s.2 one) c.in_err-words.field-0.0 c.in_err-words.ensures.fault)

pub places-requires : goal.places-requires
places-requires c =
    let named = c.in_ok-goal.ensures.goal in
    let goals = map goal_view c.args.goals.now in
    let view = goal_at c.args.goals.now c.in_ok-goal.goal c.index-goals-goal.result named.found.item named.found.there c.index-goals-goal.is in
    record {
      of = rest_of c.args.text.now c.in-Some.parts.now _ refl (c.in-Some.ensures.of c.args.text.now c.requires.of);
      few = few_targets goals c.requires.goals c.in_ok-goal.goal named.found.item named.found.there c.as_slice-sets.result.now
          (ap (map target_view) c.as_slice-sets.ensures ∙ ap (λ (g : Goal). map target_view g.sets) (sym c.index-goals-goal.is) ∙ ap (λ (g : GoalTree). g.sets) view);
    }

pub returns-in_err-places-clause-fault : goal.returns-in_err-places-clause-fault
returns-in_err-places-clause-fault c =
    let p = err_from_is_err_and c.from_residual-in_err-places.result c.from_residual-in_err-places.ensures.1 in
    let text = c.args.text.now in
    let form = sexp_form text c.args.form.now in
    let goals = map goal_view c.args.goals.now in
    let s = c.sexps_are_forms.ensures.stands text c.args.form.now c.requires.of in
    let parts = c.in-Some.parts.now in
    let is = c.in-Some.ensures.parts text in
    let count = count_form text form (place_of form) parts is in
    let enough : 3 ≤ length (parts_of form) = (let f = c.if-parts-lt3.false in omega (arith, count, f)) in
    let first = sexp_form text c.index-parts-1.result in
    let g1 = nth_part text form (place_of form) parts 1 c.index-parts-1.result is (let f = c.if-parts-lt3.false in omega (arith, f)) c.index-parts-1.is in
    let rest = take (length parts - 3) (drop 3 parts) in
    let named = c.in_ok-goal.ensures.goal in
    let goal_is = named.found.item in
    let view = goal_at c.args.goals.now c.in_ok-goal.goal c.index-goals-goal.result goal_is named.found.there c.index-goals-goal.is in
    let sets : map target_view c.as_slice-sets.result.now ≡ goal_is.sets = ap (map target_view) c.as_slice-sets.ensures ∙ ap (λ (g : Goal). map target_view g.sets) (sym c.index-goals-goal.is) ∙ ap (λ (g : GoalTree). g.sets) view in
    let behind : sexp_forms text rest ≡ places_in form = places_are text form (place_of form) parts rest is refl in
    let told_sets : sets_in goals form ≡ goal_is.sets = sets_told goals form first g1 named.bytes goal_is named.named named.found.is in
    let none_lacks : lacks_place goal_is.sets (places_in form) ≡ false =
    subst (λ fs. lacks_place goal_is.sets fs ≡ false) behind (subst (λ (ts : List TargetTree). lacks_place ts (sexp_forms text rest) ≡ false) sets (sym c.lacks_place.ensures ∙ c.if-lacks_place.false)) in
    let lacks : lacks_place (sets_in goals form) (places_in form) ≡ false = ap (λ (ts : List TargetTree). lacks_place ts (places_in form)) told_sets ∙ none_lacks in
    let name_clear = goal_name_clear goals first named.bytes goal_is named.named named.found.is in
    let second = sexp_form text c.index-parts-2.result in
    let g2 = nth_part text form (place_of form) parts 2 c.index-parts-2.result is (let f = c.if-parts-lt3.false in omega (arith, f)) c.index-parts-2.is in
    let fault = subst (λ fs. IsFaultBy (IsFirstPlaceFault (sets_in goals form) fs) c.in_err-places.field-0.0) behind
    (subst (λ (ts : List TargetTree). IsFaultBy (IsFirstPlaceFault ts (sexp_forms text rest)) c.in_err-places.field-0.0) (sets ∙ sym told_sets) c.in_err-places.ensures.fault) in
    rw (p.1, p.2)
    (told_as (IsFirstPlaceFault (sets_in goals form) (places_in form)) (IsFirstCodeFault (roles.a_code goals) form)
    (λ k kind one. places_first goals form enough first g1 lacks name_clear second g2 c.in_ok-words.ensures.clear s.0 s.1 k kind s.2 one) c.in_err-places.field-0.0 fault)

pub returns-clause-code : goal.returns-clause-code
returns-clause-code c =
    let text = c.args.text.now in
    let form = sexp_form text c.args.form.now in
    let goals = map goal_view c.args.goals.now in
    let s = c.sexps_are_forms.ensures.stands text c.args.form.now c.requires.of in
    let parts = c.in-Some.parts.now in
    let is = c.in-Some.ensures.parts text in
    let count = count_form text form (place_of form) parts is in
    let enough : 3 ≤ length (parts_of form) = (let f = c.if-parts-lt3.false in omega (arith, count, f)) in
    let first = sexp_form text c.index-parts-1.result in
    let g1 = nth_part text form (place_of form) parts 1 c.index-parts-1.result is (let f = c.if-parts-lt3.false in omega (arith, f)) c.index-parts-1.is in
    let rest = take (length parts - 3) (drop 3 parts) in
    let named = c.in_ok-goal.ensures.goal in
    let goal_is = named.found.item in
    let view = goal_at c.args.goals.now c.in_ok-goal.goal c.index-goals-goal.result goal_is named.found.there c.index-goals-goal.is in
    let sets : map target_view c.as_slice-sets.result.now ≡ goal_is.sets = ap (map target_view) c.as_slice-sets.ensures ∙ ap (λ (g : Goal). map target_view g.sets) (sym c.index-goals-goal.is) ∙ ap (λ (g : GoalTree). g.sets) view in
    let behind : sexp_forms text rest ≡ places_in form = places_are text form (place_of form) parts rest is refl in
    let told_sets : sets_in goals form ≡ goal_is.sets = sets_told goals form first g1 named.bytes goal_is named.named named.found.is in
    let none_lacks : lacks_place goal_is.sets (places_in form) ≡ false =
    subst (λ fs. lacks_place goal_is.sets fs ≡ false) behind (subst (λ (ts : List TargetTree). lacks_place ts (sexp_forms text rest) ≡ false) sets (sym c.lacks_place.ensures ∙ c.if-lacks_place.false)) in
    let lacks : lacks_place (sets_in goals form) (places_in form) ≡ false = ap (λ (ts : List TargetTree). lacks_place ts (places_in form)) told_sets ∙ none_lacks in
    let name_clear = goal_name_clear goals first named.bytes goal_is named.named named.found.is in
    let second = sexp_form text c.index-parts-2.result in
    let g2 = nth_part text form (place_of form) parts 2 c.index-parts-2.result is (let f = c.if-parts-lt3.false in omega (arith, f)) c.index-parts-2.is in
    let each = subst (λ (fs : List Form). Each (WritesPlace goal_is.sets) fs c.in_ok-places.places) behind
    (subst (λ (ts : List TargetTree). Each (WritesPlace ts) (sexp_forms text rest) c.in_ok-places.places) sets c.in_ok-places.ensures.places) in
    let clear = clear_behind goal_is.sets (map target_view c.as_slice-sets.result.now) (places_in form) (sexp_forms text rest) (length rest)
    (length-map rest (sexp_form text)) sets behind c.in_ok-places.ensures.clear in
    code_written goals form first second (record { goal = c.in_ok-goal.goal; words = c.in_ok-words.words; places = c.in_ok-places.places }) c.requires.head g1 g2 named c.in_ok-words.ensures.words
    (targets_differ goals c.requires.goals c.in_ok-goal.goal goal_is named.found.there) none_lacks each clear

pub returns-clause-clear : goal.returns-clause-clear
returns-clause-clear c =
    let text = c.args.text.now in
    let form = sexp_form text c.args.form.now in
    let goals = map goal_view c.args.goals.now in
    let s = c.sexps_are_forms.ensures.stands text c.args.form.now c.requires.of in
    let parts = c.in-Some.parts.now in
    let is = c.in-Some.ensures.parts text in
    let count = count_form text form (place_of form) parts is in
    let enough : 3 ≤ length (parts_of form) = (let f = c.if-parts-lt3.false in omega (arith, count, f)) in
    let first = sexp_form text c.index-parts-1.result in
    let g1 = nth_part text form (place_of form) parts 1 c.index-parts-1.result is (let f = c.if-parts-lt3.false in omega (arith, f)) c.index-parts-1.is in
    let rest = take (length parts - 3) (drop 3 parts) in
    let named = c.in_ok-goal.ensures.goal in
    let goal_is = named.found.item in
    let view = goal_at c.args.goals.now c.in_ok-goal.goal c.index-goals-goal.result goal_is named.found.there c.index-goals-goal.is in
    let sets : map target_view c.as_slice-sets.result.now ≡ goal_is.sets = ap (map target_view) c.as_slice-sets.ensures ∙ ap (λ (g : Goal). map target_view g.sets) (sym c.index-goals-goal.is) ∙ ap (λ (g : GoalTree). g.sets) view in
    let behind : sexp_forms text rest ≡ places_in form = places_are text form (place_of form) parts rest is refl in
    let told_sets : sets_in goals form ≡ goal_is.sets = sets_told goals form first g1 named.bytes goal_is named.named named.found.is in
    let none_lacks : lacks_place goal_is.sets (places_in form) ≡ false =
    subst (λ fs. lacks_place goal_is.sets fs ≡ false) behind (subst (λ (ts : List TargetTree). lacks_place ts (sexp_forms text rest) ≡ false) sets (sym c.lacks_place.ensures ∙ c.if-lacks_place.false)) in
    let lacks : lacks_place (sets_in goals form) (places_in form) ≡ false = ap (λ (ts : List TargetTree). lacks_place ts (places_in form)) told_sets ∙ none_lacks in
    let name_clear = goal_name_clear goals first named.bytes goal_is named.named named.found.is in
    let second = sexp_form text c.index-parts-2.result in
    let g2 = nth_part text form (place_of form) parts 2 c.index-parts-2.result is (let f = c.if-parts-lt3.false in omega (arith, f)) c.index-parts-2.is in
    let clear = clear_behind (sets_in goals form) (map target_view c.as_slice-sets.result.now) (places_in form) (sexp_forms text rest) (length rest)
    (length-map rest (sexp_form text)) (sets ∙ sym told_sets) behind c.in_ok-places.ensures.clear in
    code_clear goals form enough first g1 lacks name_clear second g2 c.in_ok-words.ensures.clear clear
