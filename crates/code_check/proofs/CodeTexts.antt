-- The codes of a text, one after the other, and which fault of a text is first.
use Rattle.std.proofs.Common.{◌≡◌, ℕ, zero, suc, ◌+◌, ◌<◌, ◌≤◌, if◌then◌else◌, true, false, Some, None, List, [], ◌∷◌, length, drop, get_or, nat_lt, refl, sym, ap, ◌∙◌, subst, arith, slice_get, inl, inr}
use Rattle.std.proofs.lemmas.Bool.{cases_order}
use Rattle.std.proofs.lemmas.Bool.Decides.{nat_tests}
use Rattle.std.proofs.lemmas.List.{drop_all, drop_more}
use Rattle.std.proofs.lemmas.Option.{same_Some, slice_get_within}
use Rattle.text_core.specs.declared.faults.Kind.{Kind}
use Rattle.text_core.specs.declared.faults.Kind.TheVariants.{BadForm, LimitPassed}
use Rattle.text_core.specs.declared.sexps.Sexp.{Sexp}
use Rattle.text_core.specs.Faults.{IsFirst, IsNotBehind}
use Rattle.forms.specs.Faults.{own}
use Rattle.forms.specs.Forms.{Form, place_of, forms_from, forms_list, sexp_form, sexp_forms, Stand, Stands}
use Rattle.forms.proofs.First.{Span, span_of, within}
use Rattle.goal_meaning.specs.Views.{GoalTree}
use Rattle.code_check.specs.CodeReading.{IsClearCode, IsFirstCodeFault}
use Rattle.code_check.specs.CodeRoles.{CodeRole, a_code, wrong, past, wrong_part, IsCodeFaultAs, IsCodesFault, no_code, in_code, IsOwnCodeFault, code_part_role, first_place, from_codes, is_code, top_role}
use Rattle.code_check.proofs.FormLists.{list_from}
use Rattle.code_check.proofs.Leaves.{form_first, past_first}

-- ---- what a form of a text is read as

module _ (goals : List GoalTree) (at : ℕ) (form : Form) where
  pub not_code : is_code form ≡ false → top_role goals at form ≡ wrong
  not_code e = ap (λ b. if b then (if nat_lt at 64 then a_code goals else past) else wrong) e

  pub too_many : is_code form ≡ true → 64 ≤ at → top_role goals at form ≡ past
  too_many e l =
      let t : nat_lt at 64 ≡ false = grind (arith, nat_tests, l) in
      ap (λ b. if b then (if nat_lt at 64 then a_code goals else past) else wrong) e ∙ ap (λ b. if b then a_code goals else past) t

  pub one_code : is_code form ≡ true → at < 64 → top_role goals at form ≡ a_code goals
  one_code e l =
      let t : nat_lt at 64 ≡ true = grind (arith, nat_tests, l) in
      ap (λ b. if b then (if nat_lt at 64 then a_code goals else past) else wrong) e ∙ ap (λ b. if b then a_code goals else past) t

  pub wrong_first : (low high : ℕ) → Stands low high form → is_code form ≡ false → IsFirstCodeFault (top_role goals at form) form (place_of form) BadForm
  wrong_first low high h e = subst (λ (r : CodeRole). IsFirstCodeFault r form (place_of form) BadForm) (sym (not_code e)) (form_first wrong form low high h wrong_part)

  pub beyond_first : (low high : ℕ) → Stands low high form → is_code form ≡ true → 64 ≤ at → IsFirstCodeFault (top_role goals at form) form (place_of form) LimitPassed
  beyond_first low high h e l = subst (λ (r : CodeRole). IsFirstCodeFault r form (place_of form) LimitPassed) (sym (too_many e l)) (past_first form low high h)

-- ---- the first of the codes with a fault

module _ (goals : List GoalTree) (forms : List Form) where
  -- none of the first so many has a fault
  abbrev pub AreCodesClear : ℕ → Type 0
  AreCodesClear n = (j : ℕ) (form : Form) → j < n → slice_get forms j ≡ Some form → IsClearCode (top_role goals j form) form

  pub none_clear : AreCodesClear 0
  none_clear j form l = absurd (omega (arith, l))

  pub one_more_clear : (i : ℕ) (form : Form) → slice_get forms i ≡ Some form → IsClearCode (top_role goals i form) form → AreCodesClear i → AreCodesClear (i + 1)
  one_more_clear i form g is clear j other l h = elim (cases_order j i) [
    | inl same ↦
        (let form_is : form ≡ other = same_Some form other (sym g ∙ ap (slice_get forms) (sym same) ∙ h) in
        subst (λ n. IsClearCode (top_role goals n other) other) (sym same) (subst (λ (f : Form). IsClearCode (top_role goals i f) f) form_is is))
    | inr (inl before) ↦ clear j other before h
    | inr (inr after) ↦ absurd (omega (arith, l, after))
  ]

  nothing_there : (at : ℕ) (form : Form) → forms ≡ [] → slice_get forms at ≡ Some form → ⊥
  nothing_there at form e g = (let f : None ≡ Some form = sym (ap (λ (fs : List Form). slice_get fs at) e) ∙ g in cc)

  pub no_code_first : (size : ℕ) → forms ≡ [] → IsFirst (IsCodesFault goals size forms) size BadForm
  no_code_first size e = record { found = no_code e refl; earliest = earliest }
    where
      earliest : (place : ℕ) (kind : Kind) → IsCodesFault goals size forms place kind → IsNotBehind size BadForm place kind
      earliest place kind (no_code h p) = inr (sym p, omega arith)
      earliest place kind (in_code at form g fault) = absurd (nothing_there at form e g)

  pub codes_clear : (size : ℕ) → AreCodesClear (length forms) → 0 < length forms → (place : ℕ) (kind : Kind) → IsCodesFault goals size forms place kind → ⊥
  codes_clear size clear some place kind (no_code e p) = (let n = ap length e in omega (arith, n, some))
  codes_clear size clear some place kind (in_code at form g fault) = clear at form (slice_get_within forms at form g) g place kind fault

  module _ (low size : ℕ) (h : Stand low size (forms_from forms)) where
    pub code_first : (at : ℕ) (form : Form) (place : ℕ) (kind : Kind) → slice_get forms at ≡ Some form → AreCodesClear at → IsFirstCodeFault (top_role goals at form) form place kind → IsFirst (IsCodesFault goals size forms) place kind
    code_first at form place kind g clear first = record { found = in_code at form g first.found; earliest = earliest }
      where
        listed : (j : ℕ) (f : Form) → slice_get forms j ≡ Some f → slice_get (forms_list (forms_from forms)) j ≡ Some f
        listed j f e = ap (λ (fs : List Form). slice_get fs j) (list_from forms) ∙ e

        span : Span low size (forms_list (forms_from forms)) at form
        span = span_of (forms_from forms) low size at form h (listed at form g)

        earliest : (other_place : ℕ) (other_kind : Kind) → IsCodesFault goals size forms other_place other_kind → IsNotBehind place kind other_place other_kind
        earliest other_place other_kind (no_code e p) = absurd (nothing_there at form e g)
        earliest other_place other_kind (in_code j other got fault) =
            let here = within IsOwnCodeFault code_part_role first.found span.from span.to span.stands in
            elim (cases_order at j) [
              | inl same ↦
                  (let form_is : other ≡ form = same_Some other form (sym got ∙ ap (slice_get forms) (sym same) ∙ g) in
                  first.earliest other_place other_kind
                  (subst (λ (f : Form). IsCodeFaultAs (top_role goals at f) f other_place other_kind) form_is
                  (subst (λ n. IsCodeFaultAs (top_role goals n other) other other_place other_kind) (sym same) fault)))
              | inr (inl before) ↦
                  (let later = span.later j other before (listed j other got) in
                  let there = within IsOwnCodeFault code_part_role fault later.0 later.1 later.4 in
                  inl (omega (arith, here.1, later.2, there.0)))
              | inr (inr after) ↦ absurd (clear j other after got other_place other_kind fault)
            ]

-- ---- the forms behind the first so many

pub stand_behind : (n low high : ℕ) (fs : List Form) → Stand low high (forms_from fs) → (from : ℕ) × Stand from high (forms_from (drop n fs))
stand_behind zero low high fs h = (low, h)
stand_behind (suc n) low high [] h = (low, h)
stand_behind (suc n) low high (f ∷ fs) h = stand_behind n h.0 high fs h.1.1

-- the first of them begins within the text
pub begins_within : (low high : ℕ) (fs : List Form) → Stand low high (forms_from fs) → first_place high fs ≤ high
begins_within low high [] h = omega arith
begins_within low high (f ∷ fs) h =
    let span = span_of (forms_from (f ∷ fs)) low high 0 f h refl in
    let l = place_within f span.from span.to span.stands in
    omega (arith, l, span.high_enough)
  where
    place_within : (form : Form) (from to : ℕ) → Stands from to form → place_of form ≤ to
    place_within form from to s = (let one = within IsOwnCodeFault code_part_role (own {role = wrong} (wrong_part {form = form}) refl) from to s in omega (arith, one.1))

-- ---- the search of the first code

module _ (text : List ℕ) (forms : List Sexp) (i : ℕ) (sexp : Sexp) (l : i < length forms) (is : sexp ≡ get_or forms i sexp) where
  behind : sexp_forms text (drop i forms) ≡ sexp_form text sexp ∷ sexp_forms text (drop (i + 1) forms)
  behind = ap (sexp_forms text) (drop_more forms i sexp l ∙ ap (λ (s : Sexp). s ∷ drop (i + 1) forms) (sym is))

  pub codes_here : is_code (sexp_form text sexp) ≡ true → from_codes (sexp_forms text (drop i forms)) ≡ sexp_forms text (drop i forms)
  codes_here e = ap from_codes behind ∙ ap (λ b. if b then sexp_form text sexp ∷ sexp_forms text (drop (i + 1) forms) else from_codes (sexp_forms text (drop (i + 1) forms))) e ∙ sym behind

  pub codes_later : is_code (sexp_form text sexp) ≡ false → from_codes (sexp_forms text (drop i forms)) ≡ from_codes (sexp_forms text (drop (i + 1) forms))
  codes_later e = ap from_codes behind ∙ ap (λ b. if b then sexp_form text sexp ∷ sexp_forms text (drop (i + 1) forms) else from_codes (sexp_forms text (drop (i + 1) forms))) e

pub no_codes : (text : List ℕ) (forms : List Sexp) (i n : ℕ) → length forms ≤ i → length forms ≤ n → from_codes (sexp_forms text (drop i forms)) ≡ sexp_forms text (drop n forms)
no_codes text forms i n l m = ap (λ fs. from_codes (sexp_forms text fs)) (drop_all i forms l) ∙ sym (ap (sexp_forms text) (drop_all n forms m))
