-- The forms of slices: the first one, and those behind so many.
use Rattle.std.proofs.Common.{◌≡◌, ℕ, ◌-◌, false, None, Some, List, [], ◌∷◌, length, take, drop, refl, sym, ap, ◌∙◌, subst, arith, slice_get}
use Rattle.std.specs.Prelude.{All}
use Rattle.std.proofs.lemmas.List.{drop-map, length-drop, take_all}
use Rattle.std.proofs.lemmas.List.Elements.{All-drop, All-head}
use Rattle.std.proofs.lemmas.Option.{same_Some}
use Rattle.text_core.specs.declared.sexps.Sexp.{Sexp}
use Rattle.forms.specs.Forms.{Form, forms_from, list, parts_of, sexp_form, sexp_forms}
use Rattle.forms.specs.Reading.{IsSexpOf}
use Rattle.goal_reader.proofs.Heads.{list_from, part_form}
use Rattle.code_lift.specs.LiftRoles.{is_machine}

pub first_sexp : (text : List ℕ) (parts : List Sexp) (a : Sexp) → slice_get parts 0 ≡ Some a → All (IsSexpOf text) parts → IsSexpOf text a
first_sexp text [] a g all = cc
first_sexp text (x ∷ xs) a g all = (let same : x ≡ a = cc in subst (IsSexpOf text) same (All-head (IsSexpOf text) x xs all))

pub no_first : (text : List ℕ) (forms : List Sexp) → slice_get forms 0 ≡ None → (form : Form) → slice_get (sexp_forms text forms) 0 ≡ Some form → is_machine form ≡ false
no_first text [] e form g = cc
no_first text (x ∷ xs) e form g = cc

pub other_head : (text : List ℕ) (forms : List Sexp) (a : Sexp) → slice_get forms 0 ≡ Some a → is_machine (sexp_form text a) ≡ false → (form : Form) → slice_get (sexp_forms text forms) 0 ≡ Some form → is_machine form ≡ false
other_head text forms a g e form h = subst (λ (f : Form). is_machine f ≡ false) (same_Some (sexp_form text a) form (sym (part_form text forms 0 a g) ∙ h)) e

pub no_forms : (text : List ℕ) (forms : List Sexp) → length forms ≡ 0 → sexp_forms text forms ≡ []
no_forms text [] e = refl
no_forms text (x ∷ xs) e = absurd (omega (arith, e))

-- all that is left behind so many
left : {X : Type 0} (n : ℕ) (xs : List X) → take (length xs - n) (drop n xs) ≡ drop n xs
left n xs = take_all (length xs - n) (drop n xs) (let l = length-drop n xs in omega (arith, l))

pub forms_left : (text : List ℕ) (n : ℕ) (forms : List Sexp) → sexp_forms text (take (length forms - n) (drop n forms)) ≡ drop n (sexp_forms text forms)
forms_left text n forms = ap (sexp_forms text) (left n forms) ∙ sym (drop-map (sexp_form text) n forms)

pub parts_left : (text : List ℕ) (n : ℕ) (form : Form) (place : ℕ) (parts : List Sexp) → form ≡ list place (forms_from (sexp_forms text parts)) → sexp_forms text (take (length parts - n) (drop n parts)) ≡ drop n (parts_of form)
parts_left text n form place parts is = forms_left text n parts ∙ sym (ap (drop n) (ap parts_of is ∙ list_from (sexp_forms text parts)))

pub sexps_left : (text : List ℕ) (n : ℕ) (forms : List Sexp) → All (IsSexpOf text) forms → All (IsSexpOf text) (take (length forms - n) (drop n forms))
sexps_left text n forms all = subst (All (IsSexpOf text)) (sym (left n forms)) (All-drop (IsSexpOf text) n forms all)
