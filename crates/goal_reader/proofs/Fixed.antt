-- Lists of fixed parts behind a keyword: their first fault, and when they have none.
use Rattle.std.proofs.Common.{◌≡◌, ℕ, zero, suc, ◌<◌, ◌≤◌, None, Some, List, [], ◌∷◌, length, get_or, sym, ap, ◌∙◌, subst, arith, slice_get, inl, inr}
use Rattle.std.proofs.lemmas.Bool.{cases_order}
use Rattle.text_core.specs.declared.faults.Kind.{Kind}
use Rattle.text_core.specs.declared.faults.Kind.TheVariants.{BadForm}
use Rattle.text_core.specs.Faults.{IsFirst}
use Rattle.forms.specs.Forms.{Form, place_of, parts_of}
use Rattle.forms.specs.Forms.{Stands}
use Rattle.forms.proofs.First.{first_own, first_inside, ClearTo, no_fault}
use Rattle.goal_reader.specs.Roles.{Role, Shape, a_list, wrong, IsOwn, too_few, wrong_part, part_role, shape_part, listed_role, least_parts, IsFaultAs}
use Rattle.goal_reader.specs.Reading.{IsClear}
use Rattle.goal_reader.proofs.Owns as owns

pub got_within : {X : Type 0} (xs : List X) (j : ℕ) (x : X) → slice_get xs j ≡ Some x → j < length xs
got_within [] j x g = cc
got_within (y ∷ ys) zero x g = omega arith
got_within (y ∷ ys) (suc j) x g = let l = got_within ys j x g in omega (arith, l)

-- what the grammar doesn't have there is a fault at its first byte
pub wrong_first : (form : Form) (low high : ℕ) → Stands low high form → IsFirst (IsFaultAs wrong form) (place_of form) BadForm
wrong_first form low high h = first_own IsOwn part_role wrong form low high BadForm h wrong_part (λ k is. owns.own_at_least is)

module _ (shape : Shape) (form : Form) (roles : List Role) (low high : ℕ) (h : Stands low high form)
    (only : (k : Kind) → IsOwn (a_list shape) form k → length (parts_of form) < least_parts shape form)
    (listed_are : (at : ℕ) → shape_part shape form at ≡ listed_role roles at) where
  pub short_first : length (parts_of form) < least_parts shape form → IsFirst (IsFaultAs (a_list shape) form) (place_of form) BadForm
  short_first few = first_own IsOwn part_role (a_list shape) form low high BadForm h (too_few few) (λ k is. owns.own_at_least is)

  -- the parts behind the keyword, up to this one, have no fault
  abbrev pub ClearParts : ℕ → Type 0
  ClearParts n = (j : ℕ) (part : Form) → j < n → slice_get (parts_of form) (suc j) ≡ Some part → IsClear (get_or roles j wrong) part

  pub clear_none : ClearParts 0
  clear_none j part l = absurd (omega (arith, l))

  pub clear_more : (n : ℕ) (one : Form) → ClearParts n → slice_get (parts_of form) (suc n) ≡ Some one → IsClear (get_or roles n wrong) one → ClearParts (suc n)
  clear_more n one clear g is j part l got =
      elim (cases_order j n) [
        | inl same ↦
            let parts : Some one ≡ Some part = sym g ∙ ap (λ m. slice_get (parts_of form) (suc m)) (sym same) ∙ got in
            let form_is : one ≡ part = cc in
            subst (λ m. IsClear (get_or roles m wrong) part) (sym same) (subst (λ (f : Form). IsClear (get_or roles n wrong) f) form_is is)
        | inr (inl before) ↦ clear j part before got
        | inr (inr after) ↦ absurd (omega (arith, l, after))
      ]

  clear_to : (n : ℕ) → ClearParts n → ClearTo IsOwn part_role (a_list shape) form (suc n)
  clear_to n clear zero part other place kind l g e fault = let f : None ≡ Some other = sym (listed_are 0) ∙ e in absurd cc
  clear_to n clear (suc j) part other place kind l g e fault =
      let f : Some (get_or roles j wrong) ≡ Some other = sym (listed_are (suc j)) ∙ e in
      let same : other ≡ get_or roles j wrong = cc in
      clear j part (omega (arith, l)) g place kind (subst (λ (r : Role). IsFaultAs r part place kind) same fault)

  pub part_first : (n : ℕ) (part : Form) (place : ℕ) (kind : Kind) → (length (parts_of form) < least_parts shape form → ⊥) → ClearParts n → slice_get (parts_of form) (suc n) ≡ Some part
      → IsFirst (IsFaultAs (get_or roles n wrong) part) place kind → IsFirst (IsFaultAs (a_list shape) form) place kind
  part_first n part place kind enough clear g first =
      first_inside IsOwn part_role (a_list shape) form low high (suc n) part (get_or roles n wrong) place kind h (λ k is. enough (only k is)) g (listed_are (suc n)) (clear_to n clear) first

  pub whole_clear : (n : ℕ) → (length (parts_of form) < least_parts shape form → ⊥) → length (parts_of form) ≤ suc n → ClearParts n → IsClear (a_list shape) form
  whole_clear n enough most clear =
      no_fault IsOwn part_role (a_list shape) form (λ k is. enough (only k is))
      (λ j part other place kind g e fault. clear_to n clear j part other place kind (let l = got_within (parts_of form) j part g in omega (arith, l, most)) g e fault)
