-- The parts of a form one after the other: none of those before has a fault.
use Rattle.std.proofs.Common.{◌≡◌, ℕ, ◌+◌, ◌≤◌, None, Some, length, refl, sym, ap, ◌∙◌, subst, arith, slice_get, inl, inr}
use Rattle.std.proofs.lemmas.Bool.{cases_order}
use Rattle.text_core.specs.declared.faults.Kind.{Kind}
use Rattle.text_core.specs.declared.faults.Kind.TheVariants.{BadForm, LimitPassed}
use Rattle.forms.specs.Faults.{own, inside}
use Rattle.forms.specs.Forms.{Form, place_of, parts_of, Stands}
use Rattle.forms.proofs.First.{ClearTo, first_inside, no_fault}
use Rattle.code_check.specs.CodeReading.{IsClearCode, IsFirstCodeFault}
use Rattle.code_check.specs.CodeRoles.{CodeRole, IsCodeFaultAs, IsOwnCodeFault, code_part_role}
use Rattle.code_check.proofs.FormLists.{got_within}

abbrev pub HasNone : CodeRole → Form → Type 0
HasNone role form = (k : Kind) → IsOwnCodeFault role form k → ⊥

-- a part of a form without faults has none
pub part_clear : (role other : CodeRole) (form part : Form) (at : ℕ) → IsClearCode role form → slice_get (parts_of form) at ≡ Some part → code_part_role role form at ≡ Some other → IsClearCode other part
part_clear role other form part at clear g e place kind fault =
    clear place kind (inside at part other (λ o. clear (place_of form) BadForm (own o refl)) (λ o. clear (place_of form) LimitPassed (own o refl)) g e fault)

module _ (role : CodeRole) (form : Form) where
  abbrev pub ClearParts : ℕ → Type 0
  ClearParts n = ClearTo IsOwnCodeFault code_part_role role form n

  pub clear_zero : ClearParts 0
  clear_zero j part other place kind l g e fault = absurd (omega (arith, l))

  pub clear_next : (i : ℕ) (part : Form) (other : CodeRole) → slice_get (parts_of form) i ≡ Some part → code_part_role role form i ≡ Some other → IsClearCode other part → ClearParts i → ClearParts (i + 1)
  clear_next i part other g e is clear j one as_role place kind below got role_is fault =
      elim (cases_order j i) [
        | inl same ↦
            let parts : Some part ≡ Some one = sym g ∙ ap (slice_get (parts_of form)) (sym same) ∙ got in
            let part_is : one ≡ part = cc in
            let both : Some as_role ≡ Some other = sym role_is ∙ ap (code_part_role role form) same ∙ e in
            let role_same : as_role ≡ other = cc in
            is place kind (subst (λ (x : CodeRole). IsCodeFaultAs x part place kind) role_same (subst (λ (x : Form). IsCodeFaultAs as_role x place kind) part_is fault))
        | inr (inl before) ↦ clear j one as_role place kind before got role_is fault
        | inr (inr after) ↦ absurd (omega (arith, below, after))
      ]

  -- a part that isn't examined has no fault
  pub clear_silent : (i : ℕ) → code_part_role role form i ≡ None → ClearParts i → ClearParts (i + 1)
  clear_silent i e clear j one as_role place kind below got role_is fault =
      elim (cases_order j i) [
        | inl same ↦ (let f : None ≡ Some as_role = sym e ∙ ap (code_part_role role form) (sym same) ∙ role_is in absurd (no f))
        | inr (inl before) ↦ clear j one as_role place kind before got role_is fault
        | inr (inr after) ↦ absurd (omega (arith, below, after))
      ]
    where
      no : {x : CodeRole} → None ≡ Some x → ⊥
      no f = cc

  pub part_first : (low high i : ℕ) (part : Form) (other : CodeRole) (place : ℕ) (kind : Kind) → Stands low high form → HasNone role form → slice_get (parts_of form) i ≡ Some part
      → code_part_role role form i ≡ Some other → ClearParts i → IsFirstCodeFault other part place kind → IsFirstCodeFault role form place kind
  part_first low high i part other place kind h none g e clear first = first_inside IsOwnCodeFault code_part_role role form low high i part other place kind h none g e clear first

  pub all_clear : (n : ℕ) → HasNone role form → length (parts_of form) ≤ n → ClearParts n → IsClearCode role form
  all_clear n none most clear =
      no_fault IsOwnCodeFault code_part_role role form none (λ j part other place kind g e fault. clear j part other place kind (let l = got_within (parts_of form) j part g in omega (arith, l, most)) g e fault)
