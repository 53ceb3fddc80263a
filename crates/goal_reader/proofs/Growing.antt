-- The parts of a form one after the other: none of those before has a fault.
use Rattle.std.proofs.Common.{◌≡◌, ℕ, ◌+◌, ◌≤◌, Some, length, sym, ap, ◌∙◌, subst, arith, slice_get, inl, inr}
use Rattle.std.proofs.lemmas.Bool.{cases_order}
use Rattle.text_core.specs.declared.faults.Kind.{Kind}
use Rattle.text_core.specs.Faults.{IsFirst}
use Rattle.forms.specs.Forms.{Form, parts_of, Stands}
use Rattle.forms.proofs.First.{ClearTo, first_inside, no_fault}
use Rattle.goal_reader.specs.Roles.{Role, IsOwn, part_role, IsFaultAs}
use Rattle.goal_reader.specs.Reading.{IsClear}
use Rattle.goal_reader.proofs.Fixed.{got_within}

module _ (role : Role) (form : Form) where
  pub clear_zero : ClearTo IsOwn part_role role form 0
  clear_zero j part other place kind l g e fault = absurd (omega (arith, l))

  pub clear_next : (i : ℕ) (part : Form) (other : Role) → slice_get (parts_of form) i ≡ Some part → part_role role form i ≡ Some other → IsClear other part → ClearTo IsOwn part_role role form i → ClearTo IsOwn part_role role form (i + 1)
  clear_next i part other g e is clear j one as_role place kind below got role_is fault =
      elim (cases_order j i) [
        | inl same ↦
            let parts : Some part ≡ Some one = sym g ∙ ap (slice_get (parts_of form)) (sym same) ∙ got in
            let part_is : one ≡ part = cc in
            let both : Some as_role ≡ Some other = sym role_is ∙ ap (part_role role form) same ∙ e in
            let role_same : as_role ≡ other = cc in
            is place kind (subst (λ (x : Role). IsFaultAs x part place kind) role_same (subst (λ (x : Form). IsFaultAs as_role x place kind) part_is fault))
        | inr (inl before) ↦ clear j one as_role place kind before got role_is fault
        | inr (inr after) ↦ absurd (omega (arith, below, after))
      ]

  pub part_first : (low high i : ℕ) (part : Form) (other : Role) (place : ℕ) (kind : Kind) → Stands low high form → ((k : Kind) → IsOwn role form k → ⊥) → slice_get (parts_of form) i ≡ Some part
      → part_role role form i ≡ Some other → ClearTo IsOwn part_role role form i → IsFirst (IsFaultAs other part) place kind → IsFirst (IsFaultAs role form) place kind
  part_first low high i part other place kind h own g e clear first = first_inside IsOwn part_role role form low high i part other place kind h own g e clear first

  pub all_clear : (n : ℕ) → ((k : Kind) → IsOwn role form k → ⊥) → length (parts_of form) ≤ n → ClearTo IsOwn part_role role form n → IsClear role form
  all_clear n own most clear =
      no_fault IsOwn part_role role form own (λ j part other place kind g e fault. clear j part other place kind (let l = got_within (parts_of form) j part g in omega (arith, l, most)) g e fault)
