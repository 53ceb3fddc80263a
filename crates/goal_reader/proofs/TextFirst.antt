-- The first fault of a text's forms: that of the first form that has one, and a missing goal behind them all.
use Rattle.std.proofs.Common.{◌≡◌, ℕ, ◌<◌, ◌≤◌, true, false, Some, List, length, refl, sym, ap, ◌∙◌, subst, arith, slice_get, inl, inr, ◌⊎◌}
use Rattle.std.specs.List.{list_any}
use Rattle.std.proofs.lemmas.Bool.{cases_order}
use Rattle.text_core.specs.declared.faults.Kind.{Kind}
use Rattle.text_core.specs.declared.faults.Kind.TheVariants.{BadForm}
use Rattle.text_core.specs.Faults.{fault_number, IsFirst}
use Rattle.forms.specs.Forms.{Form, Forms, forms_list}
use Rattle.forms.specs.Forms.{Stand, Stands}
use Rattle.forms.proofs.First.{span_of, within}
use Rattle.machine_table.specs.Roles as machines
use Rattle.machine_table.specs.Roles.{IsMachineFault}
use Rattle.goal_reader.specs.Roles.{Role, IsOwn, part_role, is_of_rank, text_keywords, IsTextFault, no_goal, in_form, in_machine}
use Rattle.goal_reader.specs.TextFaults.{role_at, IsFormFault, as_role, as_machine, AreClear}
use Rattle.goal_reader.proofs.Fixed.{got_within}

stays : (role : Role) (form : Form) (place : ℕ) (kind : Kind) (low high : ℕ) → Stands low high form → IsFormFault role form place kind → (low ≤ place) × (place < high)
stays role form place kind low high s (as_role f) = within IsOwn part_role f low high s
stays role form place kind low high s (as_machine e f) = within machines.IsOwnTableFault machines.table_part_role f low high s

module _ (size : ℕ) (forms : Forms) (h : Stand 0 size forms) where
  abbrev all : List Form
  all = forms_list forms

  by_form : (place : ℕ) (kind : Kind) → IsTextFault size all place kind → ((list_any (is_of_rank text_keywords 3) all ≡ false) × (place ≡ size) × (kind ≡ BadForm)) ⊎ ((j : ℕ) × (form : Form) × (slice_get all j ≡ Some form) × IsFormFault (role_at all j form) form place kind)
  by_form place kind (no_goal e p) = inl (e, p, refl)
  by_form place kind (in_form j form g f) = inr (j, form, g, as_role f)
  by_form place kind (in_machine j form g e f) = inr (j, form, g, as_machine e f)

  whole_fault : (j : ℕ) (form : Form) (place : ℕ) (kind : Kind) → slice_get all j ≡ Some form → IsFormFault (role_at all j form) form place kind → IsTextFault size all place kind
  whole_fault j form place kind g (as_role f) = in_form j form g f
  whole_fault j form place kind g (as_machine e f) = in_machine j form g e f

  pub form_first : (at : ℕ) (form : Form) (place : ℕ) (kind : Kind) → slice_get all at ≡ Some form → AreClear all at → IsFirst (IsFormFault (role_at all at form) form) place kind → IsFirst (IsTextFault size all) place kind
  form_first at form place kind g clear first =
      let span = span_of forms 0 size at form h g in
      let here = stays (role_at all at form) form place kind span.from span.to span.stands first.found in
      record {
        found = whole_fault at form place kind g first.found;
        earliest = λ other_place other_kind fault.
            elim (by_form other_place other_kind fault) [
              | inl missing ↦ inl (omega (arith, here.1, span.high_enough, missing.1))
              | inr one ↦
                  elim (cases_order at one.0) [
                    | inl same ↦
                        let forms_same : Some form ≡ Some one.1 = sym g ∙ ap (slice_get all) same ∙ one.2 in
                        let form_is : one.1 ≡ form = cc in
                        first.earliest other_place other_kind
                        (subst (λ (f : Form). IsFormFault (role_at all at f) f other_place other_kind) form_is
                        (subst (λ n. IsFormFault (role_at all n one.1) one.1 other_place other_kind) (sym same) one.3))
                    | inr (inl before) ↦
                        let later = span.later one.0 one.1 before one.2 in
                        let there = stays (role_at all one.0 one.1) one.1 other_place other_kind later.0 later.1 later.4 one.3 in
                        inl (omega (arith, here.1, later.2, there.0))
                    | inr (inr after) ↦ absurd (clear one.0 one.1 other_place other_kind after one.2 one.3)
                  ]
            ];
      }

  pub goal_lacks : AreClear all (length all) → list_any (is_of_rank text_keywords 3) all ≡ false → IsFirst (IsTextFault size all) size BadForm
  goal_lacks clear e = record {
    found = no_goal e refl;
    earliest = λ other_place other_kind fault.
        elim (by_form other_place other_kind fault) [
          | inl missing ↦ inr (sym missing.1, let f : fault_number BadForm ≤ fault_number other_kind = (let g = ap fault_number missing.2 in omega (arith, g)) in f)
          | inr one ↦ absurd (clear one.0 one.1 other_place other_kind (got_within all one.0 one.1 one.2) one.2 one.3)
        ];
  }

  pub text_clear : AreClear all (length all) → list_any (is_of_rank text_keywords 3) all ≡ true → (place : ℕ) (kind : Kind) → IsTextFault size all place kind → ⊥
  text_clear clear e place kind fault =
      elim (by_form place kind fault) [
        | inl missing ↦ (let f : true ≡ false = sym e ∙ missing.0 in cc)
        | inr one ↦ clear one.0 one.1 place kind (got_within all one.0 one.1 one.2) one.2 one.3
      ]
