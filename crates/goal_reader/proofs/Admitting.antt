-- What the order of lists tells of how a list is read.
use Rattle.std.proofs.Common.{◌≡◌, zero, suc, ◌<◌, ◌≤◌, ℕ, List, length, true, false, nat_le, if◌then◌else◌, Some, ap, ◌∙◌, arith}
use Rattle.std.proofs.lemmas.Bool.Decides.{nat_tests}
use Rattle.forms.specs.Forms.{Form}
use Rattle.goal_reader.specs.Roles.{Role, Bound, bound_at, goal_bounds, text_bounds, a_machine, wrong, past, past_limit, IsOwn, part_role, IsFaultAs, rank, of_rank, role_in, role_of_rank}
use Rattle.text_core.specs.declared.faults.Kind.{Kind}
use Rattle.text_core.specs.declared.faults.Kind.TheVariants.{BadForm, LimitPassed}
use Rattle.text_core.specs.Faults.{IsFirst, fault_number}
use Rattle.forms.specs.Forms.{place_of}
use Rattle.forms.specs.Forms.{Stands}
use Rattle.forms.proofs.First.{first_own}
use Rattle.goal_reader.proofs.Fixed.{wrong_first}
use Rattle.goal_reader.specs.TextFaults.{IsFormFault, as_role, as_machine}
use Rattle.goal_reader.specs.Order.{IsAdmission, role_by, beyond_kind}
use Rattle.goal_reader.specs.declared.order.Admission.{Admission}
use Rattle.goal_reader.specs.declared.order.Admission.TheVariants.{OutOfOrder, Beyond, Admitted}

is_le : (m n : ℕ) → m ≤ n → nat_le m n ≡ true
is_le m n l = grind (arith, nat_tests, l)

is_not_le : (m n : ℕ) → n < m → nat_le m n ≡ false
is_not_le m n l = grind (arith, nat_tests, l)

pub role_is : (keywords : List (List ℕ)) (bounds : List Bound) (before : List Form) (inner : ℕ → Role) (at : ℕ) (admission : Admission) → IsAdmission keywords before at (bound_at bounds at).most admission
    → role_of_rank keywords bounds before inner (Some at) ≡ role_by bounds inner at admission
role_is keywords bounds before inner at OutOfOrder h =
    ap (λ b. if b then wrong else if nat_le (bound_at bounds at).most (length (of_rank keywords at before)) then (bound_at bounds at).beyond else inner at) h
role_is keywords bounds before inner at Beyond h =
    ap (λ b. if b then wrong else if nat_le (bound_at bounds at).most (length (of_rank keywords at before)) then (bound_at bounds at).beyond else inner at) h.0
    ∙ ap (λ b. if b then (bound_at bounds at).beyond else inner at) (is_le _ _ h.1)
role_is keywords bounds before inner at Admitted h =
    ap (λ b. if b then wrong else if nat_le (bound_at bounds at).most (length (of_rank keywords at before)) then (bound_at bounds at).beyond else inner at) h.0
    ∙ ap (λ b. if b then (bound_at bounds at).beyond else inner at) (is_not_le _ _ h.1)

pub role_told : (keywords : List (List ℕ)) (bounds : List Bound) (before : List Form) (inner : ℕ → Role) (form : Form) (at : ℕ) (admission : Admission) → rank keywords form ≡ Some at → IsAdmission keywords before at (bound_at bounds at).most admission
    → role_in keywords bounds before inner form ≡ role_by bounds inner at admission
role_told keywords bounds before inner form at admission e h = ap (role_of_rank keywords bounds before inner) e ∙ role_is keywords bounds before inner at admission h

past_least : {form : Form} {k : Kind} → IsOwn past form k → 13 ≤ fault_number k
past_least past_limit = omega arith

module _ (form : Form) (low high : ℕ) (h : Stands low high form) where
  past_first : IsFirst (IsFaultAs past form) (place_of form) LimitPassed
  past_first = first_own IsOwn part_role past form low high LimitPassed h past_limit (λ k is. past_least is)

  pub beyond_first : (at : ℕ) → IsFirst (IsFaultAs (bound_at goal_bounds at).beyond form) (place_of form) (beyond_kind (bound_at goal_bounds at).beyond)
  beyond_first zero = past_first
  beyond_first (suc zero) = wrong_first form low high h
  beyond_first (suc (suc zero)) = past_first
  beyond_first (suc (suc (suc zero))) = past_first
  beyond_first (suc (suc (suc (suc zero)))) = wrong_first form low high h
  beyond_first (suc (suc (suc (suc (suc zero))))) = past_first
  beyond_first (suc (suc (suc (suc (suc (suc at)))))) = wrong_first form low high h

  as_form : (role : Role) → (role ≡ a_machine → ⊥) → (place : ℕ) (kind : Kind) → IsFormFault role form place kind → IsFaultAs role form place kind
  as_form role n place kind (as_role f) = f
  as_form role n place kind (as_machine e f) = absurd (n e)

  -- where no machine is wanted, the first fault of the role is that of the form
  pub form_first : (role : Role) → (role ≡ a_machine → ⊥) → (place : ℕ) (kind : Kind) → IsFirst (IsFaultAs role form) place kind → IsFirst (IsFormFault role form) place kind
  form_first role n place kind first = record {
    found = as_role first.found;
    earliest = λ p k f. first.earliest p k (as_form role n p k f);
  }

  wrong_is : wrong ≡ a_machine → ⊥
  wrong_is e = cc

  past_is : past ≡ a_machine → ⊥
  past_is e = cc

  pub wrong_form_first : IsFirst (IsFormFault wrong form) (place_of form) BadForm
  wrong_form_first = form_first wrong wrong_is (place_of form) BadForm (wrong_first form low high h)

  past_form_first : IsFirst (IsFormFault past form) (place_of form) LimitPassed
  past_form_first = form_first past past_is (place_of form) LimitPassed past_first

  pub beyond_form_first : (at : ℕ) → IsFirst (IsFormFault (bound_at text_bounds at).beyond form) (place_of form) (beyond_kind (bound_at text_bounds at).beyond)
  beyond_form_first zero = wrong_form_first
  beyond_form_first (suc zero) = past_form_first
  beyond_form_first (suc (suc zero)) = past_form_first
  beyond_form_first (suc (suc (suc zero))) = past_form_first
  beyond_form_first (suc (suc (suc (suc at)))) = wrong_form_first
