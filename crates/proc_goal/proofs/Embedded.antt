-- Faults of forms in roles that are embedded in other roles.
use Rattle.std.proofs.Common.{◌≡◌, ℕ, Option, Some, None, refl, sym, ap, ◌∙◌, subst, option_map}
use Rattle.text_core.specs.declared.faults.Kind.{Kind}
use Rattle.text_core.specs.declared.faults.Kind.TheVariants.{BadForm, LimitPassed}
use Rattle.text_core.specs.Faults.{IsFirst}
use Rattle.forms.specs.Faults.{IsFault, own, inside}
use Rattle.forms.specs.Forms.{Form}
use Rattle.goal_reader.specs.Reading.{IsClear}
use Rattle.goal_reader.specs.Roles.{Role, IsOwn, IsFaultAs, part_role}
use Rattle.machine_table.specs.Reading.{IsClearTableForm, IsTableFault}
use Rattle.machine_table.specs.Roles.{TableRole, IsOwnTableFault, table_part_role}
use Rattle.proc_goal.specs.ProcReading.{IsClearProc, IsFirstAs}
use Rattle.proc_goal.specs.ProcRoles.{of_goal, of_table, IsOwnProcFault, goal_fault, table_fault, proc_part_role}

some_of : {R S : Type 0} (e : R → S) (o : Option R) (s : S) → option_map e o ≡ Some s → (r : R) × (o ≡ Some r) × (e r ≡ s)
some_of e None s h = cc
some_of e (Some r) s h = let same : e r ≡ s = cc in (r, refl, same)

module _ {R S : Type 0} (OwnR : R → Form → Kind → Type 0) (part_r : R → Form → ℕ → Option R) (OwnS : S → Form → Kind → Type 0) (part_s : S → Form → ℕ → Option S) (e : R → S)
    (to : (r : R) (f : Form) (k : Kind) → OwnR r f k → OwnS (e r) f k) (from : (r : R) (f : Form) (k : Kind) → OwnS (e r) f k → OwnR r f k)
    (parts : (r : R) (f : Form) (at : ℕ) → part_s (e r) f at ≡ option_map e (part_r r f at)) where
  fault_to : {r : R} {f : Form} {p : ℕ} {k : Kind} → IsFault OwnR part_r r f p k → IsFault OwnS part_s (e r) f p k
  fault_to {r} {f} {p} {k} (own is placed) = own (to r f k is) placed
  fault_to {r} {f} {p} {k} (inside at part other no_form no_limit g role fault) =
      inside at part (e other) (λ o. no_form (from r f BadForm o)) (λ o. no_limit (from r f LimitPassed o)) g (parts r f at ∙ ap (option_map e) role) (fault_to fault)

  fault_back : {s : S} {f : Form} {p : ℕ} {k : Kind} → IsFault OwnS part_s s f p k → (r : R) → s ≡ e r → IsFault OwnR part_r r f p k
  fault_back {s} {f} {p} {k} (own is placed) r same = own (from r f k (subst (λ (x : S). OwnS x f k) same is)) placed
  fault_back {s} {f} {p} {k} (inside at part other no_form no_limit g role fault) r same =
      let o = some_of e (part_r r f at) other (sym (parts r f at) ∙ ap (λ (x : S). part_s x f at) (sym same) ∙ role) in
      inside at part o.0 (λ w. no_form (subst (λ (x : S). OwnS x f BadForm) (sym same) (to r f BadForm w))) (λ w. no_limit (subst (λ (x : S). OwnS x f LimitPassed) (sym same) (to r f LimitPassed w))) g o.1
      (fault_back fault o.0 (sym o.2))

  first_to : (r : R) (f : Form) (p : ℕ) (k : Kind) → IsFirst (IsFault OwnR part_r r f) p k → IsFirst (IsFault OwnS part_s (e r) f) p k
  first_to r f p k first = record {
    found = fault_to first.found;
    earliest = λ q l fault. first.earliest q l (fault_back fault r refl);
  }

  clear_to : (r : R) (f : Form) → ((p : ℕ) (k : Kind) → IsFault OwnR part_r r f p k → ⊥) → (p : ℕ) (k : Kind) → IsFault OwnS part_s (e r) f p k → ⊥
  clear_to r f clear p k fault = clear p k (fault_back fault r refl)

  clear_back : (r : R) (f : Form) → ((p : ℕ) (k : Kind) → IsFault OwnS part_s (e r) f p k → ⊥) → (p : ℕ) (k : Kind) → IsFault OwnR part_r r f p k → ⊥
  clear_back r f clear p k fault = clear p k (fault_to fault)

from_goal : (r : Role) (f : Form) (k : Kind) → IsOwnProcFault (of_goal r) f k → IsOwn r f k
from_goal r f k (goal_fault is) = is

from_table : (r : TableRole) (f : Form) (k : Kind) → IsOwnProcFault (of_table r) f k → IsOwnTableFault r f k
from_table r f k (table_fault is) = is

-- ---- what goals have too
pub goal_first : (r : Role) (f : Form) (p : ℕ) (k : Kind) → IsFirst (IsFaultAs r f) p k → IsFirstAs (of_goal r) f p k
goal_first r f p k first = first_to IsOwn part_role IsOwnProcFault proc_part_role of_goal (λ x g l is. goal_fault is) from_goal (λ x g at. refl) r f p k first

pub goal_clear : (r : Role) (f : Form) → IsClear r f → IsClearProc (of_goal r) f
goal_clear r f clear = clear_to IsOwn part_role IsOwnProcFault proc_part_role of_goal (λ x g l is. goal_fault is) from_goal (λ x g at. refl) r f clear

pub goal_clear_back : (r : Role) (f : Form) → IsClearProc (of_goal r) f → IsClear r f
goal_clear_back r f clear = clear_back IsOwn part_role IsOwnProcFault proc_part_role of_goal (λ x g l is. goal_fault is) from_goal (λ x g at. refl) r f clear

-- ---- machine tables
pub table_first : (r : TableRole) (f : Form) (p : ℕ) (k : Kind) → IsFirst (IsTableFault r f) p k → IsFirstAs (of_table r) f p k
table_first r f p k first = first_to IsOwnTableFault table_part_role IsOwnProcFault proc_part_role of_table (λ x g l is. table_fault is) from_table (λ x g at. refl) r f p k first

pub table_clear : (r : TableRole) (f : Form) → IsClearTableForm r f → IsClearProc (of_table r) f
table_clear r f clear = clear_to IsOwnTableFault table_part_role IsOwnProcFault proc_part_role of_table (λ x g l is. table_fault is) from_table (λ x g at. refl) r f clear
