-- The faults of one form of a text. Source: this project.
use Rattle.std.specs.Prelude.{ℕ, ◌≡◌, ◌<◌, List, take, slice_get, Some}
use Rattle.text_core.specs.declared.faults.Kind.{Kind}
use Rattle.forms.specs.Forms.{Form}
use Rattle.machine_table.specs.Roles.{IsMachineFault}
use Rattle.goal_reader.specs.Roles.{Role, a_machine, IsFaultAs, role_in, text_keywords, text_bounds, top_role}

abbrev pub role_at : List Form → ℕ → Form → Role
role_at forms at form = role_in text_keywords text_bounds (take at forms) (top_role (take at forms)) form

-- a fault of one form: as its role has it, or, where that is a machine, as machine tables have it
pub data IsFormFault (role : Role) (form : Form) : ℕ → Kind → Type 0 where
  as_role : {place : ℕ} {kind : Kind} → IsFaultAs role form place kind → IsFormFault role form place kind
  as_machine : {place : ℕ} {kind : Kind} → role ≡ a_machine → IsMachineFault form place kind
      → IsFormFault role form place kind

-- no fault in a form before this one
abbrev pub AreClear : List Form → ℕ → Type 0
AreClear forms at = (j : ℕ) (form : Form) (place : ℕ) (kind : Kind) → j < at → slice_get forms j ≡ Some form
    → IsFormFault (role_at forms j form) form place kind → ⊥
