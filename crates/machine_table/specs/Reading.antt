-- What the parts of a machine form give, as they are read one behind the other. Source: this project.
use Rattle.std.specs.Prelude.{ℕ, ◌≡◌, ◌≢◌, ◌<◌, ◌≤◌, ◌++◌, false, List, [], ◌∷◌, map, length, slice_get, slice_index_or, codes, All, AllPairs, Some}
use Rattle.std.specs.List.Sorted.{IsNonDecreasingBy}
use Rattle.forms.specs.Faults.{IsFault}
use Rattle.forms.specs.Forms.{Form, list, forms_from}
use Rattle.machine_table.specs.Grammar.{Each, WritesSlot, IsSlotNamed, WritesOps, IsNameOf, IsNumberOf, IsListOf}
use Rattle.machine_table.specs.InstrOrder.{instr_name, kind_number}
use Rattle.machine_table.specs.Roles as roles
use Rattle.text_core.specs.Names.{is_among}
use Rattle.machine_table.specs.Roles.{TableRole, IsOwnTableFault, table_part_role}
use Rattle.machine_table.specs.declared.tables.InstrKind.{InstrKind}
use Rattle.machine_table.specs.declared.tables.Slot.{Slot}
use Rattle.machine_table.specs.declared.tables.Use.{Use}
use Rattle.text_core.specs.declared.faults.Kind.{Kind}

-- a fault of a form that is read in this role
abbrev pub IsTableFault : TableRole → Form → ℕ → Kind → Type 0
IsTableFault role form = IsFault IsOwnTableFault table_part_role role form

-- a form without faults
abbrev pub IsClearTableForm : TableRole → Form → Type 0
IsClearTableForm role form = (place : ℕ) (kind : Kind) → IsTableFault role form place kind → ⊥

abbrev pub slot_names : List Slot → List (List ℕ)
slot_names slots = map (λ (s : Slot). s.name) slots

abbrev pub name_at : List Slot → ℕ → List ℕ
name_at slots at = slice_index_or (slot_names slots) at []

-- the names of the slots of these numbers
abbrev pub slot_names_used : List Slot → List ℕ → List (List ℕ)
slot_names_used slots used = map (name_at slots) used

abbrev pub names_of_uses : List Use → List (List ℕ)
names_of_uses uses = map (λ (u : Use). instr_name u.instr) uses

-- there are eight slots at most, which have different names, and are in the four clusters
pub record AreSlots (slots : List Slot) : Type 0 where
  pub few : length slots ≤ 8
  pub clusters : All (λ s. s.cluster ≤ 3) slots
  pub names : AllPairs (λ s r. s.name ≢ r.name) slots

-- a slot that stands behind slots of these names
pub record IsSlotRead (before : List (List ℕ)) (form : Form) (slot : Slot) : Type 0 where
  pub writes : WritesSlot form slot
  pub fresh : is_among before slot.name ≡ false
  pub cluster : slot.cluster ≤ 3
  pub clear : IsClearTableForm (roles.slot before) form

-- the slots of a table
pub record AreSlotsRead (form : Form) (slots : List Slot) : Type 0 where
  pub forms : List Form
  pub is : IsListOf (codes "slots") forms form
  pub written : Each WritesSlot forms slots
  pub some : 1 ≤ length slots
  pub differ : AreSlots slots
  pub clear : IsClearTableForm roles.slots form

-- numbers of slots, each of which exists and stands once
pub record AreSlotNumbers (slots : List Slot) (used : List ℕ) : Type 0 where
  pub exist : All (λ s. s < length slots) used
  pub once : AllPairs (λ s r. s ≢ r) used

-- the number of a slot that stands behind others
pub record IsUsedRead (slots : List Slot) (used : List ℕ) (form : Form) (at : ℕ) : Type 0 where
  pub named : IsSlotNamed slots form at
  pub fresh : is_among (slot_names_used slots used) (name_at slots at) ≡ false
  pub clear : IsClearTableForm (roles.used_slot (slot_names slots) (slot_names_used slots used)) form

-- the slot of this number has the name
pub record IsNameAt (slots : List Slot) (name : List ℕ) (at : ℕ) : Type 0 where
  pub slot : Slot
  pub found : slice_get slots at ≡ Some slot
  pub named : slot.name ≡ name

-- the slots that an `ops` list names
pub record AreUsedRead (slots : List Slot) (form : Form) (used : List ℕ) : Type 0 where
  pub place : ℕ
  pub forms : List Form
  pub is : form ≡ list place (forms_from forms)
  pub named : Each (IsSlotNamed slots) forms used
  pub some : 0 < length used
  pub numbers : AreSlotNumbers slots used
  pub clear : IsClearTableForm (roles.used_slots (slot_names slots)) form

-- an instruction that stands behind others
pub record IsInstrRead (before : List (List ℕ)) (form : Form) (instr : InstrKind) : Type 0 where
  pub named : IsNameOf (instr_name instr) form
  pub fresh : is_among before (instr_name instr) ≡ false
  pub clear : IsClearTableForm (roles.instr before) form

-- a use within the limits of a table with these slots
pub record IsUseOf (slots : List Slot) (u : Use) : Type 0 where
  pub latency : (1 ≤ u.latency) × (u.latency ≤ 16)
  pub some : 0 < length u.slots
  pub numbers : AreSlotNumbers slots u.slots

-- uses within the limits, of different instructions, in any order
pub record AreUses (slots : List Slot) (uses : List Use) : Type 0 where
  pub each : All (IsUseOf slots) uses
  pub once : AllPairs (λ u v. u.instr ≢ v.instr) uses

-- the uses that an `ops` list adds to those before
pub record AreOpsRead (slots : List Slot) (before : List Use) (form : Form) (after : List Use) : Type 0 where
  pub added : List Use
  pub is : after ≡ before ++ added
  pub written : WritesOps slots form added
  pub uses : AreUses slots after
  pub clear : IsClearTableForm (roles.ops (slot_names slots) (names_of_uses before)) form

-- the delay between clusters
pub record IsCrossRead (form : Form) (delay : ℕ) : Type 0 where
  pub delay_form : Form
  pub is : IsListOf (codes "cross") (delay_form ∷ []) form
  pub number : IsNumberOf delay delay_form
  pub below : delay ≤ 4
  pub clear : IsClearTableForm roles.cross form

-- the uses don't fall in the order of their instructions
abbrev pub DontFall : List Use → Type 0
DontFall uses = IsNonDecreasingBy (λ (u : Use). kind_number u.instr) uses
