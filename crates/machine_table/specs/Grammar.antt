-- The grammar of machine forms: which table a form writes. Source: this project.
use Rattle.std.specs.Prelude.{ℕ, ◌≡◌, List, [], ◌∷◌, codes, IsPermutation, Some, slice_get}
use Rattle.std.specs.List.{flat_map}
use Rattle.forms.specs.Forms.{Form, list, atom, more, forms_from, name, number}
use Rattle.machine_table.specs.InstrOrder.{instr_name}
use Rattle.machine_table.specs.Tables.{IsTable}
use Rattle.machine_table.specs.declared.tables.Slot.{Slot}
use Rattle.machine_table.specs.declared.tables.Table.{Table}
use Rattle.machine_table.specs.declared.tables.Use.{Use}

-- each form writes the item in its place, and there are as many of one as of the other
pub data Each {Y : Type 0} (IsWritten : Form → Y → Type 0) : List Form → List Y → Type 0 where
  none : Each IsWritten [] []
  more_of : {form : Form} {forms : List Form} {y : Y} {ys : List Y}
      → IsWritten form y → Each IsWritten forms ys → Each IsWritten (form ∷ forms) (y ∷ ys)

-- a list of these parts behind a keyword
pub record IsListOf (keyword : List ℕ) (parts : List Form) (form : Form) : Type 0 where
  pub place : ℕ
  pub head_place : ℕ
  pub is : form ≡ list place (more (atom head_place (name keyword)) (forms_from parts))

pub record IsNameOf (bytes : List ℕ) (form : Form) : Type 0 where
  pub place : ℕ
  pub is : form ≡ atom place (name bytes)

pub record IsNumberOf (n : ℕ) (form : Form) : Type 0 where
  pub place : ℕ
  pub is : form ≡ atom place (number n)

-- ( NAME NUMBER )
pub record WritesSlot (form : Form) (slot : Slot) : Type 0 where
  pub place : ℕ
  pub first : Form
  pub second : Form
  pub is : form ≡ list place (forms_from (first ∷ second ∷ []))
  pub named : IsNameOf slot.name first
  pub placed : IsNumberOf slot.cluster second

-- the slot of this number has the name
pub record IsSlotNamed (table : List Slot) (form : Form) (at : ℕ) : Type 0 where
  pub slot : Slot
  pub found : slice_get table at ≡ Some slot
  pub named : IsNameOf slot.name form

-- the name is that of the use's instruction, and latency and slots are these
pub record WritesUse (latency : ℕ) (slots : List ℕ) (form : Form) (u : Use) : Type 0 where
  pub instr : IsNameOf (instr_name u.instr) form
  pub takes : u.latency ≡ latency
  pub may_use : u.slots ≡ slots

-- ( ops NUMBER ( {NAME} ) NAME {NAME} ), with the slots of the table: a use for each name behind the list of slots
pub record WritesOps (table : List Slot) (form : Form) (uses : List Use) : Type 0 where
  pub latency_form : Form
  pub slots_place : ℕ
  pub slot_forms : List Form
  pub first : Form
  pub others : List Form
  pub latency : ℕ
  pub slots : List ℕ
  pub is : IsListOf (codes "ops")
      (latency_form ∷ list slots_place (forms_from slot_forms) ∷ first ∷ others) form
  pub latency_is : IsNumberOf latency latency_form
  pub slots_are : Each (IsSlotNamed table) slot_forms slots
  pub written : Each (WritesUse latency slots) (first ∷ others) uses

-- ( machine ( slots {( NAME NUMBER )} ) ( cross NUMBER ) {ops} ). The table's uses are those that the `ops` lists
-- write, in the order of the instructions, whatever order the text has; so no instruction is named twice.
pub record WritesTable (form : Form) (table : Table) : Type 0 where
  pub slots_form : Form
  pub slot_forms : List Form
  pub cross_form : Form
  pub delay_form : Form
  pub ops_forms : List Form
  pub written : List (List Use)
  pub is : IsListOf (codes "machine") (slots_form ∷ cross_form ∷ ops_forms) form
  pub slots_is : IsListOf (codes "slots") slot_forms slots_form
  pub slots : Each WritesSlot slot_forms table.slots
  pub cross_is : IsListOf (codes "cross") (delay_form ∷ []) cross_form
  pub cross : IsNumberOf table.cross delay_form
  pub ops : Each (WritesOps table.slots) ops_forms written
  pub uses : IsPermutation (flat_map (λ (uses : List Use). uses) written) table.uses
  pub well_formed : IsTable table
