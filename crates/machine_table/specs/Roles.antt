-- What a part of a machine form can be read as, its role, and which faults of its own it has in each role. Source: this
-- project.
use Rattle.std.specs.Prelude.{Bool, true, false, ℕ, zero, suc, ◌≡◌, ◌<◌, nat_lt, if◌then◌else◌, List, [], ◌∷◌, ◌++◌, length, take, drop, filter_map, codes, bytes_eq, Option, Some, None, is_some}
use Rattle.std.specs.Option.{option_map_or, option_and_then}
use Rattle.forms.specs.Faults.{IsFault}
use Rattle.forms.specs.Forms.{Form, name_in, names_in, number_in, head_in, is_list, part, parts_of}
use Rattle.machine_table.specs.InstrOrder.{instr_named}
use Rattle.text_core.specs.Names.{is_among}
use Rattle.text_core.specs.declared.faults.Kind.{Kind}
use Rattle.text_core.specs.declared.faults.Kind.TheVariants.{BadForm, UnknownName, BadSlot, BadLatency, OpTwice}

abbrev pub has_head : List ℕ → Form → Bool
has_head word form = option_map_or (λ name. bytes_eq name word) (head_in form) false

-- the name that a list begins with
abbrev pub first_name : Form → Option (List ℕ)
first_name form = option_and_then name_in (part 0 form)

-- the names of the slots that these lists give
abbrev pub slots_in : List Form → List (List ℕ)
slots_in forms = filter_map first_name forms

-- the slots of a machine form: those of its second part
abbrev pub slots_in_form : Form → List (List ℕ)
slots_in_form form = option_map_or (λ slots. slots_in (drop 1 (parts_of slots))) (part 1 form) []

-- the names of instructions in an `ops` list, and in several
abbrev pub named_in_ops : Form → List (List ℕ)
named_in_ops form = names_in (drop 3 (parts_of form))

abbrev pub named_in_all : List Form → List (List ℕ)
named_in_all [] = []
named_in_all (form ∷ forms) = named_in_ops form ++ named_in_all forms

-- what a part of a machine form is to be read as
pub data TableRole : Type 0 where
  -- ( machine ( slots .. ) ( cross NUMBER ) {ops} ), ( slots {slot} ), ( cross NUMBER )
  machine slots cross : TableRole
  -- ( NAME NUMBER ), behind slots of these names, up to eight of them; and one more
  slot : List (List ℕ) → TableRole
  ninth_slot : TableRole
  slot_name cluster delay : TableRole
  -- ( ops NUMBER ( {NAME} ) NAME {NAME} ), with the slots of the table and the instructions named before
  ops : List (List ℕ) → List (List ℕ) → TableRole
  latency : TableRole
  -- ( {NAME} ), and one of these behind others
  used_slots : List (List ℕ) → TableRole
  used_slot : List (List ℕ) → List (List ℕ) → TableRole
  -- the name of an instruction, behind others
  instr : List (List ℕ) → TableRole
  -- what the grammar doesn't have there
  wrong : TableRole

-- how many parts a list needs at least
abbrev pub least_table_parts : TableRole → ℕ
least_table_parts machine = 3
least_table_parts slots = 1
least_table_parts cross = 2
least_table_parts (slot before) = 2
least_table_parts (ops table before) = 4
least_table_parts _ = 0

-- the keyword of a list
abbrev pub keyword : TableRole → Option (List ℕ)
keyword machine = Some (codes "machine")
keyword slots = Some (codes "slots")
keyword cross = Some (codes "cross")
keyword (ops table before) = Some (codes "ops")
keyword _ = None

-- The faults of a form of its own, by its role.
pub data IsOwnTableFault : TableRole → Form → Kind → Type 0 where
  -- another list or atom than the grammar has there, and a missing part
  other_keyword : {role : TableRole} {form : Form} {word : List ℕ}
      → keyword role ≡ Some word → has_head word form ≡ false → IsOwnTableFault role form BadForm
  too_few : {role : TableRole} {form : Form}
      → length (parts_of form) < least_table_parts role → IsOwnTableFault role form BadForm
  no_list : {table : List (List ℕ)} {form : Form}
      → is_list form ≡ false → IsOwnTableFault (used_slots table) form BadForm
  ninth_atom : {form : Form} → is_list form ≡ false → IsOwnTableFault ninth_slot form BadForm
  no_slot_name : {form : Form} → name_in form ≡ None → IsOwnTableFault slot_name form BadForm
  no_used_name : {table before : List (List ℕ)} {form : Form}
      → name_in form ≡ None → IsOwnTableFault (used_slot table before) form BadForm
  no_instr_name : {before : List (List ℕ)} {form : Form}
      → name_in form ≡ None → IsOwnTableFault (instr before) form BadForm
  no_cluster : {form : Form} → number_in form ≡ None → IsOwnTableFault cluster form BadForm
  no_delay : {form : Form} → number_in form ≡ None → IsOwnTableFault delay form BadForm
  no_latency : {form : Form} → number_in form ≡ None → IsOwnTableFault latency form BadForm
  wrong_part : {form : Form} → IsOwnTableFault wrong form BadForm
  -- slots: none at all, a ninth one, one whose name stands before, a cluster that isn't 0 to 3; and in `ops` none, one
  -- that the table doesn't have, one that stands before
  no_slot : {form : Form} → length (parts_of form) ≡ 1 → IsOwnTableFault slots form BadSlot
  ninth : {form : Form} → is_list form ≡ true → IsOwnTableFault ninth_slot form BadSlot
  slot_again : {before : List (List ℕ)} {form : Form} {name : List ℕ}
      → first_name form ≡ Some name → is_among before name ≡ true → IsOwnTableFault (slot before) form BadSlot
  cluster_above : {form : Form} {n : ℕ} → number_in form ≡ Some n → 3 < n → IsOwnTableFault cluster form BadSlot
  none_used : {table : List (List ℕ)} {form : Form}
      → is_list form ≡ true → length (parts_of form) ≡ 0 → IsOwnTableFault (used_slots table) form BadSlot
  unknown_slot : {table before : List (List ℕ)} {form : Form} {name : List ℕ}
      → name_in form ≡ Some name → is_among table name ≡ false → IsOwnTableFault (used_slot table before) form BadSlot
  used_again : {table before : List (List ℕ)} {form : Form} {name : List ℕ}
      → name_in form ≡ Some name → is_among before name ≡ true → IsOwnTableFault (used_slot table before) form BadSlot
  -- a latency that isn't 1 to 16, a delay that isn't 0 to 4
  latency_0 : {form : Form} → number_in form ≡ Some 0 → IsOwnTableFault latency form BadLatency
  latency_above : {form : Form} {n : ℕ} → number_in form ≡ Some n → 16 < n → IsOwnTableFault latency form BadLatency
  delay_above : {form : Form} {n : ℕ} → number_in form ≡ Some n → 4 < n → IsOwnTableFault delay form BadLatency
  -- an instruction that isn't known, and one that the table named before
  unknown_instr : {before : List (List ℕ)} {form : Form} {name : List ℕ}
      → name_in form ≡ Some name → instr_named name ≡ None → IsOwnTableFault (instr before) form UnknownName
  instr_again : {before : List (List ℕ)} {form : Form} {name : List ℕ}
      → name_in form ≡ Some name → is_among before name ≡ true → is_some (instr_named name) ≡ true
      → IsOwnTableFault (instr before) form OpTwice

-- What each part of a form is to be read as; a keyword isn't examined.
abbrev pub table_part_role : TableRole → Form → ℕ → Option TableRole
table_part_role machine form zero = None
table_part_role machine form (suc zero) = Some slots
table_part_role machine form (suc (suc zero)) = Some cross
table_part_role machine form (suc (suc (suc at))) =
    Some (ops (slots_in_form form) (named_in_all (take at (drop 3 (parts_of form)))))
table_part_role slots form zero = None
table_part_role slots form (suc at) =
    Some (if nat_lt at 8 then slot (slots_in (take at (drop 1 (parts_of form)))) else ninth_slot)
table_part_role (slot before) form zero = Some slot_name
table_part_role (slot before) form (suc zero) = Some cluster
table_part_role (slot before) form (suc (suc at)) = Some wrong
table_part_role cross form zero = None
table_part_role cross form (suc zero) = Some delay
table_part_role cross form (suc (suc at)) = Some wrong
table_part_role (ops table before) form zero = None
table_part_role (ops table before) form (suc zero) = Some latency
table_part_role (ops table before) form (suc (suc zero)) = Some (used_slots table)
table_part_role (ops table before) form (suc (suc (suc at))) =
    Some (instr (before ++ names_in (take at (drop 3 (parts_of form)))))
table_part_role (used_slots table) form at = Some (used_slot table (names_in (take at (parts_of form))))
table_part_role _ form at = None

-- a fault of a form that is read as a machine form
abbrev pub IsMachineFault : Form → ℕ → Kind → Type 0
IsMachineFault form = IsFault IsOwnTableFault table_part_role machine form
