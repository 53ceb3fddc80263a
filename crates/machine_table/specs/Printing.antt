-- How a table is printed: one `ops` for each of its uses. Source: this project.
use Rattle.std.specs.Prelude.{ℕ, List, [], ◌∷◌, map, codes, slice_index_or}
use Rattle.forms.specs.Forms.{name, number}
use Rattle.forms.specs.Printing.{Plain, atom, list, plains_from, keyword_list, lines_of}
use Rattle.machine_table.specs.InstrOrder.{instr_name}
use Rattle.machine_table.specs.declared.tables.Slot.{Slot}
use Rattle.machine_table.specs.declared.tables.Use.{Use}
use Rattle.machine_table.specs.declared.tables.Table.{Table}

abbrev pub slot_plain : Slot → Plain
slot_plain slot = list (plains_from (atom (name slot.name) ∷ atom (number slot.cluster) ∷ []))

-- the slot's name by its number
abbrev pub slot_name_plain : Table → ℕ → Plain
slot_name_plain table at = atom (name (slice_index_or (map (λ (s : Slot). s.name) table.slots) at []))

abbrev pub use_plain : Table → Use → Plain
use_plain table u =
    keyword_list (codes "ops")
    (atom (number u.latency)
    ∷ list (plains_from (map (slot_name_plain table) u.slots))
    ∷ atom (name (instr_name u.instr)) ∷ [])

abbrev pub table_plain : Table → Plain
table_plain table =
    keyword_list (codes "machine")
    (keyword_list (codes "slots") (map slot_plain table.slots)
    ∷ keyword_list (codes "cross") (atom (number table.cross) ∷ [])
    ∷ map (use_plain table) table.uses)

-- the form and a line feed
abbrev pub table_text : Table → List ℕ
table_text table = lines_of (plains_from (table_plain table ∷ []))
