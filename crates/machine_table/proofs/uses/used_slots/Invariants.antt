use Rattle.std.proofs.Common.{take}
use Rattle.forms.proofs.First.{ClearTo}
use Rattle.forms.specs.Forms.{sexp_form, parts_of}
use Rattle.machine_table.specs.Grammar.{Each, IsSlotNamed}
use Rattle.machine_table.specs.Reading.{AreSlotNumbers, slot_names}
use Rattle.machine_table.specs.Roles.{IsOwnTableFault, table_part_role, used_slots}
use Rattle.machine_table.proofs.uses.used_slots.Given as goal

abbrev pub invariant-loop-index : goal.invariant-loop-index
invariant-loop-index l = record {
  named : Each (IsSlotNamed l.slots) (take l.index (parts_of (sexp_form l.text l.form))) l.used;
  numbers : AreSlotNumbers l.slots l.used;
  clear : ClearTo IsOwnTableFault table_part_role (used_slots (slot_names l.slots)) (sexp_form l.text l.form) l.index;
}
