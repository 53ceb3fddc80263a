use Rattle.std.proofs.Common.{◌≡◌, ◌+◌, length}
use Rattle.forms.proofs.First.{ClearTo}
use Rattle.forms.specs.Forms.{sexp_form, parts_of}
use Rattle.machine_table.proofs.Parts.{between}
use Rattle.machine_table.specs.Grammar.{Each, WritesSlot}
use Rattle.machine_table.specs.Reading.{AreSlots}
use Rattle.machine_table.specs.Roles as roles
use Rattle.machine_table.specs.Roles.{IsOwnTableFault, table_part_role}
use Rattle.machine_table.proofs.slots.slots.Given as goal

abbrev pub invariant-loop-index : goal.invariant-loop-index
invariant-loop-index l = record {
  written : Each WritesSlot (between 1 l.index (parts_of (sexp_form l.text l.form))) l.slots;
  count : length l.slots + 1 ≡ l.index;
  differ : AreSlots l.slots;
  clear : ClearTo IsOwnTableFault table_part_role roles.slots (sexp_form l.text l.form) l.index;
}
