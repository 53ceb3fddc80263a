use Rattle.std.proofs.Common.{◌≡◌, ◌++◌, List}
use Rattle.forms.proofs.First.{ClearTo}
use Rattle.forms.specs.Forms.{sexp_form, parts_of}
use Rattle.machine_table.proofs.Parts.{between}
use Rattle.machine_table.specs.Grammar.{Each, WritesUse}
use Rattle.machine_table.specs.Reading.{AreUses, slot_names, names_of_uses}
use Rattle.machine_table.specs.Roles as roles
use Rattle.machine_table.specs.Roles.{IsOwnTableFault, table_part_role}
use Rattle.machine_table.specs.declared.tables.Use.{Use}
use Rattle.machine_table.proofs.uses.ops.Given as goal

abbrev pub invariant-loop-index : goal.invariant-loop-index
invariant-loop-index l = record {
  added : List Use;
  is : l.uses ≡ l.initial.uses ++ added;
  written : Each (WritesUse l.latency l.numbers) (between 3 l.index (parts_of (sexp_form l.text l.form))) added;
  are : AreUses l.slots l.uses;
  clear : ClearTo IsOwnTableFault table_part_role (roles.ops (slot_names l.slots) (names_of_uses l.initial.uses)) (sexp_form l.text l.form) l.index;
}
