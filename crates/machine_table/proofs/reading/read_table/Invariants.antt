use Rattle.std.proofs.Common.{◌≡◌, List}
use Rattle.forms.proofs.First.{ClearTo}
use Rattle.forms.specs.Forms.{sexp_form, parts_of}
use Rattle.machine_table.proofs.Parts.{between}
use Rattle.machine_table.proofs.TableForms.{joined}
use Rattle.machine_table.specs.Grammar.{Each, WritesOps}
use Rattle.machine_table.specs.Reading.{AreUses}
use Rattle.machine_table.specs.Roles.{IsOwnTableFault, table_part_role, machine}
use Rattle.machine_table.specs.declared.tables.Use.{Use}
use Rattle.machine_table.proofs.reading.read_table.Given as goal

abbrev pub invariant-loop-index : goal.invariant-loop-index
invariant-loop-index l = record {
  written : List (List Use);
  each : Each (WritesOps l.slots_read) (between 3 l.index (parts_of (sexp_form l.text l.form))) written;
  is : joined written ≡ l.uses;
  are : AreUses l.slots_read l.uses;
  clear : ClearTo IsOwnTableFault table_part_role machine (sexp_form l.text l.form) l.index;
}
