use Rattle.std.proofs.Common.{◌≡◌, ◌≤◌, take, length}
use Rattle.forms.specs.Forms.{sexp_form, parts_of, names_in}
use Rattle.forms.proofs.First.{ClearTo}
use Rattle.goal_reader.specs.Roles.{a_list, variables, IsOwn, part_role}
use Rattle.goal_reader.proofs.variables.variables.Given as goal

abbrev pub invariant-loop-index : goal.invariant-loop-index
invariant-loop-index l = record {
  read : l.names ≡ names_in (take l.index (parts_of (sexp_form l.text l.form)));
  few : l.index ≤ 8;
  count : length l.names ≤ l.index;
  clear : ClearTo IsOwn part_role (a_list (variables l.declared)) (sexp_form l.text l.form) l.index;
}
