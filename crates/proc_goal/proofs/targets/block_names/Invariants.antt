use Rattle.std.proofs.Common.{◌≡◌, ◌≤◌, codes, length, take}
use Rattle.forms.specs.Forms.{sexp_forms}
use Rattle.goal_reader.specs.Roles.{names_given}
use Rattle.proc_goal.specs.ProcRoles.{lists_of}
use Rattle.proc_goal.proofs.targets.block_names.Given as goal

abbrev pub invariant-loop-item : goal.invariant-loop-item
invariant-loop-item l = record {
  names : l.names ≡ names_given (lists_of (codes "block") (take l.item-index (sexp_forms l.text l.items)));
  count : l.count ≡ length (lists_of (codes "block") (take l.item-index (sexp_forms l.text l.items)));
  few : l.count ≤ 64;
  fewer : length l.names ≤ l.count;
}
