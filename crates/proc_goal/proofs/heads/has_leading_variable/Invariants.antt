use Rattle.std.proofs.Common.{◌≡◌, drop}
use Rattle.forms.specs.Forms.{sexp_forms}
use Rattle.proc_goal.specs.ProcRoles.{has_leading_variable}
use Rattle.proc_goal.proofs.heads.has_leading_variable.Given as goal

abbrev pub invariant-loop-item : goal.invariant-loop-item
invariant-loop-item l = has_leading_variable (sexp_forms l.text l.items) ≡ has_leading_variable (sexp_forms l.text (drop l.item-index l.items))
