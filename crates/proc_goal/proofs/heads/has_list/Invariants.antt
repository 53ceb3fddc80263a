use Rattle.std.proofs.Common.{◌≡◌, drop}
use Rattle.forms.specs.Forms.{sexp_forms}
use Rattle.proc_goal.specs.ProcRoles.{has_list}
use Rattle.proc_goal.proofs.heads.has_list.Given as goal

abbrev pub invariant-loop-form : goal.invariant-loop-form
invariant-loop-form l = has_list l.word (sexp_forms l.text l.forms) ≡ has_list l.word (sexp_forms l.text (drop l.form-index l.forms))
