use Rattle.std.proofs.Common.{◌≡◌, drop}
use Rattle.text_core.specs.Names.{is_among}
use Rattle.forms.specs.Forms.{sexp_forms}
use Rattle.code_check.specs.CodeRoles.{targets_named}
use Rattle.code_check.proofs.places.is_named.Given as goal

abbrev pub invariant-loop-form : goal.invariant-loop-form
invariant-loop-form l = is_among (targets_named (sexp_forms l.text l.forms)) l.name ≡ is_among (targets_named (sexp_forms l.text (drop l.form-index l.forms))) l.name
