use Rattle.std.proofs.Common.{◌≡◌, drop}
use Rattle.forms.specs.Forms.{sexp_forms}
use Rattle.code_check.specs.CodeRoles.{from_codes}
use Rattle.code_check.proofs.reading.first_code.Given as goal

abbrev pub invariant-loop-number : goal.invariant-loop-number
invariant-loop-number l = from_codes (sexp_forms l.text l.forms) ≡ from_codes (sexp_forms l.text (drop l.number l.forms))
