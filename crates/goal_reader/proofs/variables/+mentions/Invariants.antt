use Rattle.std.proofs.Common.{◌≡◌, drop, All}
use Rattle.forms.specs.Forms.{sexp_forms, forms_from}
use Rattle.forms.specs.Reading.{IsSexpOf}
use Rattle.goal_reader.specs.Roles.{mentions_any}
use Rattle.goal_reader.proofs.variables.+mentions.Given as goal

abbrev pub invariant-loop-operand : goal.invariant-loop-operand
invariant-loop-operand l = record {
  same : mentions_any l.wanted (forms_from (sexp_forms l.text l.operands)) ≡ mentions_any l.wanted (forms_from (sexp_forms l.text (drop l.operand-index l.operands)));
  of : All (IsSexpOf l.text) l.operands;
}
