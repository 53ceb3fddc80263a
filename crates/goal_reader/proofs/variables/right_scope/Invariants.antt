use Rattle.std.proofs.Common.{◌≡◌, ◌++◌, drop}
use Rattle.forms.specs.Forms.{sexp_form}
use Rattle.goal_reader.specs.Reading.{meaning_right}
use Rattle.goal_reader.specs.Roles.{numbered_leaves}
use Rattle.goal_reader.proofs.variables.right_scope.Given as goal

abbrev pub invariant-loop-index : goal.invariant-loop-index
invariant-loop-index l =
    l.leaves ++ numbered_leaves l.index (meaning_right (sexp_form l.text l.left)) (drop l.index l.names)
    ≡ numbered_leaves 0 (meaning_right (sexp_form l.text l.left)) l.names
