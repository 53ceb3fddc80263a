use Rattle.std.proofs.Common.{◌≡◌, ◌++◌, drop}
use Rattle.goal_reader.specs.declared.scopes.Named.TheVariants.{Variable}
use Rattle.goal_reader.specs.Roles.{numbered_leaves}
use Rattle.goal_reader.proofs.variables.left_scope.Given as goal

abbrev pub invariant-loop-index : goal.invariant-loop-index
invariant-loop-index l =
    l.leaves ++ numbered_leaves l.index (λ name n. Variable n) (drop l.index l.names) ≡ numbered_leaves 0 (λ name n. Variable n) l.names
