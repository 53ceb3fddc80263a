use Rattle.std.proofs.Common.{◌≡◌, true, take}
use Rattle.std.specs.List.{All}
use Rattle.cnf_core.specs.Formula.{clause_true, assigned}
use Rattle.cnf_core.proofs.formula.satisfied.Given as goal

abbrev pub invariant-loop-index : goal.invariant-loop-index
invariant-loop-index l = All (λ c. clause_true (assigned l.values) c ≡ true) (take l.index l.cnf.clauses)
