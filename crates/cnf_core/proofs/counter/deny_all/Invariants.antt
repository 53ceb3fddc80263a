use Rattle.std.proofs.Common.{◌≡◌, ◌++◌, [], ◌∷◌, map, take}
use Rattle.cnf_core.specs.Formula.{negated}
use Rattle.cnf_core.proofs.counter.deny_all.Given as goal

abbrev pub invariant-loop-lit : goal.invariant-loop-lit
invariant-loop-lit l = l.clauses ≡ l.initial.clauses ++ map (λ x. negated x ∷ []) (take l.lit-index l.lits)
