use Rattle.std.proofs.Common.{◌≡◌, false, take}
use Rattle.std.specs.List.{list_any}
use Rattle.cnf_core.specs.Formula.{lit_true, assigned}
use Rattle.cnf_core.proofs.formula.clause_holds.Given as goal

abbrev pub invariant-loop-lit : goal.invariant-loop-lit
invariant-loop-lit l = list_any (lit_true (assigned l.values)) (take l.lit-index l.clause) ≡ false
