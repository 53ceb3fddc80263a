-- A clause that is false under some values: this project; no public clause cites it.
use Rattle.std.specs.Prelude.{ℕ, ◌≤◌, List, length}
use Rattle.cnf_core.specs.declared.literal.Lit.{Lit}
use Rattle.cnf_core.specs.Values.{Partial, IsFalseClause}
use Rattle.cnf_core.specs.Refutation.{clause_at}

-- the clause with this id is false
pub record IsFalsified (s : Partial) (clauses : List (List Lit)) (id : ℕ) : Type 0 where
  pub low : 1 ≤ id
  pub high : id ≤ length clauses
  pub false' : IsFalseClause s (clause_at clauses id)
