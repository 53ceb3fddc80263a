-- What a solver's three outcomes mean: satisfying values, a refutation, or a budget spent on fresh lemmas: this
-- project.
use Rattle.std.specs.Prelude.{◌≡◌, ℕ, ◌^◌, ◌<◌, ◌≤◌, Bool, List, length, take}
use Rattle.std.specs.List.{slice_index_or}
use Rattle.cnf_core.specs.declared.line.Line.{Line}
use Rattle.cnf_core.specs.Formula.{Formula, Satisfies, assigned}
use Rattle.cnf_core.specs.Values.{Partial, IsClosed}
use Rattle.cnf_core.specs.Refutation.{known_clauses, AreAccepted, Refutes, HaveNoSolution, IsFresh}

-- a value for each variable, and they satisfy the formula
pub record IsSolved (f : Formula) (values : List Bool) : Type 0 where
  pub size : length values ≡ f.vars
  pub satisfied : Satisfies (assigned values) f.clauses

-- lines within the budget, which refute the formula; so no assignment satisfies it
pub record IsRefuted (f : Formula) (conflicts : ℕ) (lines : List Line) : Type 0 where
  pub few : length lines ≤ conflicts
  pub refutes : Refutes f lines
  pub none : HaveNoSolution f.clauses

-- exactly as many lines as the budget, each accepted and fresh; so the budget is below 3 to the number of variables,
-- and unit propagation alone doesn't refute the formula
pub record IsSpent (f : Formula) (conflicts : ℕ) (lines : List Line) : Type 0 where
  pub count : length lines ≡ conflicts
  pub accepted : AreAccepted f lines
  pub fresh : (k : ℕ) (d : Line) → k < length lines
      → IsFresh (known_clauses f.clauses (take k lines)) (slice_index_or lines k d).lits
  pub few : conflicts < 3 ^ f.vars
  pub closed : (s : Partial) × IsClosed s f.clauses
