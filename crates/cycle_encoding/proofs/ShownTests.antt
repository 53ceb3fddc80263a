-- Clauses over the variables of things that pass a test, and how many of the things that are shown pass it.
use Rattle.std.proofs.Common.{◌≡◌, ℕ, ◌≤◌, Bool, true, List, sym, ◌∙◌, arith}
use Rattle.std.specs.List.{list_any, count_by}
use Rattle.cnf_core.specs.Formula.{clause_true}
use Rattle.cnf_core.specs.Counter.{count_true}
use Rattle.cycle_encoding.specs.Shapes.{vars_of, shown}
use Rattle.cycle_encoding.proofs.Shown.{any_of, count_of}

module _ {X : Type 0} (v : ℕ → Bool) (test : X → Bool) (ps : List (ℕ × X)) where
  pub some-out : clause_true v (vars_of test ps) ≡ true → list_any test (shown v ps) ≡ true
  some-out h = sym (any_of v test ps) ∙ h

  pub some-in : list_any test (shown v ps) ≡ true → clause_true v (vars_of test ps) ≡ true
  some-in h = any_of v test ps ∙ h

  pub few-out : (p : ℕ) → count_true v (vars_of test ps) ≤ p → count_by test (shown v ps) ≤ p
  few-out p h = (let e = count_of v test ps in omega arith)

  pub few-in : (p : ℕ) → count_by test (shown v ps) ≤ p → count_true v (vars_of test ps) ≤ p
  few-in p h = (let e = count_of v test ps in omega arith)
