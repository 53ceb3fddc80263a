-- Literals, clauses and formulas in conjunctive normal form, and what satisfies them: the standard terms of the field.
use Rattle.std.specs.Prelude.{◌≡◌, ℕ, ◌-◌, ◌^◌, ◌<◌, ◌≤◌, Bool, true, false, not, if◌then◌else◌, List, length}
use Rattle.std.specs.List.{All, list_any, slice_index_or}
use Rattle.cnf_core.specs.declared.literal.Lit.{Lit}

-- a formula: its variables are 1 to `vars`
pub record Formula : Type 0 where
  pub vars : ℕ
  pub clauses : List (List Lit)

-- the literal's variable is among 1 to n
pub record IsLitOf (n : ℕ) (l : Lit) : Type 0 where
  pub above : 1 ≤ l.var
  pub within : l.var ≤ n

-- the variables of all literals exist
abbrev pub AreOver : ℕ → List (List Lit) → Type 0
AreOver n clauses = All (All (IsLitOf n)) clauses

-- what each formula of the program keeps
pub record IsFormula (f : Formula) : Type 0 where
  pub few_vars : f.vars < 2 ^ 29
  pub few_clauses : length f.clauses ≤ 2 ^ 30
  pub exist : AreOver f.vars f.clauses

-- the opposite literal
abbrev pub negated : Lit → Lit
negated l = record { var = l.var; positive = not l.positive }

-- whether a literal is true where each variable has the value that v gives
abbrev pub lit_true : (ℕ → Bool) → Lit → Bool
lit_true v l = if l.positive then v l.var else not (v l.var)

-- whether one of the literals is true
abbrev pub clause_true : (ℕ → Bool) → List Lit → Bool
clause_true v c = list_any (lit_true v) c

-- each clause is true
abbrev pub Satisfies : (ℕ → Bool) → List (List Lit) → Type 0
Satisfies v clauses = All (λ c. clause_true v c ≡ true) clauses

-- the values in a list, that of variable x at the place x - 1
abbrev pub assigned : List Bool → ℕ → Bool
assigned values x = slice_index_or values (x - 1) false
