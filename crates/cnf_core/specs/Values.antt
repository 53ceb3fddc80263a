-- Values of some of the variables, seen as a set of literals without opposites, and when a clause is unit, false or
-- open under them: the field's unit propagation, as LRAT checkers take it.
use Rattle.std.specs.Prelude.{◌≡◌, ◌≢◌, ℕ, ◌⊎◌, Bool, not, if◌then◌else◌, ◌==◌, List, [], ◌∷◌, Option, Some, None}
use Rattle.std.specs.List.{All, Contains}
use Rattle.cnf_core.specs.declared.literal.Lit.{Lit}

-- values of some variables: a literal is in the set where its variable has the value that makes it true, so the set
-- never holds a literal together with its negation
abbrev pub Partial : Type 0
Partial = ℕ → Option Bool

-- the values under which these literals are true, the first of a variable
abbrev pub partial_of : List Lit → Partial
partial_of [] x = None
partial_of (l ∷ ls) x = if l.var == x then Some l.positive else partial_of ls x

-- the literal's variable has no value
abbrev pub IsUnassigned : Partial → Lit → Type 0
IsUnassigned s l = s l.var ≡ None

-- the literal is in the set
abbrev pub IsHeld : Partial → Lit → Type 0
IsHeld s l = s l.var ≡ Some l.positive

-- its negation is in the set
abbrev pub IsFalse : Partial → Lit → Type 0
IsFalse s l = s l.var ≡ Some (not l.positive)

-- each literal of the clause is false
abbrev pub IsFalseClause : Partial → List Lit → Type 0
IsFalseClause s c = All (IsFalse s) c

-- exactly the literal l of the clause has no value, and all others are false
pub record IsUnit (s : Partial) (c : List Lit) (l : Lit) : Type 0 where
  pub among : Contains c l
  pub free : IsUnassigned s l
  pub others : All (λ m. (m ≡ l) ⊎ IsFalse s m) c

-- the clause is neither unit nor false: it has a literal that is held, or two different literals without a value
abbrev pub IsOpenClause : Partial → List Lit → Type 0
IsOpenClause s c =
    ((l : Lit) × Contains c l × IsHeld s l)
    ⊎ ((l : Lit) × (m : Lit) × Contains c l × Contains c m × (l ≢ m) × IsUnassigned s l × IsUnassigned s m)

-- unit propagation can take no step from these values, and meets no conflict
abbrev pub IsClosed : Partial → List (List Lit) → Type 0
IsClosed s clauses = All (IsOpenClause s) clauses
