-- Variables that stand for things, and clauses over them: the shapes of which the formula of a schedule is made.
-- Source: this project.
use Rattle.std.specs.Prelude.{ℕ, ◌+◌, Bool, true, false, List, [], ◌∷◌, ◌++◌, map, length, if◌then◌else◌}
use Rattle.std.specs.List.{filter, flat_map, sum_by}
use Rattle.cnf_core.specs.declared.literal.Lit.{Lit}
use Rattle.cnf_core.specs.Counter.{at_most_clauses, at_most_size, at_most_vars}

-- the things with their variables: the first has the one after `old`, the second the next, and so on
abbrev pub numbered : {X : Type 0} → ℕ → List X → List (ℕ × X)
numbered old [] = []
numbered old (x ∷ xs) = (old + 1, x) ∷ numbered (old + 1) xs

abbrev pub positive : ℕ → Lit
positive n = record { var = n; positive = true }

abbrev pub negative : ℕ → Lit
negative n = record { var = n; positive = false }

-- the variables of the things that pass a test
abbrev pub vars_of : {X : Type 0} → (X → Bool) → List (ℕ × X) → List Lit
vars_of test ps = map (λ p. positive p.0) (filter (λ p. test p.1) ps)

-- the same variables, negated
abbrev pub negated : {X : Type 0} → (X → Bool) → List (ℕ × X) → List Lit
negated test ps = map (λ p. negative p.0) (filter (λ p. test p.1) ps)

-- the things whose variables are true
abbrev pub shown : {X : Type 0} → (ℕ → Bool) → List (ℕ × X) → List X
shown v ps = map (λ p. p.1) (filter (λ p. v p.0) ps)

-- for each thing, in order: where its variable is true, so are these clauses
abbrev pub implied : {X : Type 0} → List (ℕ × X) → (X → List (List Lit)) → List (List Lit)
implied ps f = flat_map (λ p. map (λ c. negative p.0 ∷ c) (f p.1)) ps

abbrev pub when : {A : Type 0} → Bool → List A → List A
when b cs = if b then cs else []

-- counters up to p over several lists of literals, one after another; `old` is the last variable before the first
abbrev pub counters : ℕ → ℕ → List (List Lit) → List (List Lit)
counters old p [] = []
counters old p (lits ∷ rest) = at_most_clauses old p lits ++ counters (old + at_most_vars p (length lits)) p rest

-- how many variables and clauses they add
abbrev pub counters_vars : ℕ → List (List Lit) → ℕ
counters_vars p groups = sum_by (λ lits. at_most_vars p (length lits)) groups

abbrev pub counters_size : ℕ → List (List Lit) → ℕ
counters_size p groups = sum_by (λ lits. at_most_size p (length lits)) groups
