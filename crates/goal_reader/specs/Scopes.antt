-- What names mean in a term: operators, inputs, the memory, lets, variables. Source: this project; the operators are
-- Denali's (PLDI 2002) over the Alpha Architecture Handbook's.
use Rattle.std.specs.Prelude.{ℕ, ◌+◌, if◌then◌else◌, Option, Some, None, List, [], ◌∷◌, map, bytes_eq}
use Rattle.std.specs.Option.{option_or}
use Rattle.word_ops.specs.Operators.{operators}
use Rattle.word_ops.specs.declared.sorts.Op.{Op}
use Rattle.word_ops.specs.declared.sorts.Op.TheVariants.{Declared}
use Rattle.word_ops.specs.declared.sorts.Sort.{Sort}
use Rattle.goal_meaning.specs.Names.{built_in_named}
use Rattle.goal_meaning.specs.declared.goals.DeclaredOp.{DeclaredOp}
use Rattle.goal_reader.specs.declared.scopes.Leaf.{Leaf}
use Rattle.goal_reader.specs.declared.scopes.Named.{Named}
use Rattle.goal_reader.specs.declared.scopes.Named.TheVariants.{Let}

-- what the first leaf of the name means
abbrev pub leaf_named : List Leaf → List ℕ → Option Named
leaf_named [] name = None
leaf_named (leaf ∷ leaves) name = if bytes_eq leaf.name name then Some leaf.named else leaf_named leaves name

-- the first declared operator of the name; its number counts from the first one given
abbrev pub declared_named : ℕ → List DeclaredOp → List ℕ → Option Op
declared_named at [] name = None
declared_named at (operator ∷ operators) name =
    if bytes_eq operator.name name then Some (Declared at operator.arity) else declared_named (at + 1) operators name

-- the operator of the name: one that every text has, or else a declared one
abbrev pub operator_named : List DeclaredOp → List ℕ → Option Op
operator_named declared name = option_or (built_in_named name) (declared_named 0 declared name)

-- the name of a let, and the sort of its term
pub record SortedName : Type 0 where
  pub name : List ℕ
  pub sort : Sort

-- what the names of lets mean, which are numbered from here on
abbrev pub let_leaves : ℕ → List SortedName → List Leaf
let_leaves at [] = []
let_leaves at (one ∷ others) = (record { name = one.name; named = Let at one.sort }) ∷ let_leaves (at + 1) others

abbrev pub sorted_names : List SortedName → List (List ℕ)
sorted_names lets = map (λ (l : SortedName). l.name) lets

abbrev pub sorts_of_names : List SortedName → List Sort
sorts_of_names lets = map (λ (l : SortedName). l.sort) lets
