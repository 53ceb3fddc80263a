-- What the steps that build the clauses of capacity look up.
-- Source: this project.
use Rattle.std.specs.Prelude.{◌≢◌, ◌≤◌, ◌<◌, ◌^◌, ℕ, ◌+◌, List, [], ◌∷◌, All, AllPairs}
use Rattle.cnf_core.specs.declared.literal.Lit.{Lit}
use Rattle.cycle_encoding.specs.Shapes.{negative, positive}
use Rattle.slot_capacity.specs.declared.deadlines.Deadline.{Deadline}

-- no class stands twice, and each has a cycle at least
pub record AreApart (counted : List Deadline) : Type 0 where
  pub apart : AllPairs (λ x y. x.class ≢ y.class) counted
  pub some : All (λ x. x.first ≤ x.last) counted
  pub early : All (λ x. x.last < 2 ^ 29) counted

-- what is launched up to the cycle before that of a place is so up to this one; the variables of the class's cycles are
-- those after `before`
abbrev pub stays_behind : ℕ → ℕ → List Lit
stays_behind before place = negative (before + place) ∷ positive (before + place + 1) ∷ []
