-- The operators that stand in a tree: how many they are, and what holds of each of them. Source: this project.
use Rattle.std.specs.Prelude.{ℕ, ◌+◌}
use Rattle.word_terms.specs.Tree.{Tree, Trees, variable, application, none, more}

-- how many operators the tree has; a constant is one, a variable none
abbrev mutual
  pub operators_in : {O : Type 0} → Tree O → ℕ
  operators_in (variable n) = 0
  operators_in (application op ts) = 1 + operators_in_all ts

  pub operators_in_all : {O : Type 0} → Trees O → ℕ
  operators_in_all none = 0
  operators_in_all (more t ts) = operators_in t + operators_in_all ts

-- each operator of the tree is P
abbrev mutual
  pub EachOperator : {O : Type 0} → (O → Type 0) → Tree O → Type 0
  EachOperator P (variable n) = Unit {0}
  EachOperator P (application op ts) = P op × EachOperatorOfAll P ts

  pub EachOperatorOfAll : {O : Type 0} → (O → Type 0) → Trees O → Type 0
  EachOperatorOfAll P none = Unit {0}
  EachOperatorOfAll P (more t ts) = EachOperator P t × EachOperatorOfAll P ts
