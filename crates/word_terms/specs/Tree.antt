-- A term as a tree: what a term is, apart from how its vectors lie in memory; its value, and substitution. From Denali
-- (PLDI 2002).
use Rattle.std.specs.Prelude.{ℕ, ◌<◌, List, [], ◌∷◌, slice_index_or}

mutual
  pub data Tree (O : Type 0) : Type 0 where
    variable : ℕ → Tree O
    application : O → Trees O → Tree O

  -- the operands, in order
  pub data Trees (O : Type 0) : Type 0 where
    none : Trees O
    more : Tree O → Trees O → Trees O

-- a list of trees as operands
abbrev pub operands_of : {O : Type 0} → List (Tree O) → Trees O
operands_of [] = none
operands_of (t ∷ ts) = more t (operands_of ts)

-- the value of a tree, where `meaning` gives each operator's value for those of its operands, and `values` each
-- variable's
abbrev mutual
  pub value : {O V : Type 0} → (O → List V → V) → (ℕ → V) → Tree O → V
  value meaning values (variable n) = values n
  value meaning values (application op ts) = meaning op (each_value meaning values ts)

  pub each_value : {O V : Type 0} → (O → List V → V) → (ℕ → V) → Trees O → List V
  each_value meaning values none = []
  each_value meaning values (more t ts) = value meaning values t ∷ each_value meaning values ts

-- the tree that a variable stands for: its place in the list
abbrev pub put_in : {O : Type 0} → List (Tree O) → ℕ → Tree O
put_in trees n = slice_index_or trees n (variable n)

-- the tree with trees put in for its variables
abbrev mutual
  pub substituted : {O : Type 0} → List (Tree O) → Tree O → Tree O
  substituted trees (variable n) = put_in trees n
  substituted trees (application op ts) = application op (each_substituted trees ts)

  pub each_substituted : {O : Type 0} → List (Tree O) → Trees O → Trees O
  each_substituted trees none = none
  each_substituted trees (more t ts) = more (substituted trees t) (each_substituted trees ts)

-- each variable's number is below n
abbrev mutual
  pub AreBelow : {O : Type 0} → ℕ → Tree O → Type 0
  AreBelow n (variable k) = k < n
  AreBelow n (application op ts) = EachBelow n ts

  pub EachBelow : {O : Type 0} → ℕ → Trees O → Type 0
  EachBelow n none = Unit {0}
  EachBelow n (more t ts) = AreBelow n t × EachBelow n ts
