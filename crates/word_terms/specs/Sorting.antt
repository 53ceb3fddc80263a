-- When a tree is well formed: each operator has as many operands as it takes, each of the sort that it takes. From
-- Denali (PLDI 2002), whose terms are over words and one memory.
use Rattle.std.specs.Prelude.{◌≡◌, ℕ, ◌+◌, ◌<◌, ◌⊎◌, List, length, slice_index_or}
use Rattle.word_ops.specs.declared.sorts.Sort.{Sort}
use Rattle.word_ops.specs.declared.sorts.Sort.TheVariants as sorts
use Rattle.word_terms.specs.Signature.{Signature, HasWordConstant}
use Rattle.word_terms.specs.Tree.{Tree, Trees, variable, application, none, more}

-- how many operands
abbrev pub tree_count : {O : Type 0} → Trees O → ℕ
tree_count none = 0
tree_count (more t ts) = tree_count ts + 1

-- the sort of a variable, by its number
abbrev pub sort_at : List Sort → ℕ → Sort
sort_at variables n = slice_index_or variables n sorts.Word

-- the tree is well formed and of the sort, where `variables` has the sort of each variable
abbrev mutual
  pub HasSort : {O : Type 0} → Signature O → List Sort → Sort → Tree O → Type 0
  HasSort s variables sort (variable n) = (n < length variables) × (sort_at variables n ≡ sort)
  HasSort s variables sort (application op ts) =
      (s.sort op ≡ sort) × HasWordConstant s op × (tree_count ts ≡ s.arity op) × HaveSorts s variables op 0 ts

  -- `ts` are the operands of `op` from number `at` on
  pub HaveSorts : {O : Type 0} → Signature O → List Sort → O → ℕ → Trees O → Type 0
  HaveSorts s variables op at none = Unit {0}
  HaveSorts s variables op at (more t ts) =
      HasSort s variables (s.operand_sort op at) t × HaveSorts s variables op (at + 1) ts

-- variable n stands somewhere in the tree
abbrev mutual
  pub Occurs : {O : Type 0} → ℕ → Tree O → Type 0
  Occurs n (variable k) = n ≡ k
  Occurs n (application op ts) = OccursInOne n ts

  pub OccursInOne : {O : Type 0} → ℕ → Trees O → Type 0
  OccursInOne n none = ⊥
  OccursInOne n (more t ts) = Occurs n t ⊎ OccursInOne n ts

abbrev pub IsApplication : {O : Type 0} → Tree O → Type 0
IsApplication (variable n) = ⊥
IsApplication (application op ts) = Unit {0}
