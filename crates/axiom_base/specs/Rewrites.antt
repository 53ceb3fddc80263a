-- A rewrite rule, and when it is true: both of its sides have one value, for all values of its variables. From Denali
-- (PLDI 2002), its axioms.
use Rattle.std.specs.Prelude.{◌≡◌, ℕ, ◌<◌, ◌⊎◌, List, [], length, slice_index_or, Contains}
use Rattle.word_ops.specs.declared.sorts.Op.{Op}
use Rattle.word_ops.specs.declared.sorts.Sort.{Sort}
use Rattle.word_ops.specs.declared.sorts.Sort.TheVariants as sorts
use Rattle.word_ops.specs.Worlds.{Value, word, World, IsValue}
use Rattle.word_ops.specs.Meanings.{meaning}
use Rattle.word_terms.specs.Keys.{op_signature}
use Rattle.word_terms.specs.Tree.{Tree, value}
use Rattle.word_terms.specs.Sorting.{sort_at, HasSort, Occurs, IsApplication}

-- where the left side stands, the right side equals it
pub record Rewrite : Type 0 where
  -- of each variable, by its number
  pub variables : List Sort
  pub left : Tree Op
  pub right : Tree Op
  -- variables that stand for one word alone, each with that word
  pub constants : List (ℕ × ℕ)

-- a rule without constants
abbrev pub rewrite : List Sort → Tree Op → Tree Op → Rewrite
rewrite variables left right = record { variables = variables; left = left; right = right; constants = [] }

-- a value for each variable, of its sort and in range; a constant's is its word
pub record AreValuesFor (r : Rewrite) (values : List Value) : Type 0 where
  pub count : length values ≡ length r.variables
  pub sorts : (n : ℕ) → n < length values → IsValue (sort_at r.variables n) (slice_index_or values n (word 0))
  pub constants : (n c : ℕ) → Contains r.constants (n, c) → slice_index_or values n (word 0) ≡ word c

-- the value of a tree; `names` has the name of each declared operator's number
abbrev pub value_in : World → (ℕ → List ℕ) → List Value → Tree Op → Value
value_in world names values = value (meaning world names) (λ n. slice_index_or values n (word 0))

abbrev pub IsTrueIn : World → (ℕ → List ℕ) → Rewrite → Type 0
IsTrueIn world names r =
    (values : List Value) →
    AreValuesFor r values →
    value_in world names values r.left ≡ value_in world names values r.right

-- the left side is an application; both sides are well formed and of one sort, with one sort for each variable; the
-- left side has all variables, which are numbered from 0 without a gap; and no variable stands for a constant. So a
-- variable of the right side stands in the left side too.
pub record IsRule (r : Rewrite) : Type 0 where
  pub application : IsApplication r.left
  pub sides :
      (sort : Sort) × HasSort op_signature r.variables sort r.left × HasSort op_signature r.variables sort r.right
  pub all : (n : ℕ) → n < length r.variables → Occurs n r.left
  pub free : r.constants ≡ []

-- what holds of each rule, also of those with constants: both sides are well formed and of one sort; the left side has
-- all variables, which are numbered from 0 without a gap; constants stand for variables; and where the left side is
-- itself a variable, each variable is a word that stands for a constant
pub record IsUsable (r : Rewrite) : Type 0 where
  pub sort : Sort
  pub left : HasSort op_signature r.variables sort r.left
  pub right : HasSort op_signature r.variables sort r.right
  pub all : (n : ℕ) → n < length r.variables → Occurs n r.left
  pub constants : (n c : ℕ) → Contains r.constants (n, c) → n < length r.variables
  pub grounded :
      IsApplication r.left
      ⊎ ((n : ℕ) →
      n < length r.variables →
      (c : ℕ) × Contains r.constants (n, c) × (sort_at r.variables n ≡ sorts.Word))
