-- An E-graph as contracts see it, and what is true of each. From Denali (PLDI 2002): rows of operators over classes
-- of terms that have one value.
use Rattle.std.specs.Prelude.{◌≡◌, ℕ, ◌<◌, ◌≤◌, ◌^◌, List, [], ◌∷◌, ◌++◌, ◌⊎◌, map, length, slice_index, Some, All, Contains, AllPairs}
use Rattle.word_terms.specs.Signature.{Signature, HasWordConstant}
use Rattle.egraph.specs.declared.rows.Row.{Row}

-- the rows in order, and for each class ever made, by its number, the class that it is in at present
pub record Graph (O : Type 0) : Type 0 where
  pub rows : List (Row O)
  pub current : List ℕ

-- the two rows are of one operator and the same operand classes
pub record Agree {O : Type 0} (r : Row O) (t : Row O) : Type 0 where
  pub op : r.op ≡ t.op
  pub operands : r.operands ≡ t.operands

-- some row has this class
pub record HasClass {O : Type 0} (g : Graph O) (c : ℕ) : Type 0 where
  pub row : Row O
  pub there : Contains g.rows row
  pub is : row.class ≡ c

-- the class was made, and is in itself at present
pub record IsPresent {O : Type 0} (g : Graph O) (c : ℕ) : Type 0 where
  pub made : c < length g.current
  pub itself : slice_index g.current c ≡ c

-- some row of the class is the constant x
pub record HasConstant {O : Type 0} (s : Signature O) (rows : List (Row O)) (class x : ℕ) : Type 0 where
  pub row : Row O
  pub there : Contains rows row
  pub of_class : row.class ≡ class
  pub is : s.constant row.op ≡ Some x

-- no row of the class is a constant
abbrev pub LacksConstant : {O : Type 0} → Signature O → List (Row O) → ℕ → Type 0
LacksConstant s rows class = (x : ℕ) → ¬ HasConstant s rows class x

-- no class has two constants
abbrev pub HasOneConstantEach : {O : Type 0} → Signature O → List (Row O) → Type 0
HasOneConstantEach s rows = (class x y : ℕ) → HasConstant s rows class x → HasConstant s rows class y → x ≡ y

-- all rows of a class give one sort
abbrev pub HasOneSortEach : {O : Type 0} → Signature O → List (Row O) → Type 0
HasOneSortEach {O} s rows =
    (r t : Row O) → Contains rows r → Contains rows t → r.class ≡ t.class → s.sort r.op ≡ s.sort t.op

-- each operand class is of the sort that its row's operator takes there
abbrev pub HasSortedOperands : {O : Type 0} → Signature O → List (Row O) → Type 0
HasSortedOperands {O} s rows =
    (r t : Row O) (at : ℕ) →
    Contains rows r →
    Contains rows t →
    at < length r.operands →
    t.class ≡ slice_index r.operands at →
    s.operand_sort r.op at ≡ s.sort t.op

-- what each graph of the program keeps
pub record IsGraph {O : Type 0} (s : Signature O) (g : Graph O) : Type 0 where
  pub distinct : AllPairs (λ r t. ¬ Agree r t) g.rows
  pub classes : All (λ r. IsPresent g r.class) g.rows
  pub operands : All (λ r. All (HasClass g) r.operands) g.rows
  pub inhabited : All (HasClass g) g.current
  pub arities : All (λ r. length r.operands ≡ s.arity r.op) g.rows
  pub one_sort : HasOneSortEach s g.rows
  pub operand_sorts : HasSortedOperands s g.rows
  pub constants : HasOneConstantEach s g.rows
  pub words : All (λ r. HasWordConstant s r.op) g.rows
  pub few : length g.current ≤ 2 ^ 31
  pub few_rows : length g.rows ≤ length g.current

-- each class was made
abbrev pub AreMade : List ℕ → List ℕ → Type 0
AreMade current classes = All (λ c. c < length current) classes

-- the classes that the given ones are in at present
abbrev pub read_through : {O : Type 0} → Graph O → List ℕ → List ℕ
read_through g classes = map (slice_index g.current) classes

-- some row has this operator, these operands and this class
abbrev pub HasRow : {O : Type 0} → List (Row O) → O → List ℕ → ℕ → Type 0
HasRow rows op operands class = Contains rows (record { op = op; operands = operands; class = class })

-- no row has this operator and these operands
abbrev pub LacksRow : {O : Type 0} → List (Row O) → O → List ℕ → Type 0
LacksRow rows op operands = (class : ℕ) → ¬ HasRow rows op operands class

-- the graph with one more row, of a class of its own
abbrev pub with_row : {O : Type 0} → Graph O → O → List ℕ → Graph O
with_row g op operands = record {
  rows = g.rows ++ record { op = op; operands = operands; class = length g.current } ∷ [];
  current = g.current ++ length g.current ∷ [];
}

-- the row was there with this class, or it came with a new class
abbrev pub IsInserted : {O : Type 0} → Graph O → O → List ℕ → ℕ → Graph O → Type 0
IsInserted old op operands class new =
    let here = read_through old operands in
    (HasRow old.rows op here class × (new ≡ old))
    ⊎ (LacksRow old.rows op here × (class ≡ length old.current) × (new ≡ with_row old op here))
