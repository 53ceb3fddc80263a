-- The rows of a launch graph that can't stand behind others, and their classes. Source: this project.
use Rattle.std.specs.Prelude.{Bool, true, false, ℕ, ◌≡◌, ◌≢◌, ◌+◌, ◌<◌, ◌≤◌, ◌==◌, ◌&&◌, List, [], ◌∷◌, ◌++◌, length, map, slice_get, bytes_eq, Option, None, Some, Any, Contains, max, fold, if◌then◌else◌}
use Rattle.std.specs.List.{list_any}
use Rattle.word_ops.specs.Meanings.{arity_of_op, sort_of, operand_sort, constant_in}
use Rattle.word_ops.specs.declared.sorts.Sort.TheVariants as sorts
use Rattle.word_ops.specs.declared.sorts.Sort.{Sort}
use Rattle.word_ops.specs.declared.sorts.Op.{Op}
use Rattle.launch_graph.specs.declared.row_lines.LineOp.{LineOp}
use Rattle.launch_graph.specs.declared.row_lines.LineOp.TheVariants.{Plain, Use, Unknown}
use Rattle.launch_graph.specs.declared.row_lines.RowLine.{RowLine}

-- ---- rows that can't stand behind others

abbrev pub ops_of : List RowLine → List LineOp
ops_of rows = map (λ (r : RowLine). r.op) rows

-- the different names of declared operators, in order
abbrev pub names_used : List (List ℕ) → List LineOp → List (List ℕ)
names_used seen [] = seen
names_used seen (Use name ∷ others) =
    names_used (if list_any (λ n. bytes_eq n name) seen then seen else seen ++ name ∷ []) others
names_used seen (_ ∷ others) = names_used seen others

pub data IsBadRow (before : List RowLine) (row : RowLine) : Type 0 where
  unknown_operator : {word : List ℕ} → row.op ≡ Unknown word → IsBadRow before row
  wrong_count : {op : Op} → row.op ≡ Plain op → length row.operands ≢ arity_of_op op → IsBadRow before row
  repeated : {other : RowLine} → Contains before other → other.op ≡ row.op → other.operands ≡ row.operands
      → IsBadRow before row
  seventeenth_name : {name : List ℕ} → row.op ≡ Use name
      → 16 < length (names_used [] (ops_of (before ++ row ∷ []))) → IsBadRow before row
  use_of_none : {name : List ℕ} → row.op ≡ Use name → length row.operands ≡ 0 → IsBadRow before row
  use_of_many : {name : List ℕ} → row.op ≡ Use name → 4 < length row.operands → IsBadRow before row
  another_count : {name : List ℕ} {other : RowLine} → row.op ≡ Use name → Contains before other → other.op ≡ Use name
      → length other.operands ≢ length row.operands → IsBadRow before row

-- ---- classes

abbrev pub sort_given : LineOp → Sort
sort_given (Plain op) = sort_of op
sort_given _ = sorts.Word

abbrev pub sort_taken : LineOp → ℕ → Sort
sort_taken (Plain op) at = operand_sort op at
sort_taken _ at = sorts.Word

-- an operator that is known has as many operands as it takes; how many a declared one takes is no matter here
abbrev pub tells_sort : LineOp → ℕ → Bool
tells_sort (Plain op) count = arity_of_op op == count
tells_sort (Use name) count = true
tells_sort (Unknown word) count = false

-- The sort of a class is that of its first row that tells one.
abbrev pub class_sort : List RowLine → ℕ → Option Sort
class_sort [] class = None
class_sort (row ∷ rows) class =
    if (row.class == class) && tells_sort row.op (length row.operands)
    then Some (sort_given row.op)
    else class_sort rows class

abbrev pub HasRowOfClass : List RowLine → ℕ → Type 0
HasRowOfClass rows class = Any (λ (r : RowLine). r.class ≡ class) rows

-- the number that the next new class has behind these rows
abbrev pub next_line_class : List RowLine → ℕ
next_line_class rows = fold (λ n (r : RowLine). max n (r.class + 1)) 0 rows

-- the constant that a row gives its class, if it gives one
abbrev pub line_constant : LineOp → Option ℕ
line_constant (Plain op) = constant_in op
line_constant _ = None

-- A class where one of this sort is wanted, among so many rows: it isn't below their count, is no row's, or has
-- another sort.
pub data IsWrongClass (count : ℕ) (all : List RowLine) (wanted : Sort) (class : ℕ) : Type 0 where
  not_below : count ≤ class → IsWrongClass count all wanted class
  no_row : (HasRowOfClass all class → ⊥) → IsWrongClass count all wanted class
  other_sort : {sort : Sort} → class_sort all class ≡ Some sort → sort ≢ wanted → IsWrongClass count all wanted class

-- A row with a wrong class, behind `before` and among `all`; an operand may be the class of a later row.
pub data IsBadClass (count : ℕ) (all before : List RowLine) (row : RowLine) : Type 0 where
  operand : (at class : ℕ) → slice_get row.operands at ≡ Some class
      → IsWrongClass count all (sort_taken row.op at) class → IsBadClass count all before row
  own : IsWrongClass count all (sort_given row.op) row.class → IsBadClass count all before row
  second_constant : {other : RowLine} {m n : ℕ} → Contains before other → other.class ≡ row.class
      → line_constant other.op ≡ Some m → line_constant row.op ≡ Some n → m ≢ n → IsBadClass count all before row
  not_next : (HasRowOfClass before row.class → ⊥) → row.class ≢ next_line_class before → IsBadClass count all before row
