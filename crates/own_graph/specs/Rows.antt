-- Rows of a launch graph that come one after another, each in a class of its own where it isn't there yet.
-- Source: this project.
use Rattle.std.specs.Prelude.{Bool, ℕ, ◌+◌, ◌^◌, ◌<◌, ◌≤◌, ◌==◌, ◌&&◌, List, [], ◌∷◌, ◌++◌, length, map, All, IsTrue, Option, option_map, is_some, find, unwrap_or, if◌then◌else◌, bytes_eq}
use Rattle.word_ops.specs.declared.sorts.Op.{Op}
use Rattle.word_terms.specs.Keys.{key_of}
use Rattle.graph_meaning.specs.Graphs.{plain_row}
use Rattle.graph_meaning.specs.WellFormed.{next_class}
use Rattle.graph_meaning.specs.declared.graphs.LaunchRow.{LaunchRow}
use Rattle.own_graph.specs.declared.operands.Part.{Part}
use Rattle.own_graph.specs.declared.operands.Part.TheVariants.{Class, Leaf}

abbrev pub is_op : Op → Op → Bool
is_op a b = ((key_of a).0 == (key_of b).0) && ((key_of a).1 == (key_of b).1)

-- the row applies the operator to the operands
abbrev pub applies : Op → List ℕ → LaunchRow → Bool
applies op operands r = is_op r.op op && bytes_eq r.operands operands

-- the class of the row that applies the operator to the operands
abbrev pub class_in : List LaunchRow → Op → List ℕ → Option ℕ
class_in rows op operands = option_map (λ r. r.class) (find (applies op operands) rows)

-- its class, or the next one
abbrev pub class_with : List LaunchRow → Op → List ℕ → ℕ
class_with rows op operands = unwrap_or (class_in rows op operands) (next_class rows)

-- the rows, with this one behind them where it isn't there
abbrev pub with_row : List LaunchRow → Op → List ℕ → List LaunchRow
with_row rows op operands =
    if is_some (class_in rows op operands) then rows else rows ++ plain_row (next_class rows) op operands ∷ []

-- each class is below the number of the rows, and n rows more can have classes of their own
pub record HasRoom (n : ℕ) (rows : List LaunchRow) : Type 0 where
  pub low : All (λ r. r.class < length rows) rows
  pub few : length rows + n ≤ 2 ^ 32

-- ---- operands

-- the part is a class, or a leaf that has a row
abbrev pub HasItsRow : List LaunchRow → Part → Type 0
HasItsRow rows (Class c) = Unit {0}
HasItsRow rows (Leaf op) = IsTrue (is_some (class_in rows op []))

-- each leaf among the parts has a row
abbrev pub with_leaves : List LaunchRow → List Part → List LaunchRow
with_leaves rows [] = rows
with_leaves rows (Class c ∷ parts) = with_leaves rows parts
with_leaves rows (Leaf op ∷ parts) = with_leaves (with_row rows op []) parts

-- the class of a part, where each leaf among the parts has a row
abbrev pub class_of_part : List LaunchRow → Part → ℕ
class_of_part rows (Class c) = c
class_of_part rows (Leaf op) = class_with rows op []

abbrev pub classes_of : List LaunchRow → List Part → List ℕ
classes_of rows parts = map (class_of_part rows) parts

-- the rows with one that applies the operator to parts, behind those of the leaves among them
abbrev pub with_applied : List LaunchRow → Op → List Part → List LaunchRow
with_applied rows op parts = with_row (with_leaves rows parts) op (classes_of (with_leaves rows parts) parts)

-- and its class
abbrev pub applied_class : List LaunchRow → Op → List Part → ℕ
applied_class rows op parts = class_with (with_leaves rows parts) op (classes_of (with_leaves rows parts) parts)
