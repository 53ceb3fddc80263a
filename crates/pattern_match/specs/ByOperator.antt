-- The rows of a graph by operator, or by operator and class, and the tables that give them one after another. From this
-- project.
use Rattle.std.specs.Prelude.{◌≡◌, ℕ, ◌+◌, ◌<◌, ◌≤◌, Bool, true, false, List, Option, Some, None, slice_get, slice_index_or, ◌==◌, ◌&&◌}
use Rattle.std.specs.Map.{lookup}
use Rattle.word_ops.specs.declared.sorts.Op.{Op}
use Rattle.word_terms.specs.Keys.{key_of}
use Rattle.egraph.specs.declared.rows.Row.{Row}
use Rattle.egraph.specs.Graph.{Graph}
use Rattle.pattern_match.specs.declared.row_lists.ListKey.{ListKey}
use Rattle.pattern_match.specs.declared.row_lists.RowTables.{RowTables}

-- what tables go by beside the operator: the class, or nothing
abbrev pub class_part : Bool → ℕ → ℕ
class_part true class = class
class_part false class = 0

-- the row at the place is of the operator and, where tables go by classes, of the class
pub record IsRowOf (by_class : Bool) (g : Graph Op) (op : Op) (class at : ℕ) : Type 0 where
  pub row : Row Op
  pub there : slice_get g.rows at ≡ Some row
  pub op_is : row.op ≡ op
  pub class_is : class_part by_class row.class ≡ class

-- the first place from `from` on with such a row
abbrev pub IsNextRow : Bool → Graph Op → Op → ℕ → ℕ → Option ℕ → Type 0
IsNextRow by_class g op class from None = (at : ℕ) → from ≤ at → ¬ IsRowOf by_class g op class at
IsNextRow by_class g op class from (Some next) =
    (from ≤ next)
    × IsRowOf by_class g op class next
    × ((at : ℕ) → from ≤ at → at < next → ¬ IsRowOf by_class g op class at)

abbrev pub list_key : Op → ℕ → ListKey
list_key op class = record { kind = (key_of op).0; number = (key_of op).1; class = class }

-- the keys are the same in each part
abbrev pub same_list : ListKey → ListKey → Bool
same_list a b = (a.kind == b.kind) && ((a.number == b.number) && (a.class == b.class))

-- the place that stands with the key
abbrev pub first_in : List (ListKey × ℕ) → ListKey → Option ℕ
first_in firsts key = lookup (same_list key) firsts

-- the tables give the rows from a place on
pub record AreLists (by_class : Bool) (g : Graph Op) (from : ℕ) (firsts : List (ListKey × ℕ))
    (nexts : List (Option ℕ)) : Type 0 where
  pub firsts_are : (op : Op) (class : ℕ) → IsNextRow by_class g op class from (first_in firsts (list_key op class))
  pub nexts_are :
      (at : ℕ) (row : Row Op) →
      from ≤ at →
      slice_get g.rows at ≡ Some row →
      IsNextRow by_class g row.op (class_part by_class row.class) (at + 1) (slice_index_or nexts at None)

-- those of all rows, by operator and class and by operator alone
pub record AreTables (g : Graph Op) (t : RowTables) : Type 0 where
  pub by_class : AreLists true g 0 t.by_class.firsts.entries t.by_class.nexts.items
  pub by_operator : AreLists false g 0 t.by_operator.firsts.entries t.by_operator.nexts.items
