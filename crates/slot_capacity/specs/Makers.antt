-- Which rows make a class, so that the class can't be had before one of them is launched.
-- Source: this project.
use Rattle.std.specs.Prelude.{ℕ, ◌==◌, ◌&&◌, nat_lt, Bool, not, List, [], ◌∷◌, ◌++◌, length, Option, None, is_some, if◌then◌else◌, slice_index_or, filter}
use Rattle.std.specs.List.{list_any, list_all}
use Rattle.schedule_meaning.specs.Launches.{class_at, is_branch, memory_class_at, operands_at}
use Rattle.graph_meaning.specs.declared.graphs.LaunchGraph.{LaunchGraph}
use Rattle.cycle_encoding.specs.Counts.{row_is}
use Rattle.cycle_encoding.specs.Facts.{classes_among}
use Rattle.cycle_encoding.specs.Families.{is_free}
use Rattle.cycle_encoding.specs.Narrow.{accesses}
use Rattle.cycle_encoding.specs.Variables.{row_numbers}
use Rattle.slot_capacity.specs.declared.spans.Span.{Span}

-- the number stands in the list
abbrev pub has : List ℕ → ℕ → Bool
has xs x = list_any (λ y. y == x) xs

-- the classes that a launch of the row reads: of its word operands that need a register, and of a load's or store's
-- memory
abbrev pub reads_of : LaunchGraph → ℕ → List ℕ
reads_of g row =
    classes_among (λ o. not (is_free g o)) (operands_at g row)
    ++ (if row_is g accesses row then memory_class_at g row ∷ [] else [])

-- a launch of the row gives its class without reading it; a copy does so where its class is a literal
abbrev pub makes_own : LaunchGraph → ℕ → Bool
makes_own g row = not (row_is g is_branch row) && not (has (reads_of g row) (class_at g row))

-- some launch of the row has a variable
abbrev pub can_come : List (Option Span) → ℕ → Bool
can_come spans row = is_some (slice_index_or spans row None)

module _ (g : LaunchGraph) (spans : List (Option Span)) where
  -- the rows that make the class
  abbrev pub makers_of : ℕ → List ℕ
  makers_of class =
      filter (λ row. (class_at g row == class) && (makes_own g row && can_come spans row)) (row_numbers g)

  abbrev pub is_made : ℕ → Bool
  is_made class = nat_lt 0 (length (makers_of class))

  -- some row makes the first class, and each that does reads the second
  abbrev pub always_reads : ℕ → ℕ → Bool
  always_reads class other = is_made class && list_all (λ row. has (reads_of g row) other) (makers_of class)
