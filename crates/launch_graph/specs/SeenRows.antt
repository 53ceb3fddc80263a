-- What the rows so far tell of their classes: how many there are, and the constant of each. No public clause rests on
-- this. Source: this project.
use Rattle.std.specs.Prelude.{ℕ, ◌≡◌, ◌<◌, List, length, Option, Some, None, get_or, Contains}
use Rattle.launch_graph.specs.declared.row_lines.RowLine.{RowLine}
use Rattle.launch_graph.specs.RowFaults.{HasRowOfClass, next_line_class, line_constant}

pub record IsSeen (count : ℕ) (before : List RowLine) (next : ℕ) (constants : List (Option ℕ)) : Type 0 where
  pub size : length constants ≡ count
  pub next_is : next ≡ next_line_class before
  pub has : (class : ℕ) → class < next → HasRowOfClass before class
  pub below : (class : ℕ) → HasRowOfClass before class → class < next
  pub told : (class m : ℕ) → class < count → get_or constants class None ≡ Some m
      → (other : RowLine) × Contains before other × (other.class ≡ class) × (line_constant other.op ≡ Some m)
  pub only : (other : RowLine) (m : ℕ) → Contains before other → other.class < count → line_constant other.op ≡ Some m
      → get_or constants other.class None ≡ Some m
