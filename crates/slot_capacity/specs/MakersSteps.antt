-- What is kept of the rows that make a class.
-- Source: this project.
use Rattle.std.specs.Prelude.{◌≡◌, ◌<◌, ℕ, IsTrue, map, List, [], ◌∷◌, Option, filter}
use Rattle.std.specs.List.{list_all}
use Rattle.graph_meaning.specs.declared.graphs.LaunchGraph.{LaunchGraph}
use Rattle.graph_meaning.specs.WellFormed.{IsLaunchGraph, next_class}
use Rattle.schedule_meaning.specs.Launches.{class_at}
use Rattle.cycle_encoding.specs.Variables.{classes_of}
use Rattle.slot_capacity.specs.Makers.{can_come, has, makers_of, makes_own, reads_of}
use Rattle.slot_capacity.specs.declared.spans.Span.{Span}

-- the classes that each of these rows reads
abbrev pub always_among : LaunchGraph → List ℕ → List ℕ
always_among g [] = []
always_among g (row ∷ rows) =
    filter (λ class. list_all (λ r. has (reads_of g r) class) (row ∷ rows)) (reads_of g row)

-- those that each row reads which makes the class
abbrev pub always_of : LaunchGraph → List (Option Span) → ℕ → List ℕ
always_of g spans class = always_among g (makers_of g spans class)

-- these are kept for each class; a row that makes one has some launch, so that its class is one of the graph's
pub record AreMakers (g : LaunchGraph) (spans : List (Option Span)) (rows always : List (List ℕ)) : Type 0 where
  pub graph : IsLaunchGraph g
  pub rows_are : rows ≡ map (makers_of g spans) (classes_of g)
  pub low : (row : ℕ) → IsTrue (makes_own g row) → IsTrue (can_come spans row) → class_at g row < next_class g.rows
  pub always_are : always ≡ map (always_of g spans) (classes_of g)
