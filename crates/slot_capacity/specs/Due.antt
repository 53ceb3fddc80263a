-- Which classes some launch has to give: those of targets and of the guard, and what all rows read that make such a
-- class. Source: this project.
use Rattle.std.specs.Prelude.{ℕ, zero, suc, ◌==◌, ◌&&◌, ◌||◌, Bool, false, not, List, Option, filter}
use Rattle.std.specs.Option.{option_map_or}
use Rattle.std.specs.List.{list_any}
use Rattle.graph_meaning.specs.Graphs.{is_memory_name, is_zero_class, memory_target}
use Rattle.graph_meaning.specs.WellFormed.{next_class}
use Rattle.graph_meaning.specs.declared.graphs.LaunchGraph.{LaunchGraph}
use Rattle.cycle_encoding.specs.Variables.{classes_of, is_input}
use Rattle.slot_capacity.specs.Makers.{always_reads, has}
use Rattle.slot_capacity.specs.declared.spans.Span.{Span}

-- the class isn't there without a launch: neither the memory at entry nor an input's, nor the zero class
abbrev pub can_be_due : LaunchGraph → ℕ → Bool
can_be_due g class =
    not (class == g.entry) && (not (is_input g class) && not (is_zero_class g class))

-- the class is that of a target or of the guard
abbrev pub is_asked_for : LaunchGraph → ℕ → Bool
is_asked_for g class =
    list_any (λ s. not (is_memory_name s.name) && (s.class == class)) g.sets
    || ((memory_target g == class) || option_map_or (λ guard. guard.class == class) g.guard false)

abbrev pub first_due : LaunchGraph → List ℕ
first_due g = filter (λ c. can_be_due g c && is_asked_for g c) (classes_of g)

module _ (g : LaunchGraph) (spans : List (Option Span)) where
  -- with what is always read for one of these
  abbrev pub more_due : List ℕ → List ℕ
  more_due due =
      filter (λ c. has due c || (can_be_due g c && list_any (λ d. always_reads g spans d c) due)) (classes_of g)

  -- the classes that are due by at most so many steps
  abbrev pub due_within : ℕ → List ℕ
  due_within zero = first_due g
  due_within (suc n) = more_due (due_within n)

  -- all that are due: no more steps are needed than there are classes
  abbrev pub due_classes : List ℕ
  due_classes = due_within (next_class g.rows)
