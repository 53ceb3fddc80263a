-- What the variables of memory and registers stand for.
-- Source: this project.
use Rattle.std.specs.Prelude.{ℕ, ◌+◌, ◌==◌, ◌&&◌, Bool, not, List, map, length}
use Rattle.std.specs.List.{filter, flat_map, list_any, range_with_len}
use Rattle.word_ops.specs.Meanings.{sort_of}
use Rattle.machine_table.specs.declared.tables.Table.{Table}
use Rattle.graph_meaning.specs.declared.graphs.LaunchGraph.{LaunchGraph}
use Rattle.cycle_encoding.specs.Variables.{is_word, classes_of}

-- some row of the class gives a memory
abbrev pub is_memory_class : LaunchGraph → ℕ → Bool
is_memory_class g class = list_any (λ r. r.class == class && not (is_word (sort_of r.op))) g.rows

abbrev pub memory_classes : LaunchGraph → List ℕ
memory_classes g = filter (is_memory_class g) (classes_of g)

-- the memory of a class is the one left by the stores of cycles below this one
pub record Held : Type 0 where
  pub class : ℕ
  pub cycle : ℕ

abbrev pub all_held : LaunchGraph → ℕ → List Held
all_held g k = flat_map (λ c. map (λ t. record { class = c; cycle = t }) (range_with_len 0 (k + 1))) (memory_classes g)

-- a launch in this slot and cycle takes a register
pub record Taken : Type 0 where
  pub slot : ℕ
  pub cycle : ℕ

abbrev pub all_taken : Table → ℕ → List Taken
all_taken table k =
    flat_map
    (λ s. map (λ t. record { slot = s; cycle = t }) (range_with_len 0 k))
    (range_with_len 0 (length table.slots))
