-- What the variables of registers stand for where they are kept by live ranges.
-- Source: this project, over the live ranges of register allocation.
use Rattle.std.specs.Prelude.{ℕ, ◌-◌, ◌==◌, ◌&&◌, Bool, List, map, length}
use Rattle.std.specs.List.{filter, flat_map, list_any, range_with_len}
use Rattle.machine_table.specs.declared.tables.Table.{Table}
use Rattle.graph_meaning.specs.declared.graphs.LaunchGraph.{LaunchGraph}
use Rattle.schedule_meaning.specs.Launches.{class_at, takes_pool}
use Rattle.schedule_meaning.specs.declared.schedules.Launch.{Launch}
use Rattle.cycle_encoding.specs.Variables.{classes_of}

-- the launch goes to the pool and gives the class
abbrev pub pools : LaunchGraph → ℕ → Launch → Bool
pools g class l = takes_pool g l && (class_at g l.row == class)

-- some launch that has a variable does
abbrev pub is_pooled : LaunchGraph → List (ℕ × Launch) → ℕ → Bool
is_pooled g xs class = list_any (λ p. pools g class p.1) xs

abbrev pub pooled_classes : LaunchGraph → List (ℕ × Launch) → List ℕ
pooled_classes g xs = filter (is_pooled g xs) (classes_of g)

-- the class is needed at the cycle
pub record Need : Type 0 where
  pub class : ℕ
  pub cycle : ℕ

abbrev pub all_needs : ℕ → List ℕ → List Need
all_needs k classes = flat_map (λ c. map (λ t. record { class = c; cycle = t }) (range_with_len 0 k)) classes

-- the launch of this slot, which starts in one cycle, holds a register in another one, from its own on
pub record Hold : Type 0 where
  pub slot : ℕ
  pub start : ℕ
  pub cycle : ℕ

-- from one start on
abbrev pub start_holds : ℕ → ℕ → ℕ → List Hold
start_holds k slot start =
    map (λ t. record { slot = slot; start = start; cycle = t }) (range_with_len start (k - start))

abbrev pub slot_holds : ℕ → ℕ → List Hold
slot_holds k slot = flat_map (start_holds k slot) (range_with_len 0 k)

abbrev pub all_holds : Table → ℕ → List Hold
all_holds table k = flat_map (slot_holds k) (range_with_len 0 (length table.slots))
