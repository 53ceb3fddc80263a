-- Tables and lists of what a graph says, and lists of launches by where they go. Source: this project.
use Rattle.std.specs.Prelude.{◌≡◌, ◌==◌, ◌<◌, ◌≤◌, ◌^◌, ◌&&◌, nat_lt, ℕ, Bool, false, true, List, [], ◌∷◌, length}
use Rattle.std.specs.Prelude.{map, set, Option, None, Some, slice_get, if◌then◌else◌, not}
use Rattle.std.specs.Option.{option_map_or, option_or}
use Rattle.std.specs.List.{filter, list_any, slice_index_or, flat_map, range_with_len}
use Rattle.machine_table.specs.Tables.{use_of}
use Rattle.graph_meaning.specs.Graphs.{constant_of, is_input_register, is_zero_class}
use Rattle.schedule_meaning.specs.Launches.{instr_at, is_load}
use Rattle.schedule_meaning.specs.declared.schedules.Operand.{Operand}
use Rattle.machine_table.specs.declared.tables.InstrKind.{InstrKind}
use Rattle.machine_table.specs.declared.tables.Table.{Table}
use Rattle.graph_meaning.specs.declared.graphs.LaunchGraph.{LaunchGraph}
use Rattle.cycle_encoding.specs.Variables.{is_word_class, is_input}
use Rattle.cycle_encoding.specs.Variables.{is_safe, pinned_sets}
use Rattle.schedule_meaning.specs.declared.schedules.To.{To}
use Rattle.schedule_meaning.specs.declared.schedules.Launch.{Launch}

-- what stands in the table at a number is what f says of it
abbrev pub IsTableOf : {X : Type 0} → (ℕ → X) → List X → Type 0
IsTableOf {X} f xs = (i : ℕ) (x : X) → slice_get xs i ≡ Some x → x ≡ f i

-- tables of classes and rows, and the sets that have pins: no more than there are registers
pub record AreFacts (g : LaunchGraph) (constants : List (Option ℕ)) (words inputs safe : List Bool) (pins : List ℕ)
    (instrs : List (Option InstrKind)) : Type 0 where
  pub constants_are : IsTableOf (constant_of g) constants
  pub words_are : IsTableOf (is_word_class g) words
  pub inputs_are : IsTableOf (is_input g) inputs
  pub safe_are : IsTableOf (is_safe g) safe
  pub pins_are : pins ≡ pinned_sets g
  pub few_pins : length pins ≤ 31
  pub few_sets : length g.sets < 2 ^ 30
  pub instrs_are : IsTableOf (instr_at g) instrs

-- the classes of the operands that pass
abbrev pub classes_among : (Operand → Bool) → List Operand → List ℕ
classes_among test os = map (λ o. o.class) (filter test os)

-- a list of the operand, if there is one
abbrev pub one_or_none : Option Operand → List Operand
one_or_none None = []
one_or_none (Some o) = o ∷ []

-- the instruction may be launched in the slot, in so many cycles
abbrev pub may_use : Table → InstrKind → ℕ → Bool
may_use table instr slot = option_map_or (λ u. list_any (λ r. r == slot) u.slots) (use_of table instr) false

-- marks of classes with that of a class which passes, if there is one
abbrev pub class_marked : List Bool → ℕ → Bool → List Bool
class_marked marks class passes = if passes && nat_lt class (length marks) then set marks class true else marks

-- constants of classes with one for a class that has none
abbrev pub with_constant : List (Option ℕ) → ℕ → Option ℕ → List (Option ℕ)
with_constant constants class constant =
    if nat_lt class (length constants)
    then set constants class (option_or (slice_index_or constants class None) constant)
    else constants

-- the class is a word's, and launches have to make it
abbrev pub is_unsafe_class : LaunchGraph → ℕ → Bool
is_unsafe_class g c = is_word_class g c && (not (is_safe g c) && not (is_zero_class g c))

-- and it passes
abbrev pub is_unsafe_shown : LaunchGraph → (ℕ → Bool) → ℕ → Bool
is_unsafe_shown g wants c = wants c && is_unsafe_class g c

abbrev pub launch_to : ℕ → ℕ → ℕ → To → Launch
launch_to row slot cycle to = record { cycle = cycle; slot = slot; row = row; to = to }

-- the launches of a row in a slot and cycle, to each destination
abbrev pub cycle_launches : ℕ → ℕ → List To → ℕ → List Launch
cycle_launches row slot tos cycle = map (launch_to row slot cycle) tos

-- in a slot, in each of so many cycles from a first one
abbrev pub destined_slot : ℕ → ℕ → ℕ → List To → ℕ → List Launch
destined_slot row first cycles tos slot = flat_map (cycle_launches row slot tos) (range_with_len first cycles)

-- those in each of the first slots that the instruction may use
abbrev pub destined_slots : Table → InstrKind → ℕ → ℕ → ℕ → List To → ℕ → List Launch
destined_slots table instr row first cycles tos slots =
    flat_map (destined_slot row first cycles tos) (filter (may_use table instr) (range_with_len 0 slots))
