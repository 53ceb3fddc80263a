-- Launch graphs, rows of operators over classes: constants, the memory target, registers, and values under which every
-- row is true. Source: Denali (PLDI 2002), E-graphs and "goal terms"; how registers are given is this project's.
use Rattle.std.specs.Prelude.{◌≡◌, ◌≢◌, ℕ, ◌<◌, List, [], ◌∷◌, ◌++◌, map, Option, None, Some, option_map, find, ◌==◌, All, AllPairs, Any, Contains, IfSome, if◌then◌else◌, codes, Bool, false, bytes_eq, slice_index}
use Rattle.std.specs.Option.{option_map_or, option_or}
use Rattle.std.specs.List.{list_any}
use Rattle.word_ops.specs.Worlds.{Value, word, memory, World, IsValue}
use Rattle.word_ops.specs.Meanings.{meaning, sort_of, constant_in}
use Rattle.word_ops.specs.declared.sorts.Op.{Op}
use Rattle.graph_meaning.specs.declared.graphs.LaunchRow.{LaunchRow}
use Rattle.graph_meaning.specs.declared.graphs.SetClass.{SetClass}
use Rattle.graph_meaning.specs.declared.graphs.LaunchGraph.{LaunchGraph}

-- a row of an operator that isn't declared
abbrev pub plain_row : ℕ → Op → List ℕ → LaunchRow
plain_row class o operands = record { class = class; op = o; name = []; operands = operands }

-- the constant of a class: that of its first row that is one
abbrev pub constant_among : List LaunchRow → ℕ → Option ℕ
constant_among [] class = None
constant_among (r ∷ rows) class =
    if r.class == class then option_or (constant_in r.op) (constant_among rows class) else constant_among rows class

abbrev pub constant_of : LaunchGraph → ℕ → Option ℕ
constant_of g class = constant_among g.rows class

-- the power of 2 of which the class is known to be a multiple, by its exponent
abbrev pub multiple_of : LaunchGraph → ℕ → ℕ
multiple_of g class = slice_index g.multiples class

-- the class has the constant 0
abbrev pub is_zero_class : LaunchGraph → ℕ → Bool
is_zero_class g class = option_map_or (λ n. n == 0) (constant_of g class) false

abbrev pub is_memory_name : List ℕ → Bool
is_memory_name name = bytes_eq name (codes "M")

-- the class of the first set named M, or that of the memory at entry
abbrev pub memory_target : LaunchGraph → ℕ
memory_target g = option_map_or (λ s. s.class) (find (λ s. is_memory_name s.name) g.sets) g.entry

-- the register of the first input of the class
abbrev pub input_register : LaunchGraph → ℕ → Option ℕ
input_register g class = option_map (λ i. i.reg) (find (λ i. i.class == class) g.inputs)

-- the registers of the inputs, and then those of the pool
abbrev pub registers_of : LaunchGraph → List ℕ
registers_of g = map (λ i. i.reg) g.inputs ++ g.pool

-- no two sets are pinned to one register
abbrev pub HaveOwnPins : List SetClass → Type 0
HaveOwnPins sets = AllPairs (λ s t. (r : ℕ) → s.pin ≡ Some r → t.pin ≢ Some r) sets

-- some set is pinned to the register
abbrev pub IsPin : LaunchGraph → ℕ → Type 0
IsPin g r = Any (λ s. s.pin ≡ Some r) g.sets

-- no set has a pin
abbrev pub HasNoPins : LaunchGraph → Type 0
HasNoPins g = All (λ s. s.pin ≡ None) g.sets

-- some input has the register
abbrev pub is_input_register : LaunchGraph → ℕ → Bool
is_input_register g r = list_any (λ i. i.reg == r) g.inputs

-- input registers and pool registers are all different numbers below 31; so are pins, of which none is in the pool
pub record IsProper (g : LaunchGraph) : Type 0 where
  pub differ : AllPairs (λ a b. a ≢ b) (registers_of g)
  pub low : All (λ r. r < 31) (registers_of g)
  pub own_pins : HaveOwnPins g.sets
  pub low_pins : All (λ s. IfSome s.pin (λ r. r < 31)) g.sets
  pub pins_apart : All (λ s. IfSome s.pin (λ r. ¬ Contains g.pool r)) g.sets

-- what a row gives in a world; a declared operator is the one of the row's name
abbrev pub row_meaning : World → LaunchRow → List Value → Value
row_meaning world r vs = meaning world (λ _. r.name) r.op vs

-- under these values of classes the row is true in the world, by some names of declared operators
abbrev pub IsTrueRow : World → (ℕ → Value) → LaunchRow → Type 0
IsTrueRow world value r = (names : ℕ → List ℕ) × (value r.class ≡ meaning world names r.op (map value r.operands))

abbrev pub AreTrueRows : World → (ℕ → Value) → List LaunchRow → Type 0
AreTrueRows world value rows = All (IsTrueRow world value) rows

-- under these values of classes every row is true in the world
pub record IsTrueUnder (g : LaunchGraph) (world : World) (value : ℕ → Value) : Type 0 where
  pub rows : All (λ r. value r.class ≡ row_meaning world r (map value r.operands)) g.rows
  pub sorts : All (λ r. IsValue (sort_of r.op) (value r.class)) g.rows
  pub inputs : All (λ i. value i.class ≡ word (slice_index world.registers i.reg)) g.inputs
  pub entry : value g.entry ≡ memory world.memory_at_entry
