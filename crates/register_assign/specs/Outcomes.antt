-- What running the words of a schedule must do, in each world in which the graph's rows are true.
-- Source: Denali (PLDI 2002), guarded multi-assignment: all new values are those of the old state, and the block is
-- left by its branch where the guard is 0.
use Rattle.std.specs.Prelude.{◌≡◌, ℕ, suc, pos, ◌-◌, ◌*◌, ◌<◌, ◌≤◌, List, map, length, Some, slice_get, slice_index, All, IsTrue, IsSomeAnd, Contains}
use Rattle.std.specs.List.{AllZip}
use Rattle.word_ops.specs.Worlds.{World, IsWorld, Value, word, memory}
use Rattle.alpha_encode.specs.Decoded.{decoded}
use Rattle.alpha_machine.specs.States.{MachineState}
use Rattle.alpha_machine.specs.Runs.{Runs, after, trace}
use Rattle.alpha_machine.specs.declared.running.End.TheVariants.{Fall, Exit}
use Rattle.alpha_encode.specs.declared.instructions.Instr.{Instr}
use Rattle.alpha_encode.specs.declared.instructions.Instr.TheVariants.{Beq}
use Rattle.graph_meaning.specs.Graphs.{memory_target, IsTrueUnder, IsPin}
use Rattle.schedule_meaning.specs.Launches.{is_held}
use Rattle.register_assign.specs.Obeys.{loads}
use Rattle.register_assign.specs.Listings.{word_targets}
use Rattle.register_assign.specs.declared.listings.Item.{Item}
use Rattle.register_assign.specs.declared.listings.Where.{Where}
use Rattle.graph_meaning.specs.declared.graphs.LaunchGraph.{LaunchGraph}

-- at the first word, with any registers and memory
abbrev pub entry_state : World → MachineState
entry_state w = record { registers = w.registers; memory = w.memory_at_entry; pc = 0 }

abbrev pub instrs_of : List Item → List Instr
instrs_of items = map (λ a. a.instr) items

-- each word is the instruction of its item
abbrev pub AreWordsOf : List Item → List ℕ → Type 0
AreWordsOf items words = map decoded words ≡ map Some (instrs_of items)

-- input registers are as at entry
abbrev pub KeepsInputs : LaunchGraph → World → MachineState → Type 0
KeepsInputs g w s = All (λ i. slice_index s.registers i.reg ≡ slice_index w.registers i.reg) g.inputs

-- registers that are neither of the pool nor pins are as at entry
abbrev pub KeepsOthers : LaunchGraph → World → MachineState → Type 0
KeepsOthers g w s =
    (r : ℕ) → ¬ Contains g.pool r → ¬ IsPin g r → slice_index s.registers r ≡ slice_index w.registers r

-- and so are the inputs' that are no pins
abbrev pub KeepsUnpinned : LaunchGraph → World → MachineState → Type 0
KeepsUnpinned g w s =
    All (λ i. ¬ IsPin g i.reg → slice_index s.registers i.reg ≡ slice_index w.registers i.reg) g.inputs

-- the words run to their end, and leave each target's value where the listing says, memory with its new value, and all
-- registers but those of the pool and the pins as at entry
pub record Falls (g : LaunchGraph) (w : World) (value : ℕ → Value) (words : List ℕ) (wheres : List Where) : Type 0 where
  pub state : MachineState
  pub runs : Runs words (entry_state w) Fall state
  pub targets : AllZip (λ p s. (p.name ≡ s.name)
      × (word (slice_index state.registers p.reg) ≡ value s.class)) wheres (word_targets g)
  pub memory_is : memory state.memory ≡ value (memory_target g)
  pub inputs : KeepsUnpinned g w state
  pub others : KeepsOthers g w state
  -- the words are stepped one after another
  pub each : (n : ℕ) → n ≤ length words → (after n runs.instrs (entry_state w)).pc ≡ 4 * n

-- the words leave by the branch, with memory and inputs as at entry, and no load that is held was stepped
pub record Exits (g : LaunchGraph) (w : World) (items : List Item) (words : List ℕ) : Type 0 where
  pub state : MachineState
  pub runs : Runs words (entry_state w) Exit state
  pub memory_is : state.memory ≡ w.memory_at_entry
  pub inputs : KeepsInputs g w state
  pub others : KeepsOthers g w state
  -- they are stepped one after another up to the branch, and it is taken
  pub place : ℕ
  pub inside : place < length words
  pub each : (n : ℕ) → n ≤ place → (after n (instrs_of items) (entry_state w)).pc ≡ 4 * n
  pub branch : (ra : ℕ) × (slice_get (instrs_of items) place ≡ Some (Beq ra (pos (length words - place))))
  pub taken : after (suc place) (instrs_of items) (entry_state w) ≡ state
  pub no_load : IsTrue (is_held g)
      → All (λ i. ¬ IsTrue (loads i)) (trace (length items) (instrs_of items) (entry_state w))

-- there is a guard, and its value is 0
abbrev pub IsExit : LaunchGraph → (ℕ → Value) → Type 0
IsExit g value = IsSomeAnd g.guard (λ guard. value guard.class ≡ word 0)

-- in each world where the graph's rows are true the words do what the graph says
pub record DoesAsGraphSays (g : LaunchGraph) (items : List Item) (words : List ℕ) (wheres : List Where) : Type 0 where
  pub falls : (w : World) (value : ℕ → Value) → IsWorld w → IsTrueUnder g w value → ¬ IsExit g value
      → Falls g w value words wheres
  pub exits : (w : World) (value : ℕ → Value) → IsWorld w → IsTrueUnder g w value → IsExit g value
      → Exits g w items words
