-- What running words must do for a goal, in each world in which the axioms and the goal's assumptions hold.
-- Source: Denali (PLDI 2002), guarded multi-assignment: all new values are those of the old state, and the block is
-- left by its branch where the guard is 0.
use Rattle.std.specs.Prelude.{◌≡◌, ℕ, List, length, slice_index, All, Any, Contains, filter, not, Some, IsTrue, IfSome, false}
use Rattle.std.specs.List.{AllZip}
use Rattle.word_ops.specs.Worlds.{World, IsWorld, Value, word, memory}
use Rattle.alpha_machine.specs.States.{MachineState}
use Rattle.alpha_machine.specs.Runs.{Runs, trace}
use Rattle.alpha_machine.specs.declared.running.End.TheVariants.{Fall, Exit}
use Rattle.goal_meaning.specs.Expanded.{expanded}
use Rattle.goal_meaning.specs.Holds.{HoldsFor}
use Rattle.goal_meaning.specs.Outcomes.{NewValue, Outcome, exit, fall, is_memory, outcome}
use Rattle.goal_meaning.specs.Views.{GoalTree, InputTree, TargetTree}
use Rattle.goal_meaning.specs.declared.goals.InputReg.{InputReg}
use Rattle.register_assign.specs.Obeys.{loads}
use Rattle.register_assign.specs.Outcomes.{entry_state, instrs_of}
use Rattle.register_assign.specs.declared.listings.Item.{Item}
use Rattle.register_assign.specs.declared.listings.Where.{Where}
use Rattle.saturation.specs.StandsFor.{has_select}

-- the registers of the goal's inputs are as at entry
abbrev pub KeepsGoalInputs : GoalTree → World → MachineState → Type 0
KeepsGoalInputs goal world s =
    All (λ (i : InputReg). slice_index s.registers i.reg ≡ slice_index world.registers i.reg) goal.inputs

-- some target of the goal is pinned to the register
abbrev pub IsPinOf : GoalTree → ℕ → Type 0
IsPinOf goal r = Any (λ (t : TargetTree). t.pin ≡ Some r) goal.sets

-- so are those of the goal's inputs to which no target is pinned
abbrev pub KeepsUnpinnedInputs : GoalTree → World → MachineState → Type 0
KeepsUnpinnedInputs goal world s =
    All (λ (i : InputReg). ¬ IsPinOf goal i.reg → slice_index s.registers i.reg ≡ slice_index world.registers i.reg)
    goal.inputs

-- and so are all registers but those of the goal's pool and its pins
abbrev pub KeepsOtherRegisters : GoalTree → World → MachineState → Type 0
KeepsOtherRegisters goal world s =
    (r : ℕ) → ¬ Contains goal.pool r → ¬ IsPinOf goal r → slice_index s.registers r ≡ slice_index world.registers r

-- the register to which a target is pinned has its new value
abbrev pub HasOwnValue : MachineState → TargetTree → NewValue → Type 0
HasOwnValue s t v = (r : ℕ) → t.pin ≡ Some r → word (slice_index s.registers r) ≡ v.value

-- the words run to their end; each target's new value is in the register that the answer says, and a pinned target's in
-- its pin; memory is the new one; inputs are kept but for those whose registers are pins, and nothing is written but
-- registers of the pool and pins
pub record EndsWith (goal : GoalTree) (world : World) (words : List ℕ) (wheres : List Where)
    (values : List NewValue) (new : Value) : Type 0 where
  pub state : MachineState
  pub runs : Runs words (entry_state world) Fall state
  pub targets : AllZip (λ (p : Where) (v : NewValue). (p.name ≡ v.name)
      × (word (slice_index state.registers p.reg) ≡ v.value)) wheres values
  pub pins : AllZip (HasOwnValue state) (filter (λ (t : TargetTree). not (is_memory t)) goal.sets) values
  pub memory_is : memory state.memory ≡ new
  pub inputs : KeepsUnpinnedInputs goal world state
  pub others : KeepsOtherRegisters goal world state

-- the words leave by the branch, with memory and inputs as at entry; and no load was stepped, unless the guard's own
-- term reads memory
pub record LeavesByBranch (goal : GoalTree) (world : World) (items : List Item) (words : List ℕ) : Type 0 where
  pub state : MachineState
  pub runs : Runs words (entry_state world) Exit state
  pub memory_is : state.memory ≡ world.memory_at_entry
  pub inputs : KeepsGoalInputs goal world state
  pub others : KeepsOtherRegisters goal world state
  pub no_load : IfSome goal.guard (λ t. has_select t ≡ false
      → All (λ i. ¬ IsTrue (loads i)) (trace (length items) (instrs_of items) (entry_state world)))

-- the words do what the outcome says, of a goal without lets
abbrev pub DoesAsSaid : GoalTree → World → List Item → List ℕ → List Where → Outcome → Type 0
DoesAsSaid goal world items words wheres exit = LeavesByBranch goal world items words
DoesAsSaid goal world items words wheres (fall values new) = EndsWith goal world words wheres values new

-- in each world in which axioms and assumptions hold, from its registers and memory, the words do what the goal says
abbrev pub Computes : InputTree → GoalTree → List Item → List ℕ → List Where → Type 0
Computes input goal items words wheres =
    (world : World)
    → IsWorld world
    → HoldsFor input goal world
    → DoesAsSaid (expanded goal) world items words wheres (outcome input.ops world goal)
