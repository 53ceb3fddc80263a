-- What it means that the words of a code do what a goal says, in a world. From Denali's guarded multi-assignment (PLDI
-- 2002): all new values are those of the old state, and the block is left by its branch where the guard is 0.
use Rattle.std.specs.Prelude.{◌≡◌, ℕ, List, All, Contains, false, map, slice_get, slice_index, Some}
use Rattle.word_ops.specs.Worlds.{World, IsWorld, Value, word, memory}
use Rattle.alpha_encode.specs.Decoded.{decoded}
use Rattle.alpha_encode.specs.Formats.{IsWellFormed}
use Rattle.alpha_encode.specs.declared.instructions.Instr.{Instr}
use Rattle.alpha_machine.specs.States.{MachineState}
use Rattle.alpha_machine.specs.Runs.{Runs, AllMayStand}
use Rattle.alpha_machine.specs.declared.running.End.TheVariants.{Fall, Exit}
use Rattle.goal_meaning.specs.Expanded.{expanded}
use Rattle.goal_meaning.specs.Holds.{HoldsFor, goal_value}
use Rattle.goal_meaning.specs.Outcomes.{Outcome, exit, fall, outcome, is_memory}
use Rattle.goal_meaning.specs.Views.{GoalTree, InputTree, TargetTree}
use Rattle.goal_meaning.specs.declared.goals.InputReg.{InputReg}
use Rattle.goal_meaning.specs.declared.goals.DeclaredOp.{DeclaredOp}
use Rattle.code_check.specs.Same.{IsBranchAt}
use Rattle.code_check.specs.declared.codes.At.{At}

-- no two branches
abbrev pub HasOneBranch : List Instr → Type 0
HasOneBranch instrs = (a b ra rb : ℕ) → IsBranchAt instrs a ra → IsBranchAt instrs b rb → a ≡ b

-- the words' instructions, with one branch at most, which leads to one word behind the last
pub record IsCode (words : List ℕ) (instrs : List Instr) : Type 0 where
  pub decode : map decoded words ≡ map Some instrs
  pub well_formed : All IsWellFormed instrs
  pub stand : AllMayStand words
  pub one_branch : HasOneBranch instrs

-- at the first word, with any registers and memory
abbrev pub entry_state : World → MachineState
entry_state w = record { registers = w.registers; memory = w.memory_at_entry; pc = 0 }

-- the words run to their end, each target's new value is in its register, and the memory is the new one
pub record FallsWith (declared : List DeclaredOp) (goal : GoalTree) (world : World) (words : List ℕ) (places : List At)
    (new : Value) : Type 0 where
  pub state : MachineState
  pub runs : Runs words (entry_state world) Fall state
  pub targets :
      (i reg : ℕ) (t : TargetTree) →
      slice_get goal.sets i ≡ Some t →
      is_memory t ≡ false →
      Contains places (record { set = i; reg = reg }) →
      word (slice_index state.registers reg) ≡ goal_value declared world t.value
  pub memory_is : memory state.memory ≡ new

-- the words leave by the branch, with memory and input registers as at entry
pub record ExitsUnchanged (goal : GoalTree) (world : World) (words : List ℕ) : Type 0 where
  pub state : MachineState
  pub runs : Runs words (entry_state world) Exit state
  pub memory_is : state.memory ≡ world.memory_at_entry
  pub inputs : All (λ (i : InputReg). slice_index state.registers i.reg ≡ slice_index world.registers i.reg) goal.inputs

abbrev pub HasOutcome : List DeclaredOp → GoalTree → World → List ℕ → List At → Outcome → Type 0
HasOutcome declared goal world words places exit = ExitsUnchanged goal world words
HasOutcome declared goal world words places (fall values new) = FallsWith declared goal world words places new

-- in each world in which axioms and assumptions hold, the words have the goal's outcome
abbrev pub DoesGoal : InputTree → GoalTree → List ℕ → List At → Type 0
DoesGoal input goal words places =
    (world : World) →
    IsWorld world →
    HoldsFor input goal world →
    HasOutcome input.ops (expanded goal) world words places (outcome input.ops world goal)
