-- What lifting promises: the words do what their goal says, exactly where they don't trap. From Denali's guarded
-- multi-assignment (PLDI 2002); the Alpha Architecture Handbook, version 4, for alignment faults.
use Rattle.std.specs.Prelude.{◌≡◌, ◌<◌, ℕ, List, [], All, slice_get, slice_index, Some, false}
use Rattle.word_ops.specs.Worlds.{World, word, memory}
use Rattle.alpha_machine.specs.States.{MachineState}
use Rattle.alpha_machine.specs.Runs.{Runs}
use Rattle.alpha_machine.specs.declared.running.End.TheVariants.{Fall, Trap}
use Rattle.goal_meaning.specs.Expanded.{expanded}
use Rattle.goal_meaning.specs.Holds.{IsMet, goal_value}
use Rattle.goal_meaning.specs.Outcomes.{new_memory}
use Rattle.goal_meaning.specs.Views.{TargetTree}
use Rattle.code_check.specs.Outcomes.{entry_state}
use Rattle.code_lift.specs.Lifted.{goal_of_lift, has_let, lifted}
use Rattle.code_lift.specs.Views.{LiftTree}

-- the assumptions of the lift's goal hold in the world
abbrev pub MeetsAssumes : LiftTree → World → Type 0
MeetsAssumes lift world = All (IsMet [] world) (expanded (goal_of_lift lift)).assumes

-- the words trap on the way
pub record TrapsOnTheWay (words : List ℕ) (world : World) : Type 0 where
  pub state : MachineState
  pub runs : Runs words (entry_state world) Trap state

-- the words run to their end, the memory is the goal's new one, each pinned target has its new value, and each register
-- that no word writes is as at entry
pub record DoesAsLifted (lift : LiftTree) (world : World) : Type 0 where
  pub state : MachineState
  pub runs : Runs lift.words (entry_state world) Fall state
  pub memory_is : memory state.memory ≡ new_memory [] world (expanded (goal_of_lift lift)).sets
  pub targets : (i r : ℕ) (t : TargetTree) → slice_get (expanded (goal_of_lift lift)).sets i ≡ Some t → t.pin ≡ Some r
      → word (slice_index state.registers r) ≡ goal_value [] world t.value
  pub others : (r : ℕ) → r < 31 → has_let (lifted lift.words) r ≡ false
      → slice_index state.registers r ≡ slice_index world.registers r
