-- Words that do the same as given ones, wherever the given ones don't trap. Source: this project.
use Rattle.std.specs.Prelude.{◌≡◌, ℕ, List, false, All, Contains, slice_index}
use Rattle.word_ops.specs.Worlds.{IsWorld, World}
use Rattle.alpha_machine.specs.Runs.{Runs}
use Rattle.alpha_machine.specs.States.{MachineState}
use Rattle.alpha_machine.specs.declared.running.End.TheVariants.{Fall}
use Rattle.code_check.specs.Outcomes.{entry_state}
use Rattle.code_lift.specs.Lifted.{goal_of_lift, has_let, lifted}
use Rattle.code_lift.specs.Promises.{TrapsOnTheWay}
use Rattle.code_lift.specs.Views.{LiftTree}
use Rattle.denali_run.specs.declared.results.Answered.{Answered}
use Rattle.denali_run.specs.declared.results.Answered.TheVariants.{Scheduled}

-- Both words run to their end, and leave the same memory, and the same word in each register that counts. Each register
-- that the given words don't write and that isn't in the pool is as at entry.
pub record LeavesTheSame (lift : LiftTree) (words : List ℕ) (world : World) : Type 0 where
  pub given : MachineState
  pub given_runs : Runs lift.words (entry_state world) Fall given
  pub state : MachineState
  pub runs : Runs words (entry_state world) Fall state
  pub memory_is : state.memory ≡ given.memory
  pub registers : All (λ r. slice_index state.registers r ≡ slice_index given.registers r) lift.out
  pub others : (r : ℕ) → has_let (lifted lift.words) r ≡ false → ¬ Contains (goal_of_lift lift).pool r
      → slice_index state.registers r ≡ slice_index world.registers r

-- from all registers and memory from which the given words don't trap
abbrev pub DoesTheSame : LiftTree → List ℕ → Type 0
DoesTheSame lift words = (world : World) → IsWorld world → ¬ TrapsOnTheWay lift.words world → LeavesTheSame lift words world

-- so do the words of a result, where it has a schedule
abbrev pub IsImproved : LiftTree → Answered → Type 0
IsImproved lift (Scheduled f) = DoesTheSame lift f.words
IsImproved lift answered = Unit {0}
