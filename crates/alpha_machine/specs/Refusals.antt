-- Why a word or a list of words isn't executed, and what is left then.
-- Source: this project.
use Rattle.std.specs.Prelude.{◌≡◌, ℕ, ◌<◌, List, length, map, Some, None, IsSomeAnd, IsTrue, IsFalse}
use Rattle.alpha_encode.specs.Decoded.{decoded}
use Rattle.alpha_encode.specs.declared.instructions.Instr.{Instr}
use Rattle.alpha_machine.specs.States.{MachineState}
use Rattle.alpha_machine.specs.Steps.{TakesMemory, traps}
use Rattle.alpha_machine.specs.Runs.{after, fetched, AllMayStand, IsFirstBad}
use Rattle.alpha_machine.specs.declared.stepping.StepFault.{StepFault}
use Rattle.alpha_machine.specs.declared.stepping.StepFault.TheVariants as step_faults
use Rattle.alpha_machine.specs.declared.running.RunFault.{RunFault}
use Rattle.alpha_machine.specs.declared.running.RunFault.TheVariants as run_faults

-- it doesn't trap, and takes memory of the host
abbrev pub MayLackMemory : MachineState → Instr → Type 0
MayLackMemory s instr = IsFalse (traps instr s) × TakesMemory instr s

-- the word is no instruction, or one that traps, or a store for which there is no memory; the state stays
abbrev pub IsStepRefused : ℕ → MachineState → MachineState → StepFault → Type 0
IsStepRefused word old new step_faults.NotWord = (decoded word ≡ None) × (new ≡ old)
IsStepRefused word old new step_faults.Trap = IsSomeAnd (decoded word) (λ instr. IsTrue (traps instr old)) × (new ≡ old)
IsStepRefused word old new step_faults.Memory = IsSomeAnd (decoded word) (MayLackMemory old) × (new ≡ old)

-- fewer steps than there are words lead to this state, and a store comes next
pub record IsBeforeStore (words : List ℕ) (start state : MachineState) : Type 0 where
  pub instrs : List Instr
  pub decode : map decoded words ≡ map Some instrs
  pub count : ℕ
  pub fewer : count < length words
  pub steps : after count instrs start ≡ state
  pub next : IsSomeAnd (fetched instrs state) (MayLackMemory state)

-- a word may not stand where it does, and no step was made; or there is no memory for a store
abbrev pub IsRunRefused : List ℕ → MachineState → MachineState → RunFault → Type 0
IsRunRefused words old new (run_faults.Bad at word) = IsFirstBad words at word × (new ≡ old)
IsRunRefused words old new run_faults.Memory = AllMayStand words × IsBeforeStore words old new
