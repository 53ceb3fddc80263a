-- What running a list of words is: where n words end, or before which one they trap; and that words run from one state
-- to another in at most n steps. Source: this project, over the Handbook's steps. The words stand from address 0 on,
-- four bytes each.
use Rattle.std.specs.Prelude.{◌≡◌, ℕ, ◌+◌, ◌-◌, ◌*◌, ◌/◌, ◌<◌, zero, suc, pos, List, [], ◌∷◌, length, map, slice_get, Option, Some, None, IsSomeAnd, IsTrue, if◌then◌else◌}
use Rattle.std.specs.Option.{option_and_then, option_map_or}
use Rattle.alpha_machine.specs.States.{MachineState}
use Rattle.alpha_machine.specs.Steps.{step, traps}
use Rattle.alpha_encode.specs.Decoded.{decoded}
use Rattle.alpha_encode.specs.declared.instructions.Instr.{Instr}
use Rattle.alpha_encode.specs.declared.instructions.Instr.TheVariants.{Beq}
use Rattle.alpha_machine.specs.declared.running.End.{End}
use Rattle.alpha_machine.specs.declared.running.End.TheVariants.{Fall, Exit, Trap}

-- the instruction at pc div 4
abbrev pub fetched : List Instr → MachineState → Option Instr
fetched instrs s = slice_get instrs (s.pc / 4)

abbrev pub unless_trap : MachineState → Instr → Option Instr
unless_trap s i = if traps i s then None else Some i

-- the instruction that is stepped: none past the words, and none where it traps
abbrev pub stepped_instr : List Instr → MachineState → Option Instr
stepped_instr instrs s = option_and_then (unless_trap s) (fetched instrs s)

-- one step; where no instruction is stepped, nothing happens
abbrev pub stepped : List Instr → MachineState → MachineState
stepped instrs s = option_map_or (λ i. step i s) (stepped_instr instrs s) s

-- the state after n steps
abbrev pub after : ℕ → List Instr → MachineState → MachineState
after zero instrs s = s
after (suc n) instrs s = after n instrs (stepped instrs s)

abbrev pub stepped_first : Option Instr → List Instr → List Instr
stepped_first None instrs = instrs
stepped_first (Some i) instrs = i ∷ instrs

-- the instructions that are stepped in n steps
abbrev pub trace : ℕ → List Instr → MachineState → List Instr
trace zero instrs s = []
trace (suc n) instrs s = stepped_first (stepped_instr instrs s) (trace n instrs (stepped instrs s))

-- How a state ends n words: behind the last one; at the place one word further; or before an instruction that traps.
abbrev pub EndsIn : End → ℕ → List Instr → MachineState → Type 0
EndsIn Fall n instrs s = s.pc ≡ 4 * n
EndsIn Exit n instrs s = s.pc ≡ 4 * n + 4
EndsIn Trap n instrs s = IsSomeAnd (fetched instrs s) (λ i. IsTrue (traps i s))

-- From pc 0 the words lead, in at most as many steps as there are words, to this end and state. A state in which an
-- instruction traps is never left, so words that fall through or leave don't trap on the way.
pub record Runs (words : List ℕ) (start : MachineState) (end : End) (state : MachineState) : Type 0 where
  pub instrs : List Instr
  pub decode : map decoded words ≡ map Some instrs
  pub begins : start.pc ≡ 0
  pub steps : after (length words) instrs start ≡ state
  pub ends : EndsIn end (length words) instrs state

-- a branch at a place leads to the one place that is allowed
abbrev pub IsAllowedAt : ℕ → ℕ → Instr → Type 0
IsAllowedAt count at (Beq ra disp) = disp ≡ pos (count - at)
IsAllowedAt count at _ = Unit {0}

-- the word is an instruction that may stand at this place of so many words
abbrev pub MayStandAt : ℕ → ℕ → ℕ → Type 0
MayStandAt count at word = IsSomeAnd (decoded word) (IsAllowedAt count at)

-- each word may stand where it does
abbrev pub AllMayStand : List ℕ → Type 0
AllMayStand words = (at word : ℕ) → slice_get words at ≡ Some word → MayStandAt (length words) at word

-- the first word that may not stand where it does
pub record IsFirstBad (words : List ℕ) (at word : ℕ) : Type 0 where
  pub there : slice_get words at ≡ Some word
  pub bad : ¬ MayStandAt (length words) at word
  pub first : (j other : ℕ) → j < at → slice_get words j ≡ Some other → MayStandAt (length words) j other
