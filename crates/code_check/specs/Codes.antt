-- Codes of an input that are well formed: what holds of every code that was read.
-- Source: this project.
use Rattle.std.specs.Prelude.{◌≡◌, ◌≢◌, ℕ, ◌<◌, ◌≤◌, ◌==◌, Bool, false, not, List, All, AllPairs, Contains, length, slice_get, Option, Some}
use Rattle.std.specs.Option.{option_map_or}
use Rattle.text_core.specs.Limits.{most_code_words}
use Rattle.alpha_encode.specs.declared.instructions.Instr.{Instr}
use Rattle.goal_meaning.specs.Outcomes.{is_memory}
use Rattle.goal_meaning.specs.Views.{GoalTree, InputTree, TargetTree}
use Rattle.code_check.specs.Outcomes.{IsCode}
use Rattle.code_check.specs.declared.codes.At.{At}
use Rattle.code_check.specs.declared.codes.Code.{Code}

-- the target of this number, which is a word
pub record IsWordTarget (sets : List TargetTree) (i : ℕ) : Type 0 where
  pub target : TargetTree
  pub there : slice_get sets i ≡ Some target
  pub is_word : is_memory target ≡ false

-- there is a pin, and the register is another one
abbrev pub is_other : Option ℕ → ℕ → Bool
is_other pin register = option_map_or (λ r. not (r == register)) pin false

-- the register is the target's pin, where the target has one
abbrev pub IsAtPin : List TargetTree → At → Type 0
IsAtPin sets p = (t : TargetTree) → slice_get sets p.set ≡ Some t → is_other t.pin p.reg ≡ false

-- each target that is a word has one register, which isn't 31 and is the target's pin, where it has one
pub record ArePlaces (sets : List TargetTree) (places : List At) : Type 0 where
  pub targets : All (λ (p : At). IsWordTarget sets p.set) places
  pub each : (i : ℕ) → IsWordTarget sets i → (reg : ℕ) × Contains places (record { set = i; reg = reg })
  pub differ : AllPairs (λ (p q : At). p.set ≢ q.set) places
  pub low : All (λ (p : At). p.reg < 31) places
  pub pinned : All (IsAtPin sets) places

-- the code's words are a code, with a place for each target of the goal
pub record FitsGoal (goal : GoalTree) (code : Code) : Type 0 where
  pub instrs : List Instr
  pub is_code : IsCode code.words instrs
  pub few : length code.words ≤ most_code_words
  pub places : ArePlaces goal.sets code.places

-- a code for one of the input's goals
pub record IsCodeOf (input : InputTree) (code : Code) : Type 0 where
  pub goal : GoalTree
  pub of_goal : slice_get input.goals code.goal ≡ Some goal
  pub fits : FitsGoal goal code
