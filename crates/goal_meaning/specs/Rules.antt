-- The names and registers of a goal, and the pool of a goal that gives none. Source: this project.
use Rattle.std.specs.Prelude.{Bool, true, false, ℕ, ◌≡◌, ◌≢◌, ◌<◌, ◌≤◌, ◌==◌, not, List, [], ◌∷◌, ◌++◌, length, map, filter, filter_map, bytes_eq, codes, None, All, AllPairs}
use Rattle.std.specs.List.{list_any, range_with_len}
use Rattle.text_core.specs.Limits.{most_inputs, most_assumes, most_sets}
use Rattle.text_core.specs.Names.{is_among}
use Rattle.goal_meaning.specs.Expanded.{let_names}
use Rattle.goal_meaning.specs.Names.{is_reserved, names_of_declared}
use Rattle.goal_meaning.specs.Views.{TargetTree, GoalTree}
use Rattle.goal_meaning.specs.declared.goals.DeclaredOp.{DeclaredOp}
use Rattle.goal_meaning.specs.declared.goals.InputReg.{InputReg}

-- lets of a goal
abbrev pub most_lets : ℕ
most_lets = 256

abbrev pub has_register : List ℕ → ℕ → Bool
has_register given register = list_any (λ other. other == register) given

-- the registers that are free where nothing else is said: 0 to 8, 16 to 25, 27 and 28
abbrev pub free_registers : List ℕ
free_registers = range_with_len 0 9 ++ range_with_len 16 10 ++ 27 ∷ 28 ∷ []

-- a pool that isn't given has these, but for the registers of inputs and the pins
abbrev pub default_pool : List ℕ → List ℕ
default_pool taken = filter (λ r. not (has_register taken r)) free_registers

-- the registers to which targets are pinned
abbrev pub pins_of : List TargetTree → List ℕ
pins_of targets = filter_map (λ (t : TargetTree). t.pin) targets

abbrev pub names_of_inputs : List InputReg → List (List ℕ)
names_of_inputs inputs = map (λ (i : InputReg). i.name) inputs

-- the names and registers of a goal, and how many of everything there may be
pub record KeepsRules (declared : List DeclaredOp) (goal : GoalTree) : Type 0 where
  pub input_names : AllPairs (λ (i j : InputReg). i.name ≢ j.name) goal.inputs
  pub own_names : All (λ (i : InputReg). is_reserved i.name ≡ false) goal.inputs
  pub not_declared : All (λ (i : InputReg). is_among (names_of_declared declared) i.name ≡ false) goal.inputs
  -- inputs and lets are one group of names
  pub leaf_names : AllPairs (λ m n. m ≢ n) (names_of_inputs goal.inputs ++ let_names goal.lets)
  pub own_lets : All (λ n. (is_reserved n ≡ false) × (is_among (names_of_declared declared) n ≡ false)) (let_names goal.lets)
  pub registers : AllPairs (λ a b. a ≢ b) (map (λ (i : InputReg). i.reg) goal.inputs ++ goal.pool)
  pub low : All (λ r. r < 31) (map (λ (i : InputReg). i.reg) goal.inputs ++ goal.pool)
  pub targets : AllPairs (λ (s t : TargetTree). s.name ≢ t.name) goal.sets
  pub some_target : 0 < length goal.sets
  -- pins are registers that differ from each other and from those of the pool; one may be an input's
  pub pins : AllPairs (λ a b. a ≢ b) (goal.pool ++ pins_of goal.sets)
  pub low_pins : All (λ r. r < 31) (pins_of goal.sets)
  pub memory_unpinned : All (λ (t : TargetTree). bytes_eq t.name (codes "M") ≡ true → t.pin ≡ None) goal.sets
  pub few_lets : length goal.lets ≤ most_lets
  pub few : (length goal.inputs ≤ most_inputs) × (length goal.assumes ≤ most_assumes) × (length goal.sets ≤ most_sets)
