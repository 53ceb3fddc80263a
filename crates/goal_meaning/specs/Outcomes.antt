-- The outcome of a goal in a world. From Denali's guarded multi-assignment (PLDI 2002): the block is left by its branch
-- where the guard is 0, and else all new values are those of the old state.
use Rattle.std.specs.Prelude.{ℕ, Bool, false, not, ◌==◌, Option, List, map, filter, find, bytes_eq, codes, if◌then◌else◌}
use Rattle.std.specs.Option.{option_map_or}
use Rattle.goal_meaning.specs.Expanded.{expanded}
use Rattle.goal_meaning.specs.Holds.{goal_value}
use Rattle.goal_meaning.specs.Views.{GoalTree, TargetTree}
use Rattle.goal_meaning.specs.declared.goals.DeclaredOp.{DeclaredOp}
use Rattle.word_ops.specs.Worlds.{Value, World, word, memory}
use Rattle.word_ops.specs.declared.sorts.Op.{Op}
use Rattle.word_terms.specs.Tree.{Tree}

-- a target and its new value
pub record NewValue : Type 0 where
  pub name : List ℕ
  pub value : Value

-- the block is left by its branch, or it ends behind its last instruction with these new words and this memory
pub data Outcome : Type 0 where
  exit : Outcome
  fall : List NewValue → Value → Outcome

abbrev pub is_zero : Value → Bool
is_zero (word n) = n == 0
is_zero (memory m) = false

-- there is a guard, and its value is 0
abbrev pub is_left : List DeclaredOp → World → Option (Tree Op) → Bool
is_left declared world guard = option_map_or (λ t. is_zero (goal_value declared world t)) guard false

abbrev pub is_memory : TargetTree → Bool
is_memory t = bytes_eq t.name (codes "M")

abbrev pub new_value : List DeclaredOp → World → TargetTree → NewValue
new_value declared world t = record { name = t.name; value = goal_value declared world t.value }

-- the new values of the targets that are words, in their order
abbrev pub new_words : List DeclaredOp → World → List TargetTree → List NewValue
new_words declared world sets = map (new_value declared world) (filter (λ t. not (is_memory t)) sets)

-- the value that is set for `M`, or the memory as it was
abbrev pub new_memory : List DeclaredOp → World → List TargetTree → Value
new_memory declared world sets =
    option_map_or (λ (t : TargetTree). goal_value declared world t.value) (find is_memory sets)
    (memory world.memory_at_entry)

abbrev pub outcome : List DeclaredOp → World → GoalTree → Outcome
outcome declared world g =
    if is_left declared world (expanded g).guard then exit
    else fall (new_words declared world (expanded g).sets) (new_memory declared world (expanded g).sets)
