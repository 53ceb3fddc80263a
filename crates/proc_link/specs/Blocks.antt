-- The block machine: a step takes one block of a proc, whose new values are all those of the old state. It knows nothing
-- of instructions, of registers but those that terms name, or of pins.
-- Source: Denali (PLDI 2002), guarded multi-assignment, for each block of a proc.
use Rattle.std.specs.Prelude.{ℕ, zero, suc, ◌==◌, Bool, false, if◌then◌else◌, List, [], map, slice_get, bytes_eq, codes, find, Option, Some, None}
use Rattle.std.specs.List.{range_with_len}
use Rattle.std.specs.Option.{option_map_or}
use Rattle.word_ops.specs.Memory.{Memory}
use Rattle.word_ops.specs.Meanings.{as_word, as_memory}
use Rattle.word_ops.specs.Worlds.{Value, World}
use Rattle.word_ops.specs.declared.sorts.Op.{Op}
use Rattle.word_terms.specs.Tree.{Tree}
use Rattle.goal_meaning.specs.Holds.{goal_value}
use Rattle.goal_meaning.specs.Outcomes.{is_zero}
use Rattle.goal_meaning.specs.Views.{TargetTree}
use Rattle.goal_meaning.specs.declared.goals.InputReg.{InputReg}
use Rattle.proc_goal.specs.Views.{WhenTree, BlockTree, ProcTree}
use Rattle.proc_goal.specs.declared.procs.Target.{Target}
use Rattle.proc_goal.specs.declared.procs.Target.TheVariants.{Block, Done}

-- a word for each variable, by its name, and the memory; and the block that comes next, or done
pub record BlockState : Type 0 where
  pub words : List ℕ → ℕ
  pub memory : Memory
  pub at : Target

-- the variable whose register this is has its word there
abbrev pub word_in : List InputReg → BlockState → ℕ → ℕ
word_in vars s r = option_map_or (λ (v : InputReg). s.words v.name) (find (λ (v : InputReg). v.reg == r) vars) 0

-- terms name variables by their registers, and have no declared operators
abbrev pub world_of : List InputReg → BlockState → World
world_of vars s = record {
  registers = map (word_in vars s) (range_with_len 0 32);
  memory_at_entry = s.memory;
  declared = λ name vs. 0;
}

abbrev pub value_now : List InputReg → BlockState → Tree Op → Value
value_now vars s t = goal_value [] (world_of vars s) t

abbrev pub sets_name : List ℕ → TargetTree → Bool
sets_name name t = bytes_eq t.name name

-- the new word of the variable of this name, and the new memory: the value that is set, or the old one
abbrev pub new_word : List InputReg → BlockTree → BlockState → List ℕ → ℕ
new_word vars b s name =
    option_map_or (λ (t : TargetTree). as_word (value_now vars s t.value)) (find (sets_name name) b.sets) (s.words name)

abbrev pub new_state_memory : List InputReg → BlockTree → BlockState → Memory
new_state_memory vars b s =
    option_map_or (λ (t : TargetTree). as_memory (value_now vars s t.value)) (find (sets_name (codes "M")) b.sets)
    s.memory

-- there is a guard, and its value is 0
abbrev pub guard_is_zero : List InputReg → BlockTree → BlockState → Bool
guard_is_zero vars b s = option_map_or (λ (w : WhenTree). is_zero (value_now vars s w.guard)) b.when false

-- where a block leads to when its guard is 0; one without a guard never does
abbrev pub other_of : BlockTree → Target
other_of b = option_map_or (λ (w : WhenTree). w.other) b.when b.go

-- one block: to `other` with all else as it was, or all sets at once and to `go`
abbrev pub through : List InputReg → BlockTree → BlockState → BlockState
through vars b s =
    if guard_is_zero vars b s then record { words = s.words; memory = s.memory; at = other_of b }
    else record { words = new_word vars b s; memory = new_state_memory vars b s; at = b.go }

abbrev pub through_at : List InputReg → Option BlockTree → BlockState → BlockState
through_at vars None s = s
through_at vars (Some b) s = through vars b s

-- one step; done stays
abbrev pub step_from : ProcTree → Target → BlockState → BlockState
step_from p Done s = s
step_from p (Block i) s = through_at p.vars (slice_get p.blocks i) s

abbrev pub block_step : ProcTree → BlockState → BlockState
block_step p s = step_from p s.at s

abbrev pub block_steps : ℕ → ProcTree → BlockState → BlockState
block_steps zero p s = s
block_steps (suc n) p s = block_steps n p (block_step p s)
