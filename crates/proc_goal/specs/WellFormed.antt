-- Well-formed procs: what holds of every proc that was read. Source: this project.
use Rattle.std.specs.Prelude.{true, false, ℕ, ◌≡◌, ◌≢◌, ◌+◌, ◌^◌, ◌<◌, ◌≤◌, List, [], ◌∷◌, ◌++◌, length, codes, Option, None, Some, IfSome, All, AllPairs, Contains}
use Rattle.std.specs.Option.{option_map_or}
use Rattle.text_core.specs.Limits.{most_nesting, most_blocks, most_sets, most_inputs}
use Rattle.text_core.specs.Names.{IsName}
use Rattle.word_ops.specs.declared.sorts.Op.{Op}
use Rattle.word_ops.specs.declared.sorts.Sort.{Sort}
use Rattle.word_ops.specs.declared.sorts.Sort.TheVariants as sorts
use Rattle.word_terms.specs.Keys.{op_signature}
use Rattle.word_terms.specs.OperatorsIn.{operators_in, EachOperator}
use Rattle.word_terms.specs.Sorting.{HasSort}
use Rattle.word_terms.specs.Tree.{Tree}
use Rattle.forms.specs.Printing.{most_levels, plains_from}
use Rattle.machine_table.specs.Tables.{IsTable, ev6}
use Rattle.machine_table.specs.declared.tables.Slot.{Slot}
use Rattle.goal_meaning.specs.Names.{is_reserved}
use Rattle.goal_meaning.specs.Views.{TargetTree}
use Rattle.goal_meaning.specs.WellFormed.{IsOfGoal, input_registers, operators_of_target, sort_of_target, sum_over}
use Rattle.goal_meaning.specs.declared.goals.InputReg.{InputReg}
use Rattle.proc_goal.specs.ProcForms.{proc_plains}
use Rattle.proc_goal.specs.Views.{WhenTree, BlockTree, ProcTree}
use Rattle.proc_goal.specs.declared.procs.Target.{Target}
use Rattle.proc_goal.specs.declared.procs.Target.TheVariants.{Block, Done}

-- the names and registers of a proc, and how many of everything there are
pub record KeepsProcRules (p : ProcTree) : Type 0 where
  pub variable_names : AllPairs (λ (i j : InputReg). i.name ≢ j.name) p.vars
  pub own_names : All (λ (i : InputReg). is_reserved i.name ≡ false) p.vars
  pub registers : AllPairs (λ a b. a ≢ b) (input_registers p.vars ++ p.pool)
  pub low : All (λ r. r < 31) (input_registers p.vars ++ p.pool)
  pub block_names : AllPairs (λ (a b : BlockTree). a.name ≢ b.name) p.blocks
  pub not_done : All (λ (b : BlockTree). b.name ≢ codes "done") p.blocks
  pub set_names : All (λ (b : BlockTree). AllPairs (λ (s t : TargetTree). s.name ≢ t.name) b.sets) p.blocks
  pub variables : (0 < length p.vars) × (length p.vars ≤ most_inputs)
  pub blocks : (0 < length p.blocks) × (length p.blocks ≤ most_blocks)
  pub few_sets : All (λ (b : BlockTree). length b.sets ≤ most_sets) p.blocks

-- a block that is there, of so many, or done
abbrev pub IsProcTarget : ℕ → Target → Type 0
IsProcTarget count (Block at) = at < count
IsProcTarget count Done = Unit {0}

-- what is set: the memory, which has no pin, or a variable, whose register is the pin
pub data IsPinned (vars : List InputReg) : List ℕ → Option ℕ → Type 0 where
  memory : {name : List ℕ} → name ≡ codes "M" → IsPinned vars name None
  variable : {name : List ℕ} {register : ℕ} → Contains vars (record { name = name; reg = register })
      → IsPinned vars name (Some register)

-- a term of the sort over the variables and M, without declared operators
pub record IsTermOver (vars : List InputReg) (sort : Sort) (t : Tree Op) : Type 0 where
  pub sorted : HasSort op_signature [] sort t
  pub operators : EachOperator (IsOfGoal [] vars) t

pub record IsGuard (vars : List InputReg) (count : ℕ) (w : WhenTree) : Type 0 where
  pub guard : IsTermOver vars sorts.Word w.guard
  pub other : IsProcTarget count w.other

pub record IsSet (vars : List InputReg) (t : TargetTree) : Type 0 where
  pub pinned : IsPinned vars t.name t.pin
  pub value : IsTermOver vars (sort_of_target t.name) t.value

-- a block over these variables, one of so many
pub record IsProcBlock (vars : List InputReg) (count : ℕ) (b : BlockTree) : Type 0 where
  pub named : IsName b.name
  pub when : IfSome b.when (IsGuard vars count)
  pub sets : All (IsSet vars) b.sets
  pub go : IsProcTarget count b.go

-- how many operators stand in the terms of a block; one without sets counts as one that sets the memory to itself
abbrev pub operators_of_sets : List TargetTree → ℕ
operators_of_sets [] = 1
operators_of_sets (t ∷ ts) = sum_over operators_of_target (t ∷ ts)

abbrev pub operators_of_block : BlockTree → ℕ
operators_of_block b =
    option_map_or (λ (w : WhenTree). operators_in w.guard) b.when 0 + operators_of_sets b.sets

abbrev pub operators_of_proc : ProcTree → ℕ
operators_of_proc p = sum_over operators_of_block p.blocks

pub record IsProc (p : ProcTree) : Type 0 where
  pub table : IsTable p.table
  pub slots : All (λ (s : Slot). IsName s.name) p.table.slots
  pub builtin : p.builtin ≡ true → p.table ≡ ev6
  pub named : IsName p.name
  pub variables : All (λ (i : InputReg). IsName i.name) p.vars
  pub rules : KeepsProcRules p
  pub blocks : All (IsProcBlock p.vars (length p.blocks)) p.blocks
  pub few_operators : operators_of_proc p < 2 ^ 29
  -- so many lists stand inside one another in its canonical text
  pub nested : most_levels (plains_from (proc_plains p)) ≤ most_nesting
