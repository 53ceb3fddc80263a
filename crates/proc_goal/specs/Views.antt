-- Procs as contracts see them: their terms are trees. Source: this project.
use Rattle.std.specs.Prelude.{ℕ, Bool, List, map, Option, option_map}
use Rattle.word_ops.specs.declared.sorts.Op.{Op}
use Rattle.word_terms.specs.Tree.{Tree}
use Rattle.word_terms.specs.View.{tree_of}
use Rattle.machine_table.specs.declared.tables.Table.{Table}
use Rattle.goal_meaning.specs.Views.{TargetTree, target_view}
use Rattle.goal_meaning.specs.declared.goals.InputReg.{InputReg}
use Rattle.proc_goal.specs.declared.procs.Block.{Block}
use Rattle.proc_goal.specs.declared.procs.Proc.{Proc}
use Rattle.proc_goal.specs.declared.procs.Target.{Target}
use Rattle.proc_goal.specs.declared.procs.When.{When}

-- a guard, and where a block is left for when it is 0
pub record WhenTree : Type 0 where
  pub guard : Tree Op
  pub other : Target

pub record BlockTree : Type 0 where
  pub name : List ℕ
  pub when : Option WhenTree
  pub sets : List TargetTree
  pub go : Target

pub record ProcTree : Type 0 where
  pub table : Table
  pub builtin : Bool
  pub name : List ℕ
  pub vars : List InputReg
  pub pool : List ℕ
  pub blocks : List BlockTree

abbrev pub when_view : When → WhenTree
when_view w = record { guard = tree_of w.guard; other = w.other }

abbrev pub block_view : Block → BlockTree
block_view b = record {
  name = b.name;
  when = option_map when_view b.when;
  sets = map target_view b.sets;
  go = b.go;
}

abbrev pub proc_view : Proc → ProcTree
proc_view p = record {
  table = p.table;
  builtin = p.builtin;
  name = p.name;
  vars = p.vars;
  pool = p.pool;
  blocks = map block_view p.blocks;
}

abbrev pub names_of_blocks : List BlockTree → List (List ℕ)
names_of_blocks blocks = map (λ (b : BlockTree). b.name) blocks
