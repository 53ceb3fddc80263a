-- The goals of a proc, one for each block: its sets are the targets, and all variables are inputs. From Denali's guarded
-- multi-assignment (PLDI 2002).
use Rattle.std.specs.Prelude.{List, [], ◌∷◌, map, codes, None, option_map}
use Rattle.word_ops.specs.declared.sorts.Op.TheVariants.{Entry}
use Rattle.word_terms.specs.Tree.{application, none}
use Rattle.goal_meaning.specs.Views.{TargetTree, GoalTree, InputTree}
use Rattle.proc_goal.specs.Views.{WhenTree, BlockTree, ProcTree}

-- ( set M M )
abbrev pub memory_kept : TargetTree
memory_kept = record { name = codes "M"; value = application Entry none; pin = None }

-- a goal has a target, so a block without sets keeps the memory
abbrev pub sets_or_memory : List TargetTree → List TargetTree
sets_or_memory [] = memory_kept ∷ []
sets_or_memory (t ∷ ts) = t ∷ ts

abbrev pub goal_of_block : ProcTree → BlockTree → GoalTree
goal_of_block p b = record {
  name = b.name;
  inputs = p.vars;
  pool = p.pool;
  lets = [];
  assumes = [];
  guard = option_map (λ (w : WhenTree). w.guard) b.when;
  sets = sets_or_memory b.sets;
}

abbrev pub input_of_proc : ProcTree → InputTree
input_of_proc p = record {
  table = p.table;
  builtin = p.builtin;
  ops = [];
  axioms = [];
  goals = map (goal_of_block p) p.blocks;
}
