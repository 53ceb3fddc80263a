-- Goals, axioms and inputs as contracts see them: their terms are trees, since two vectors with the same items may
-- differ. Source: this project.
use Rattle.std.specs.Prelude.{ℕ, Bool, List, map, Option, option_map}
use Rattle.word_ops.specs.declared.sorts.Op.{Op}
use Rattle.word_terms.specs.Tree.{Tree}
use Rattle.word_terms.specs.View.{tree_of}
use Rattle.machine_table.specs.declared.tables.Table.{Table}
use Rattle.goal_meaning.specs.declared.goals.DeclaredOp.{DeclaredOp}
use Rattle.goal_meaning.specs.declared.goals.InputReg.{InputReg}
use Rattle.goal_meaning.specs.declared.goals.Let.{Let}
use Rattle.goal_meaning.specs.declared.goals.Assume.{Assume}
use Rattle.goal_meaning.specs.declared.goals.Set.{Set}
use Rattle.goal_meaning.specs.declared.goals.Goal.{Goal}
use Rattle.goal_meaning.specs.declared.goals.Axiom.{Axiom}
use Rattle.goal_meaning.specs.declared.goals.Input.{Input}

pub record TwoTrees : Type 0 where
  pub left : Tree Op
  pub right : Tree Op

pub record LetTree : Type 0 where
  pub name : List ℕ
  pub value : Tree Op

pub record TargetTree : Type 0 where
  pub name : List ℕ
  pub value : Tree Op
  pub pin : Option ℕ

pub record GoalTree : Type 0 where
  pub name : List ℕ
  pub inputs : List InputReg
  pub pool : List ℕ
  pub lets : List LetTree
  pub assumes : List TwoTrees
  pub guard : Option (Tree Op)
  pub sets : List TargetTree

pub record AxiomTree : Type 0 where
  pub variables : List (List ℕ)
  pub left : Tree Op
  pub right : Tree Op

pub record InputTree : Type 0 where
  pub table : Table
  pub builtin : Bool
  pub ops : List DeclaredOp
  pub axioms : List AxiomTree
  pub goals : List GoalTree

abbrev pub let_view : Let → LetTree
let_view l = record { name = l.name; value = tree_of l.value }

abbrev pub assume_view : Assume → TwoTrees
assume_view a = record { left = tree_of a.left; right = tree_of a.right }

abbrev pub target_view : Set → TargetTree
target_view t = record { name = t.name; value = tree_of t.value; pin = t.pin }

abbrev pub goal_view : Goal → GoalTree
goal_view g = record {
  name = g.name;
  inputs = g.inputs;
  pool = g.pool;
  lets = map let_view g.lets;
  assumes = map assume_view g.assumes;
  guard = option_map tree_of g.guard;
  sets = map target_view g.sets;
}

abbrev pub axiom_view : Axiom → AxiomTree
axiom_view a = record { variables = a.variables; left = tree_of a.left; right = tree_of a.right }

abbrev pub input_view : Input → InputTree
input_view i = record {
  table = i.table;
  builtin = i.builtin;
  ops = i.ops;
  axioms = map axiom_view i.axioms;
  goals = map goal_view i.goals;
}
