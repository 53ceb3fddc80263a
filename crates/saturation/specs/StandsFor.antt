-- When a launch graph is that of a goal, and when it stands for the goal's values. From Denali (PLDI 2002): a graph
-- has a class for each term of a goal, and classes have values under which every row is true.
use Rattle.std.specs.Prelude.{◌≡◌, ℕ, ◌||◌, Bool, false, true, not, List, [], map, Option, None, Some, bytes_eq}
use Rattle.std.specs.List.{AllZip, position_or_len, range_with_len}
use Rattle.word_ops.specs.Worlds.{World, IsWorld, Value}
use Rattle.word_ops.specs.declared.sorts.Op.{Op}
use Rattle.word_ops.specs.declared.sorts.Op.TheVariants.{Select, Declared}
use Rattle.word_terms.specs.Tree.{Tree, Trees, variable, application, none, more}
use Rattle.egraph.specs.Graph.{Graph}
use Rattle.egraph.specs.declared.rows.Row.{Row}
use Rattle.pattern_match.specs.Classes.{IsClass}
use Rattle.graph_meaning.specs.Graphs.{IsTrueUnder, IsProper}
use Rattle.graph_meaning.specs.WellFormed.{next_class}
use Rattle.graph_meaning.specs.declared.graphs.LaunchGraph.{LaunchGraph}
use Rattle.graph_meaning.specs.declared.graphs.LaunchRow.{LaunchRow}
use Rattle.graph_meaning.specs.declared.graphs.InputClass.{InputClass}
use Rattle.graph_meaning.specs.declared.graphs.SetClass.{SetClass}
use Rattle.graph_meaning.specs.declared.graphs.Guard.{Guard}
use Rattle.goal_meaning.specs.Expanded.{expanded}
use Rattle.goal_meaning.specs.Holds.{goal_value, HoldsFor}
use Rattle.goal_meaning.specs.Views.{TargetTree, GoalTree, InputTree}
use Rattle.goal_meaning.specs.declared.goals.InputReg.{InputReg}
use Rattle.goal_meaning.specs.declared.goals.DeclaredOp.{DeclaredOp}
use Rattle.saturation.specs.GoalTerms.{entry_term, input_term}

-- ---- the rows of a launch graph as those of an E-graph

-- the number of the first declared operator of the name, or how many there are
abbrev pub declared_number : List DeclaredOp → List ℕ → ℕ
declared_number declared name = position_or_len (λ (o : DeclaredOp). bytes_eq o.name name) declared

-- the operator of a row with this name
abbrev pub numbered_op : List DeclaredOp → Op → List ℕ → Op
numbered_op declared (Declared index arity) name = Declared (declared_number declared name) arity
numbered_op declared op name = op

abbrev pub row_view : List DeclaredOp → LaunchRow → Row Op
row_view declared r =
    record { op = numbered_op declared r.op r.name; operands = r.operands; class = r.class }

-- each class is in itself
abbrev pub graph_view : List DeclaredOp → LaunchGraph → Graph Op
graph_view declared g =
    record { rows = map (row_view declared) g.rows; current = range_with_len 0 (next_class g.rows) }

-- the term has the class in the launch graph
abbrev pub HasClassIn : List DeclaredOp → LaunchGraph → Tree Op → ℕ → Type 0
HasClassIn declared g t class = IsClass (graph_view declared g) [] t class

-- ---- the graph of a goal

abbrev pub is_select : Op → Bool
is_select (Select access) = true
is_select _ = false

-- whether the term reads a memory
abbrev mutual
  pub has_select : Tree Op → Bool
  has_select (variable n) = false
  has_select (application op ts) = is_select op || have_select ts

  pub have_select : Trees Op → Bool
  have_select none = false
  have_select (more t ts) = has_select t || have_select ts

pub record IsInputClass (declared : List DeclaredOp) (g : LaunchGraph) (c : InputClass) (i : InputReg) : Type 0 where
  pub name : c.name ≡ i.name
  pub register : c.reg ≡ i.reg
  pub class : HasClassIn declared g (input_term i.reg) c.class

pub record IsSetClass (declared : List DeclaredOp) (g : LaunchGraph) (c : SetClass) (s : TargetTree) : Type 0 where
  pub name : c.name ≡ s.name
  pub pin : c.pin ≡ s.pin
  pub class : HasClassIn declared g s.value c.class

-- loads wait for the branch where the guard's term reads no memory
abbrev pub IsGuardOf : List DeclaredOp → LaunchGraph → Option Guard → Option (Tree Op) → Type 0
IsGuardOf declared g None None = Unit {0}
IsGuardOf declared g (Some guard) (Some t) = HasClassIn declared g t guard.class × (guard.held ≡ not (has_select t))
IsGuardOf declared g _ _ = ⊥

-- inputs, pool, guard and sets are the goal's, with the classes of their terms without lets
pub record IsGraphOf (declared : List DeclaredOp) (goal : GoalTree) (g : LaunchGraph) : Type 0 where
  pub entry : HasClassIn declared g entry_term g.entry
  pub inputs : AllZip (IsInputClass declared g) g.inputs goal.inputs
  pub pool : g.pool ≡ goal.pool
  pub guard : IsGuardOf declared g g.guard (expanded goal).guard
  pub sets : AllZip (IsSetClass declared g) g.sets (expanded goal).sets
  pub proper : IsProper g

-- ---- its values

abbrev pub HasGuardValue : List DeclaredOp → World → (ℕ → Value) → Option Guard → Option (Tree Op) → Type 0
HasGuardValue declared world value (Some guard) (Some t) = value guard.class ≡ goal_value declared world t
HasGuardValue declared world value _ _ = Unit {0}

abbrev pub HasSetValue : List DeclaredOp → World → (ℕ → Value) → SetClass → TargetTree → Type 0
HasSetValue declared world value c s = value c.class ≡ goal_value declared world s.value

-- under these values of classes each row is true, and guard and sets have the values of their terms
pub record HasValues (declared : List DeclaredOp) (goal : GoalTree) (g : LaunchGraph) (world : World)
    (value : ℕ → Value) : Type 0 where
  pub rows : IsTrueUnder g world value
  pub guard : HasGuardValue declared world value g.guard (expanded goal).guard
  pub sets : AllZip (HasSetValue declared world value) g.sets (expanded goal).sets

-- it is the goal's, and has such values in each world in which axioms and assumptions hold
pub record StandsFor (input : InputTree) (goal : GoalTree) (g : LaunchGraph) : Type 0 where
  pub of : IsGraphOf input.ops goal g
  pub values :
      (world : World) →
      IsWorld world →
      HoldsFor input goal world →
      (value : ℕ → Value) × HasValues input.ops goal g world value
