-- What is launched from the E-graph of a goal: its rows in their order, with other numbers for classes and declared
-- operators. From this project.
use Rattle.std.specs.Prelude.{◌≡◌, ℕ, ◌<◌, ◌^◌, List, [], map, length, All, Contains}
use Rattle.word_ops.specs.declared.sorts.Op.{Op}
use Rattle.word_ops.specs.declared.sorts.Op.TheVariants.{Input, Declared}
use Rattle.word_ops.specs.declared.sorts.Arity.{Arity}
use Rattle.word_terms.specs.Tree.{Tree}
use Rattle.word_terms.specs.Keys.{op_signature}
use Rattle.axiom_base.specs.Rewrites.{IsRule}
use Rattle.axiom_base.specs.Schemes.{AddedRules}
use Rattle.egraph.specs.Graph.{Graph, IsGraph, HasClass}
use Rattle.egraph.specs.Joined.{relabel}
use Rattle.egraph.specs.declared.rows.Row.{Row}
use Rattle.pattern_match.specs.Classes.{IsClass}
use Rattle.graph_meaning.specs.WellFormed.{IsLaunchGraph}
use Rattle.graph_meaning.specs.declared.graphs.LaunchGraph.{LaunchGraph}
use Rattle.graph_meaning.specs.declared.graphs.LaunchRow.{LaunchRow}
use Rattle.goal_meaning.specs.Names.{declared_name}
use Rattle.goal_meaning.specs.Views.{GoalTree}
use Rattle.goal_meaning.specs.WellFormed.{IsDeclared}
use Rattle.goal_meaning.specs.declared.goals.DeclaredOp.{DeclaredOp}
use Rattle.saturation.specs.Derives.{Pair}
use Rattle.saturation.specs.GoalTerms.{kept_terms}
use Rattle.saturation.specs.Grown.{IsGrown}
use Rattle.saturation.specs.Rounds.{StopIs}
use Rattle.saturation.specs.StandsFor.{IsGraphOf, declared_number, row_view, graph_view}
use Rattle.graph_meaning.specs.declared.stops.Stop.{Stop}

-- the input of a register, a declared operator of the list, or any other operator
abbrev pub IsKnown : List DeclaredOp → Op → Type 0
IsKnown declared (Input register) = register < 31
IsKnown declared (Declared index arity) = IsDeclared declared index arity
IsKnown declared op = Unit {0}

-- the graph has fewer than 2 ^ 30 rows, of operators that its goal can name, and a class for each term of the goal
pub record CanMakeLaunchGraph (declared : List DeclaredOp) (goal : GoalTree) (graph : Graph Op) : Type 0 where
  pub graph_is : IsGraph op_signature graph
  pub few : length graph.rows < 2 ^ 30
  pub operators : All (λ r. IsKnown declared r.op) graph.rows
  pub classes : (t : Tree Op) → Contains (kept_terms goal) t → ((c : ℕ) × IsClass graph [] t c)

-- the row of the E-graph that a launch graph's row is, where `class_in` gives the E-graph's class of each of its
-- classes
abbrev pub row_in : List DeclaredOp → (ℕ → ℕ) → LaunchRow → Row Op
row_in declared class_in r = relabel class_in (row_view declared r)

pub record IsLaunched (declared : List DeclaredOp) (goal : GoalTree) (graph : Graph Op) (g : LaunchGraph) :
    Type 0 where
  pub well_formed : IsLaunchGraph g
  pub of : IsGraphOf declared goal g
  pub class_in : ℕ → ℕ
  pub rows : graph.rows ≡ map (row_in declared class_in) g.rows
  pub one_to_one :
      (c d : ℕ) →
      HasClass (graph_view declared g) c →
      HasClass (graph_view declared g) d →
      class_in c ≡ class_in d →
      c ≡ d
  -- each declared operator is one of the list
  pub named :
      (r : LaunchRow) (index : ℕ) (arity : Arity) →
      Contains g.rows r →
      r.op ≡ Declared index arity →
      declared_name declared (declared_number declared r.name) ≡ r.name

-- after each number of rounds that makes the first graph, the second one is made too
abbrev pub KeepsGrown : Graph Op → Graph Op → Type 0
KeepsGrown old new =
    (added : AddedRules) (present : List (Tree Op)) (equal : List Pair) (j : ℕ) →
    IsGrown added present equal old j →
    IsGrown added present equal new j

-- if rounds end with the first graph for a cause, they end with the second one for the same cause
abbrev pub KeepsStop : Graph Op → Graph Op → Type 0
KeepsStop old new =
    (added : AddedRules) (rounds nodes j : ℕ) (stop : Stop) →
    All IsRule added.axioms →
    StopIs added old rounds nodes j stop →
    StopIs added new rounds nodes j stop
