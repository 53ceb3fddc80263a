-- What the first graph of a goal is, and what a refusal of it shows. From Denali (PLDI 2002), its matching phase, which
-- begins with the goal's terms.
use Rattle.std.specs.Prelude.{ℕ, ◌+◌, ◌<◌, ◌^◌, List, [], length}
use Rattle.word_ops.specs.Worlds.{World, IsWorld}
use Rattle.word_ops.specs.declared.sorts.Op.{Op}
use Rattle.word_ops.specs.declared.sorts.Sort.{Sort}
use Rattle.word_terms.specs.Keys.{op_signature}
use Rattle.word_terms.specs.Sorting.{HasSort}
use Rattle.word_terms.specs.Tree.{Tree}
use Rattle.axiom_base.specs.Schemes.{AddedRules}
use Rattle.egraph.specs.Graph.{Graph}
use Rattle.egraph.specs.declared.faults.MergeFault.{MergeFault}
use Rattle.egraph.specs.declared.faults.MergeFault.TheVariants as merging
use Rattle.goal_meaning.specs.Views.{GoalTree}
use Rattle.goal_meaning.specs.WellFormed.{operators_of_goal}
use Rattle.saturation.specs.Derives.{IsClash}
use Rattle.saturation.specs.GoalTerms.{present_terms, kept_terms, assumed_pairs}
use Rattle.saturation.specs.GraphStands.{GraphStands, RulesHold}
use Rattle.saturation.specs.Grown.{IsGrown}
use Rattle.saturation.specs.Trace.{AreInserted, AreAssumed}
use Rattle.saturation.specs.declared.faults.StartFault.{StartFault}
use Rattle.saturation.specs.declared.faults.StartFault.TheVariants.{NoWorld, Memory}

-- the terms without lets are inserted one after another, operands before their application, and then the sides of each
-- assumption are made equal
pub record IsStarted (goal : GoalTree) (g : Graph Op) : Type 0 where
  pub middle : Graph Op
  pub inserted : AreInserted (present_terms goal) (record { rows = []; current = [] }) middle
  pub assumed : AreAssumed (assumed_pairs goal) middle g

-- it is the graph after no round, whatever rules are added
abbrev pub IsGrownAtStart : GoalTree → Graph Op → Type 0
IsGrownAtStart goal g = (added : AddedRules) → IsGrown added (present_terms goal) (assumed_pairs goal) g 0

-- it stands for the goal's terms, whatever rules are added
abbrev pub StandsAtStart : GoalTree → Graph Op → Type 0
StandsAtStart goal g =
    (names : ℕ → List ℕ) (added : AddedRules) →
    GraphStands names added (assumed_pairs goal) (kept_terms goal) g

-- two different constants are equal before any round
abbrev pub StartFaultIs : GoalTree → StartFault → Type 0
StartFaultIs goal (NoWorld class a b) =
    (added : AddedRules) → IsClash added (present_terms goal) (assumed_pairs goal) 0 a b
StartFaultIs goal Memory = Unit {0}

-- what is assumed holds in no world
abbrev pub IsHopelessAtStart : GoalTree → StartFault → Type 0
IsHopelessAtStart goal (NoWorld class a b) =
    (names : ℕ → List ℕ) (added : AddedRules) (world : World) →
    IsWorld world →
    RulesHold world names added (assumed_pairs goal) →
    ⊥
IsHopelessAtStart goal Memory = Unit {0}

-- the class that is named was made, so its number is below 2^31
abbrev pub StartNamesLowClass : StartFault → Type 0
StartNamesLowClass (NoWorld class a b) = class < 2 ^ 31
StartNamesLowClass Memory = Unit {0}

-- as many rows as the first graph of a goal has at most: the memory at entry, each input, and each operator of a term;
-- a let counts once, however often its name stands
abbrev pub most_rows_at_start : GoalTree → ℕ
most_rows_at_start goal = 1 + length goal.inputs + operators_of_goal goal

abbrev pub start_fault : MergeFault → StartFault
start_fault (merging.NoWorld class a b) = NoWorld class a b
start_fault merging.Memory = Memory

-- a term of some sort without variables
pub record IsSorted (t : Tree Op) : Type 0 where
  pub sort : Sort
  pub is : HasSort op_signature [] sort t
