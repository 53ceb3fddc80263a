-- Settings, and the graph of a goal after its rounds of matching: what these derive and why they ended. From Denali
-- (PLDI 2002), its matching phase; when rounds end is this project's.
use Rattle.std.specs.Prelude.{ℕ, ◌≤◌, length, max}
use Rattle.schedule_meaning.specs.Limits.{most_cycles}
use Rattle.goal_meaning.specs.Views.{GoalTree, InputTree}
use Rattle.graph_meaning.specs.WellFormed.{IsLaunchGraph}
use Rattle.graph_meaning.specs.declared.graphs.LaunchGraph.{LaunchGraph}
use Rattle.saturation.specs.AtStart.{most_rows_at_start}
use Rattle.saturation.specs.Derives.{IsClash}
use Rattle.saturation.specs.GoalTerms.{assumed_pairs, present_terms, rules_of}
use Rattle.saturation.specs.Grown.{IsGrown, NotBefore}
use Rattle.saturation.specs.Rounds.{StopIs}
use Rattle.saturation.specs.StandsFor.{StandsFor, graph_view}
use Rattle.axiom_library.specs.declared.libraries.Library.{Library}
use Rattle.denali_run.specs.declared.results.Matched.{Matched}
use Rattle.denali_run.specs.declared.settings.Settings.{Settings}

-- the numbers are within their ranges
pub record IsSettings (s : Settings) : Type 0 where
  pub rounds : s.rounds ≤ 16
  pub nodes : (1 ≤ s.nodes) × (s.nodes ≤ 4096)
  pub cycles : s.cycles ≤ most_cycles
  pub conflicts : (1 ≤ s.conflicts) × (s.conflicts ≤ 1000000)

-- two terms have one class in the graph exactly where j rounds make them equal, and each class is that of a term
abbrev pub IsGrownFor : Library → InputTree → GoalTree → LaunchGraph → ℕ → Type 0
IsGrownFor library input goal g j =
    IsGrown (rules_of library input) (present_terms goal) (assumed_pairs goal) (graph_view input.ops g) j

-- j rounds make these constants equal, which differ
abbrev pub IsClashOf : Library → InputTree → GoalTree → ℕ → ℕ → ℕ → Type 0
IsClashOf library input goal j a b = IsClash (rules_of library input) (present_terms goal) (assumed_pairs goal) j a b

-- the rounds that are asked for don't end before round j
abbrev pub ReachesRound : InputTree → GoalTree → Settings → ℕ → Type 0
ReachesRound input goal s j =
    (j ≤ s.rounds) × NotBefore (rules_of s.library input) (present_terms goal) (assumed_pairs goal) s.rounds s.nodes j

-- The graph stands for the goal. Its rounds are as many as are asked for, or the first after which no match is unmet or
-- another round might pass the limit on rows; it has every equality that they derive and no other, and no two different
-- constants are equal in it. It has no more rows than the goal itself gives, or than were asked for.
pub record IsMatched (input : InputTree) (goal : GoalTree) (s : Settings) (m : Matched) : Type 0 where
  pub graph : IsLaunchGraph m.graph
  pub stands : StandsFor input goal m.graph
  pub grown : IsGrownFor s.library input goal m.graph m.rounds
  pub reached : ReachesRound input goal s m.rounds
  pub stops : StopIs (rules_of s.library input) (graph_view input.ops m.graph) s.rounds s.nodes m.rounds m.stop
  pub no_clash : (j a b : ℕ) → j ≤ m.rounds → ¬ IsClashOf s.library input goal j a b
  pub few : length m.graph.rows ≤ max (most_rows_at_start goal) s.nodes
