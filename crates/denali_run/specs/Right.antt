-- When the result that answers a goal is right, case by case: which clauses say that a schedule fits, when lines refute
-- them, and that a number of cycles is the least. Source: this project, over Denali (PLDI 2002).
use Rattle.std.specs.Prelude.{◌≡◌, ℕ, ◌+◌, ◌<◌, ◌≤◌, ◌^◌, All, List, Option, None, Some, length}
use Rattle.std.specs.List.{AllZip}
use Rattle.word_ops.specs.Words.{IsWord}
use Rattle.word_ops.specs.Worlds.{World, IsWorld}
use Rattle.cnf_core.specs.Formula.{Formula}
use Rattle.cnf_core.specs.Outcome.{IsSpent}
use Rattle.cnf_core.specs.Refutation.{Refutes}
use Rattle.cnf_core.specs.declared.line.Line.{Line}
use Rattle.cnf_core.specs.declared.line.Lines.{Lines}
use Rattle.cycle_encoding.specs.Plans.{IsTooLarge, PassesLimit}
use Rattle.goal_meaning.specs.Holds.{HoldsFor}
use Rattle.goal_meaning.specs.Views.{GoalTree, InputTree}
use Rattle.graph_meaning.specs.declared.graphs.LaunchGraph.{LaunchGraph}
use Rattle.machine_table.specs.declared.tables.Table.{Table}
use Rattle.order_encoding.specs.WholeFormula.{AreFormulas}
use Rattle.register_assign.specs.Assigned.{IsTheListing}
use Rattle.register_assign.specs.Obeys.{Obeys}
use Rattle.register_assign.specs.Outcomes.{AreWordsOf}
use Rattle.schedule_meaning.specs.Fits.{Fits}
use Rattle.schedule_meaning.specs.declared.schedules.Allocation.{Allocation}
use Rattle.schedule_meaning.specs.declared.schedules.Launch.{Launch}
use Rattle.denali_run.specs.Encodings.{encoding_in}
use Rattle.denali_run.specs.GoalOutcomes.{Computes}
use Rattle.denali_run.specs.MatchedGoals.{IsClashOf, IsMatched, ReachesRound}
use Rattle.denali_run.specs.declared.results.Answered.{Answered}
use Rattle.denali_run.specs.declared.results.Answered.TheVariants.{Scheduled, Nowhere, SpentConflicts, SpentSize, NoWorld}
use Rattle.cycle_encoding.specs.declared.encodings.Encoding.{Encoding}
use Rattle.denali_run.specs.declared.results.Found.{Found}
use Rattle.denali_run.specs.declared.settings.Settings.{Settings}

-- ---- clauses and schedules of a graph, by the clauses for each number of cycles, and by how long launches keep their
-- registers

-- the clauses for k cycles are within the limits, and no list of launches fits in k cycles
pub record NoneFits (clauses_for : ℕ → Formula) (g : LaunchGraph) (table : Table) (a : Allocation) (k : ℕ)
    : Type 0 where
  pub within : ¬ IsTooLarge (clauses_for k)
  pub none : (ls : List Launch) → Fits g table a k ls → ⊥

-- the lines refute the clauses for k cycles, at most as many lines as conflicts were allowed, and no schedule fits in k
-- cycles
pub record IsTooFew (clauses_for : ℕ → Formula) (g : LaunchGraph) (table : Table) (a : Allocation) (conflicts k : ℕ)
    (lines : List Line) : Type 0 where
  pub few : length lines ≤ conflicts
  pub refutes : Refutes (clauses_for k) lines
  pub none_fits : NoneFits clauses_for g table a k

-- where k isn't 0 there are lines, and they refute the clauses for k - 1 cycles
pub data AreRefutedBelow (clauses_for : ℕ → Formula) (g : LaunchGraph) (table : Table) (a : Allocation)
    (conflicts : ℕ) : ℕ → Option Lines → Type 0 where
  nothing_less : AreRefutedBelow clauses_for g table a conflicts 0 None
  one_less : {k : ℕ} {lines : Lines} → IsTooFew clauses_for g table a conflicts k lines.lines
      → AreRefutedBelow clauses_for g table a conflicts (k + 1) (Some lines)

-- the lines refute the clauses for k - 1, and no schedule fits in fewer cycles than k
pub record IsLeast (clauses_for : ℕ → Formula) (g : LaunchGraph) (table : Table) (a : Allocation) (conflicts k : ℕ)
    (refutation : Option Lines) : Type 0 where
  pub refuted : AreRefutedBelow clauses_for g table a conflicts k refutation
  pub none_fits : (j : ℕ) → j < k → NoneFits clauses_for g table a j

-- some clauses for each number of cycles are the clauses of the encoding, and what is asked holds of them
pub record ByClauses (e : Encoding) (g : LaunchGraph) (table : Table) (Holds : (ℕ → Formula) → Type 0) : Type 0 where
  pub clauses_for : ℕ → Formula
  pub formulas : AreFormulas e g table clauses_for
  pub holds : Holds clauses_for

-- ---- results

-- The launches fit in k cycles. These are their instructions in word order and the places of the targets, these are the
-- instructions' words, of 32 bits, the instructions keep to the table, and the words compute the goal.
pub record IsScheduled (input : InputTree) (goal : GoalTree) (a : Allocation) (f : Found) : Type 0 where
  pub fits : Fits f.matched.graph input.table a f.k f.schedule.launches
  pub listing : IsTheListing f.matched.graph input.table a f.schedule.launches f.listing.items f.listing.wheres
  pub words : AreWordsOf f.listing.items f.words
  pub low : All (λ word. word < 2 ^ 32) f.words
  pub obeys : Obeys input.table f.k f.listing.items
  pub computes : Computes input goal f.listing.items f.words f.listing.wheres

-- two different constants are equal after a round that is reached, and so axioms and assumptions hold in no world
pub record HasNoWorld (input : InputTree) (goal : GoalTree) (s : Settings) (a b : ℕ) : Type 0 where
  pub round : ℕ
  pub reached : ReachesRound input goal s round
  pub clash : IsClashOf s.library input goal round a b
  pub nowhere : (world : World) → IsWorld world → HoldsFor input goal world → ⊥

abbrev pub Right : InputTree → GoalTree → Settings → Answered → Type 0
Right input goal s (Scheduled f) =
    IsMatched input goal s f.matched
    × (f.k ≤ s.cycles)
    × IsScheduled input goal s.allocation f
    × ByClauses (encoding_in s) f.matched.graph input.table (λ clauses_for. (¬ IsTooLarge (clauses_for f.k))
    × IsLeast clauses_for f.matched.graph input.table s.allocation s.conflicts f.k f.refutation)
Right input goal s (Nowhere m) =
    IsMatched input goal s m.matched
    × (m.k ≡ s.cycles)
    × ByClauses (encoding_in s) m.matched.graph input.table (λ clauses_for.
    IsLeast clauses_for m.matched.graph input.table s.allocation s.conflicts (m.k + 1) (Some m.refutation))
Right input goal s (SpentConflicts t) =
    IsMatched input goal s t.matched
    × (t.k ≤ s.cycles)
    × ByClauses (encoding_in s) t.matched.graph input.table (λ clauses_for. (¬ IsTooLarge (clauses_for t.k))
    × IsSpent (clauses_for t.k) s.conflicts t.lemmas.lines
    × IsLeast clauses_for t.matched.graph input.table s.allocation s.conflicts t.k t.refutation)
Right input goal s (SpentSize l) =
    IsMatched input goal s l.matched
    × (l.k ≤ s.cycles)
    × IsWord l.vars
    × IsWord l.clauses
    × ByClauses (encoding_in s) l.matched.graph input.table (λ clauses_for. PassesLimit (clauses_for l.k) l.vars l.clauses
    × IsLeast clauses_for l.matched.graph input.table s.allocation s.conflicts l.k l.refutation)
Right input goal s (NoWorld class a b) =
    HasNoWorld input goal s a b
    × (class < 2 ^ 31)
    × IsWord a
    × IsWord b

-- the results of an input's goals, in their order
abbrev pub AreRightResults : InputTree → Settings → List Answered → Type 0
AreRightResults input s results = AllZip (λ goal answered. Right input goal s answered) input.goals results
