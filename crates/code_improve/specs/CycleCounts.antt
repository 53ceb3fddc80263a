-- What is said of the number of cycles in which machine words can be done. Source: this project.
use Rattle.std.specs.Prelude.{◌≡◌, ℕ, ◌+◌, ◌≤◌, List, [], ◌∷◌, ◌⊎◌, codes, decimal, fold, Option}
use Rattle.std.specs.List.{AllZip}
use Rattle.cnf_core.specs.Formula.{Formula}
use Rattle.cnf_core.specs.Outcome.{IsSpent}
use Rattle.cnf_core.specs.declared.line.Line.{Line}
use Rattle.cnf_core.specs.declared.line.Lines.{Lines}
use Rattle.code_lift.specs.LiftGrammar.{ReadsLifts}
use Rattle.code_lift.specs.Views.{LiftTree, LiftsTree}
use Rattle.cycle_encoding.specs.Plans.{IsTooLarge}
use Rattle.cycle_encoding.specs.declared.encodings.Encoding.TheVariants as encodings
use Rattle.denali_run.specs.Right.{ByClauses, IsLeast}
use Rattle.graph_meaning.specs.declared.graphs.LaunchGraph.{LaunchGraph}
use Rattle.machine_table.specs.declared.tables.Table.{Table}
use Rattle.own_graph.specs.Own.{IsOwnGraph}
use Rattle.reports.specs.Statuses.{greater}
use Rattle.reports.specs.declared.statuses.Status.{Status}
use Rattle.reports.specs.declared.statuses.Status.TheVariants as status
use Rattle.schedule_meaning.specs.Fits.{Fits}
use Rattle.schedule_meaning.specs.declared.schedules.Allocation.{Allocation}
use Rattle.schedule_meaning.specs.declared.schedules.Allocation.TheVariants.{Live}
use Rattle.schedule_meaning.specs.declared.schedules.Launch.{Launch}
use Rattle.text_core.specs.LineTexts.{Words, lines_text}
use Rattle.code_improve.specs.declared.counting.CycleCount.{CycleCount}
use Rattle.code_improve.specs.declared.counting.CycleCount.TheVariants.{Fewest, Over, Spent}

-- some schedule fits in k cycles
abbrev pub CanBeDone : LaunchGraph → Table → Allocation → ℕ → Type 0
CanBeDone g table a k = (ls : List Launch) × Fits g table a k ls

-- no schedule fits in fewer cycles than k, and lines refute the clauses for k - 1
abbrev pub IsLeastFor : (ℕ → Formula) → LaunchGraph → Table → Allocation → ℕ → ℕ → Type 0
IsLeastFor clauses_for g table a conflicts k =
    (refutation : Option Lines) × IsLeast clauses_for g table a conflicts k refutation

-- the clauses for k cycles are too large, or the solver spent its conflicts on them
abbrev pub IsSpentOn : (ℕ → Formula) → ℕ → ℕ → Type 0
IsSpentOn clauses_for conflicts k =
    IsTooLarge (clauses_for k) ⊎ ((lemmas : List Line) × IsSpent (clauses_for k) conflicts lemmas)

-- what is said of a graph is true, by the clauses for each number of cycles
abbrev pub IsCountBy : (ℕ → Formula) → LaunchGraph → Table → Allocation → ℕ → ℕ → CycleCount → Type 0
IsCountBy clauses_for g table a cycles conflicts (Fewest k) =
    (k ≤ cycles) × CanBeDone g table a k × IsLeastFor clauses_for g table a conflicts k
IsCountBy clauses_for g table a cycles conflicts (Over k) =
    (k ≡ cycles) × IsLeastFor clauses_for g table a conflicts (k + 1)
IsCountBy clauses_for g table a cycles conflicts (Spent k) =
    (k ≤ cycles) × IsSpentOn clauses_for conflicts k × IsLeastFor clauses_for g table a conflicts k

-- it is true of the graph of the lift's own words, where a register is free again when its word was read last
pub record IsCountOf (table : Table) (cycles conflicts : ℕ) (lift : LiftTree) (count : CycleCount) : Type 0 where
  pub graph : LaunchGraph
  pub own : IsOwnGraph lift graph
  pub is : ByClauses encodings.Live graph table (λ clauses_for. IsCountBy clauses_for graph table Live cycles conflicts count)

-- `cycles NAME K`, `none NAME K` or `spent NAME K`
abbrev pub count_words : List ℕ → CycleCount → Words
count_words name (Fewest k) = codes "cycles" ∷ name ∷ decimal k ∷ []
count_words name (Over k) = codes "none" ∷ name ∷ decimal k ∷ []
count_words name (Spent k) = codes "spent" ∷ name ∷ decimal k ∷ []

abbrev pub count_lines : List LiftTree → List CycleCount → List Words
count_lines (lift ∷ lifts) (count ∷ counts) = count_words lift.name count ∷ count_lines lifts counts
count_lines _ _ = []

-- the status that a count asks for
abbrev pub count_status : CycleCount → Status
count_status (Fewest k) = status.Done
count_status (Over k) = status.Missing
count_status (Spent k) = status.Spent

-- the status with the greatest code that the counts ask for
abbrev pub greatest_count_status : List CycleCount → Status
greatest_count_status counts = fold (λ s c. greater s (count_status c)) status.Done counts

-- The text reads as lifts, of each of them a count is true, the bytes are a line for each, and the status is the one
-- with the greatest code that they ask for.
pub record CountsCycles (cycles conflicts : ℕ) (text bytes : List ℕ) (ending : Status) : Type 0 where
  pub lifts : LiftsTree
  pub reads : ReadsLifts text lifts
  pub counts : List CycleCount
  pub each : AllZip (IsCountOf lifts.table cycles conflicts) lifts.lifts counts
  pub bytes_are : bytes ≡ lines_text (count_lines lifts.lifts counts)
  pub status_is : ending ≡ greatest_count_status counts
