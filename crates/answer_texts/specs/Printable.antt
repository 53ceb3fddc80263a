-- Which answers can be printed so that the text says them: their numbers, names and lines are within the limits of the
-- format, and what stands beside a claim fits it. Source: this project.
use Rattle.std.specs.Prelude.{ℕ, zero, suc, ◌≡◌, ◌<◌, ◌≤◌, ◌^◌, List, length, Option, None, Some, All, IsSomeAnd, IsTrue}
use Rattle.text_core.specs.Limits.{most_goals}
use Rattle.schedule_meaning.specs.Limits.{most_cycles}
use Rattle.cnf_core.specs.declared.line.Lines.{Lines}
use Rattle.graph_meaning.specs.Graphs.{HasNoPins}
use Rattle.graph_meaning.specs.WellFormed.{IsLaunchGraph}
use Rattle.graph_meaning.specs.declared.graphs.LaunchGraph.{LaunchGraph}
use Rattle.machine_table.specs.Tables.{IsTable, ev6}
use Rattle.machine_table.specs.declared.tables.Table.{Table}
use Rattle.refutation_check.specs.LineWords.{IsReadableLine}
use Rattle.graph_meaning.specs.declared.stops.Stop.{Stop}
use Rattle.text_core.specs.Names.{IsName}
use Rattle.answer_texts.specs.AnswerLines.{refuted_below}
use Rattle.answer_texts.specs.AnswerParts.{AreLaunches, AreCodes, AreWherePlaces, GoTogether, no_world_body, claimed_of}
use Rattle.answer_texts.specs.declared.answers.AnswerText.{AnswerText}
use Rattle.answer_texts.specs.declared.answers.Claim.{Claim}
use Rattle.answer_texts.specs.declared.answers.Claim.TheVariants.{NoWorld, Scheduled, Missing, SpentConflicts, SpentSize}
use Rattle.answer_texts.specs.declared.answers.Claimed.{Claimed}

-- lines of a refutation that can be read back, and whose count can
pub record AreReadable (lines : Lines) : Type 0 where
  pub few : length lines.lines < 2 ^ 31
  pub each : All IsReadableLine lines.lines

-- a claim on this graph of a goal; up to `most_cycles` are spoken of
abbrev pub IsGraphClaim : Table → LaunchGraph → Claim → Type 0
IsGraphClaim table g (NoWorld class a b) = ⊥
IsGraphClaim table g (Scheduled k schedule words places) =
    (k ≤ most_cycles) × AreLaunches table g schedule.launches × AreCodes words × AreWherePlaces places
IsGraphClaim table g (Missing k) = k ≤ most_cycles
IsGraphClaim table g (SpentConflicts k lemmas) = (k ≤ most_cycles) × AreReadable lemmas
IsGraphClaim table g (SpentSize k vars clauses) = (k ≤ most_cycles) × (vars < 2 ^ 64) × (clauses < 2 ^ 64)

-- lines where fewer cycles than a number are to be refuted, and none where there are none
abbrev pub AreLinesBelow : ℕ → Option Lines → Type 0
AreLinesBelow zero refute = refute ≡ None
AreLinesBelow (suc k) refute = IsSomeAnd refute AreReadable

-- in this version, a goal without a world, and one with a graph, a claim on it and the lines that the claim needs
pub data IsPrintableGoal (version : ℕ) (table : Table) : Claimed → Type 0 where
  no_world : {name : List ℕ} {class a b : ℕ} → IsName name → class < 2 ^ 31 → a < 2 ^ 64 → b < 2 ^ 64
      → IsPrintableGoal version table (claimed_of name (no_world_body class a b))
  worked : {name : List ℕ} {g : LaunchGraph} {rounds : ℕ} {stop : Stop} {claim : Claim} {refute : Option Lines}
      → IsName name → IsLaunchGraph g → (version ≡ 1 → HasNoPins g) → length g.rows ≤ 1000000 → rounds < 2 ^ 31
      → IsGraphClaim table g claim → AreLinesBelow (refuted_below claim) refute
      → IsPrintableGoal version table
      (record { name = name; graph = Some g; rounds = rounds; stop = stop; claim = claim; refute = refute })

pub record IsPrintable (a : AnswerText) : Type 0 where
  pub encoding : GoTogether a.version a.encoding
  pub table : IsTable a.table
  pub names : All (λ s. IsName s.name) a.table.slots
  pub built_in : IsTrue a.builtin → a.table ≡ ev6
  pub few : (1 ≤ length a.goals) × (length a.goals ≤ most_goals)
  pub goals : All (IsPrintableGoal a.version a.table) a.goals
