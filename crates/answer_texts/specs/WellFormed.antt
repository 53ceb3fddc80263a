-- What holds of each answer that a text says, beside its lines. Source: this project.
use Rattle.std.specs.Prelude.{ℕ, ◌≡◌, ◌≢◌, ◌<◌, ◌≤◌, ◌^◌, length, Option, None, Some, All, IsTrue}
use Rattle.schedule_meaning.specs.Limits.{most_cycles}
use Rattle.cnf_core.specs.declared.line.Lines.{Lines}
use Rattle.graph_meaning.specs.Graphs.{HasNoPins}
use Rattle.graph_meaning.specs.WellFormed.{IsLaunchGraph}
use Rattle.graph_meaning.specs.declared.graphs.LaunchGraph.{LaunchGraph}
use Rattle.machine_table.specs.Tables.{IsTable, ev6}
use Rattle.answer_texts.specs.AnswerLines.{refuted_below}
use Rattle.answer_texts.specs.AnswerParts.{GoTogether}
use Rattle.answer_texts.specs.declared.answers.AnswerText.{AnswerText}
use Rattle.answer_texts.specs.declared.answers.Claim.{Claim}
use Rattle.answer_texts.specs.declared.answers.Claim.TheVariants.{NoWorld, Scheduled, Missing, SpentConflicts, SpentSize}
use Rattle.answer_texts.specs.declared.answers.Claimed.{Claimed}

-- up to `most_cycles` are spoken of, and lists have fewer than 2 ^ 29 items
abbrev pub FitsClaim : Claim → Type 0
FitsClaim (NoWorld class a b) = Unit {0}
FitsClaim (Scheduled k schedule words places) = (k ≤ most_cycles) × (length schedule.launches < 2 ^ 29)
FitsClaim (Missing k) = k ≤ most_cycles
FitsClaim (SpentConflicts k lemmas) = (k ≤ most_cycles) × (length lemmas.lines < 2 ^ 29)
FitsClaim (SpentSize k vars clauses) = k ≤ most_cycles

-- lines where fewer cycles than a number are to be refuted, and none where there are none
pub data HasRefutation : ℕ → Option Lines → Type 0 where
  nothing_less : HasRefutation 0 None
  refuted : {k : ℕ} {lines : Lines} → length lines.lines < 2 ^ 29 → 0 < k → HasRefutation k (Some lines)

-- In a text of this version, a goal without a world has no graph and no lines; each other one has a well-formed graph,
-- in version 1 without pins, and the lines that it needs.
pub data IsClaimed (version : ℕ) (c : Claimed) : Type 0 where
  no_world : {class a b : ℕ} → c.claim ≡ NoWorld class a b → c.graph ≡ None → c.refute ≡ None → IsClaimed version c
  worked : {g : LaunchGraph} → ((class a b : ℕ) → c.claim ≢ NoWorld class a b) → c.graph ≡ Some g → IsLaunchGraph g
      → (version ≡ 1 → HasNoPins g) → FitsClaim c.claim → HasRefutation (refuted_below c.claim) c.refute
      → IsClaimed version c

pub record IsAnswer (a : AnswerText) : Type 0 where
  pub encoding : GoTogether a.version a.encoding
  pub table : IsTable a.table
  pub built_in : IsTrue a.builtin → a.table ≡ ev6
  pub goals : All (IsClaimed a.version) a.goals
