-- What is written of the clauses of a goal in an answer. Source: this project.
use Rattle.std.specs.Prelude.{◌≡◌, ◌≤◌, ℕ, List, [], ◌∷◌, length, codes, slice_get, None, Some}
use Rattle.answer_check.specs.Reports.{encoding_named, verdict_words}
use Rattle.answer_check.specs.declared.verdicts.Verdict.TheVariants.{Size}
use Rattle.answer_texts.specs.ReadAnswers.{ReadsAnswer}
use Rattle.answer_texts.specs.declared.answers.AnswerText.{AnswerText}
use Rattle.answer_texts.specs.declared.answers.Claimed.{Claimed}
use Rattle.cnf_core.specs.Formula.{Formula}
use Rattle.cycle_encoding.specs.Plans.{IsTooLarge, PassesLimit}
use Rattle.cycle_encoding.specs.declared.encodings.Encoding.{Encoding}
use Rattle.reports.specs.declared.statuses.Status.{Status}
use Rattle.reports.specs.declared.statuses.Status.TheVariants.{Done, Missing}
use Rattle.graph_meaning.specs.declared.graphs.LaunchGraph.{LaunchGraph}
use Rattle.machine_table.specs.declared.tables.Table.{Table}
use Rattle.order_encoding.specs.WholeFormula.{IsFormulaOf}
use Rattle.text_core.specs.LineTexts.{Words, line_text}
use Rattle.dimacs.specs.Dimacs.{dimacs_text}

-- of a goal without a graph
abbrev pub no_world_words : List ℕ → Words
no_world_words name = codes "no" ∷ name ∷ codes "noworld" ∷ []

-- where there is no goal of the number
abbrev pub no_goal_words : Words
no_goal_words = codes "no" ∷ codes "goal" ∷ []

-- What is written of a goal's clauses for k cycles: those that are built where the goal's claims are tested, or why there
-- are none.
pub data AreClausesOf (e : Encoding) (table : Table) (c : Claimed) (k : ℕ) (bytes : List ℕ) (status : Status)
    : Type 0 where
  given : {g : LaunchGraph} {f : Formula} → c.graph ≡ Some g → IsFormulaOf e g table k f → ¬ IsTooLarge f
      → bytes ≡ dimacs_text f → status ≡ Done → AreClausesOf e table c k bytes status
  too_large : {g : LaunchGraph} {f : Formula} {vars clauses : ℕ} → c.graph ≡ Some g → IsFormulaOf e g table k f
      → PassesLimit f vars clauses → bytes ≡ line_text (verdict_words c (Size vars clauses)) → status ≡ Missing
      → AreClausesOf e table c k bytes status
  without_graph : c.graph ≡ None → bytes ≡ line_text (no_world_words c.name) → status ≡ Missing
      → AreClausesOf e table c k bytes status

-- of the goal at this place of an answer, counted from 0, if there is one
pub data AreClausesAt (a : AnswerText) (at k : ℕ) (bytes : List ℕ) (status : Status) : Type 0 where
  of_goal : {c : Claimed} → slice_get a.goals at ≡ Some c
      → AreClausesOf (encoding_named a.encoding) a.table c k bytes status → AreClausesAt a at k bytes status
  no_goal : length a.goals ≤ at → bytes ≡ line_text no_goal_words → status ≡ Missing
      → AreClausesAt a at k bytes status

-- the text reads as an answer, and this is written of the clauses of its goal at a place
pub record GivesClauses (at k : ℕ) (text bytes : List ℕ) (status : Status) : Type 0 where
  pub answer : AnswerText
  pub reads : ReadsAnswer text answer
  pub clauses : AreClausesAt answer at k bytes status
